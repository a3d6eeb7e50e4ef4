use Rattle.ocpi_types.proofs.Letters.{currency_utf8}
use Rattle.ocpi_types.proofs.currency.Currency.as_str.Goals as goal

pub from_utf8_unchecked-requires : goal.from_utf8_unchecked-requires
from_utf8_unchecked-requires c = currency_utf8 _ c.self.invariant
