use Rattle.ocpi_types.proofs.SameTariffs.{tariffs}
use Rattle.ocpi_types.proofs.laws.same_tariffs_are_equal_folded.Goals as goal

pub returns : goal.returns
returns c = tariffs
