use Rattle.ocpi_types.proofs.SameCdrs.{cdrs}
use Rattle.ocpi_types.proofs.laws.same_cdrs_are_equal_folded.Goals as goal

pub returns : goal.returns
returns c = cdrs
