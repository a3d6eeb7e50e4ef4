use Rattle.ocpi_types.proofs.ContentDifferences.{tariffs}
use Rattle.ocpi_types.proofs.laws.tariffs_without_difference_are_same.Goals as goal

pub returns : goal.returns
returns c = tariffs
