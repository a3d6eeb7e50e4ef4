use Rattle.ocpi_types.proofs.ContentDifferences.{cdrs}
use Rattle.ocpi_types.proofs.laws.cdrs_without_difference_are_same.Goals as goal

pub returns : goal.returns
returns c = cdrs
