use Rattle.std.proofs.Common.{refl}
use Rattle.ocpi_json.specs.Inner.Picked.{slot_of}
use Rattle.ocpi_json.proofs.picked.slot.Goals as goal

pub returns-clause-value : goal.returns-clause-value
unfolding slot_of
returns-clause-value c = refl
