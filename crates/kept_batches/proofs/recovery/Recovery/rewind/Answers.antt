use Rattle.std.proofs.lemmas.Grind.{merely}
use Rattle.kept_batches.proofs.States.{start_state}
use Rattle.kept_batches.proofs.recovery.Recovery.rewind.Goals as goal

pub invariant_of-self-clause-state : goal.invariant_of-self-clause-state
invariant_of-self-clause-state g c now = merely (start_state _ _ c.first_head-head.ensures)
