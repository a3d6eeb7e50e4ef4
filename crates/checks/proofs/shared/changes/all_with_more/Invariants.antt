use Rattle.shared_house.specs.Points.{AreAdmitted}
use Rattle.checks.proofs.shared.changes.all_with_more.Given as goal

abbrev pub invariant-loop-call : goal.invariant-loop-call
invariant-loop-call l = AreAdmitted l.config l.changed.items
