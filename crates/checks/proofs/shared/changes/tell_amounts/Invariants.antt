use Rattle.std.specs.Prelude.{All}
use Rattle.shared_house.specs.Points.{AreAdmitted}
use Rattle.checks.proofs.shared.changes.tell_amounts.Given as goal

abbrev pub invariant-loop-pass : goal.invariant-loop-pass
invariant-loop-pass g l = All (λ calls. AreAdmitted l.config calls.items) l.passes.items
