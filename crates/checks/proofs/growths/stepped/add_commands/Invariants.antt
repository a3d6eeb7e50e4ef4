use Rattle.std.specs.Prelude.{All}
use Rattle.cdr_checks.specs.Admission.{IsAdmitted}
use Rattle.checks.proofs.growths.stepped.add_commands.Given as goal

abbrev pub invariant-loop-line : goal.invariant-loop-line
invariant-loop-line l = All (IsAdmitted l.config) l.commands.items
