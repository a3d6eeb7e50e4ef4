use Rattle.std.proofs.Common.{◌≡◌}
use Rattle.checks.proofs.growths.doing.do_lines.Given as goal

abbrev pub invariant-loop-line : goal.invariant-loop-line
invariant-loop-line g l = g.D.Doing.config l.house ≡ l.config
