use Rattle.std.proofs.Common.{◌≡◌, ℕ, ◌<◌, get_or, false}
use Rattle.input_reports.specs.re_rate.Line.{is_space}
use Rattle.input_reports.proofs.re_rate.line.space_in.Given as goal

abbrev pub invariant-loop-index : goal.invariant-loop-index
invariant-loop-index l = (k : ℕ) → k < l.index → is_space (get_or l.line k 0) ≡ false
