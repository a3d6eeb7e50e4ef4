use Rattle.std.proofs.Common.{◌≡◌, ℕ, ◌<◌, get_or, true}
use Rattle.ocpi_json.specs.Inner.Cells.{is_written}
use Rattle.ocpi_json.proofs.ci_text.written_len.Given as goal

abbrev pub invariant-loop-index : goal.invariant-loop-index
invariant-loop-index l = (k : ℕ) → k < l.index → is_written (get_or l.cells k 0) ≡ true
