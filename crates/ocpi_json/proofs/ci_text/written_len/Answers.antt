use Rattle.std.proofs.Common.{◌≡◌, length, sym, arith}
use Rattle.std.proofs.lemmas.Bool.Decides.{nat_tests}
use Rattle.std.proofs.lemmas.List.Sums.{prefix_len_is}
use Rattle.ocpi_json.specs.Inner.Cells.{is_written}
use Rattle.ocpi_json.proofs.ci_text.written_len.Goals as goal

pub returns-then-byte-eq0-clause-value : goal.returns-then-byte-eq0-clause-value
returns-then-byte-eq0-clause-value c =
    sym (prefix_len_is is_written c.args.cells.now c.loop-index.index 0 (omega arith) c.loop-index.invariant (λ _. grind (arith, nat_tests)))

pub returns-clause-value : goal.returns-clause-value
returns-clause-value c =
    let e : c.loop-index.index ≡ length c.args.cells.now = omega arith in
    sym (prefix_len_is is_written c.args.cells.now (length c.args.cells.now) 0 (omega arith) (λ k h. c.loop-index.invariant k (omega arith)) (λ h. absurd (omega arith)))
