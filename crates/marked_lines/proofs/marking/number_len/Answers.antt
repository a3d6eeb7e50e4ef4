use Rattle.std.proofs.Common.{◌≡◌, length, sym, ◌∙◌, arith}
use Rattle.std.proofs.lemmas.List.Sums.{prefix_len_is}
use Rattle.marked_lines.specs.Cut.{is_number_byte}
use Rattle.marked_lines.proofs.marking.number_len.Goals as goal

pub returns-then-not-is_number_byte-clause-longest : goal.returns-then-not-is_number_byte-clause-longest
returns-then-not-is_number_byte-clause-longest c = sym (prefix_len_is is_number_byte c.args.bytes.now c.loop-index.index 0 (omega arith) c.loop-index.invariant (λ _. sym c.is_number_byte.ensures ∙ c.if-not-is_number_byte.true))

pub returns-clause-longest : goal.returns-clause-longest
returns-clause-longest c = let e : c.loop-index.index ≡ length c.args.bytes.now = omega arith in sym (prefix_len_is is_number_byte c.args.bytes.now (length c.args.bytes.now) 0 (omega arith) (λ k h. c.loop-index.invariant k (omega arith)) (λ h. absurd (omega arith)))
