use Rattle.std.proofs.Common.{length, sym, ◌∙◌, arith}
use Rattle.std.proofs.lemmas.List.Sums.{prefix_len_is}
use Rattle.std.specs.Char.{is_ascii_digit}
use Rattle.exact_money.proofs.millionths.digits_len.Goals as goal

pub returns-then-not-is_ascii_digit-clause-longest : goal.returns-then-not-is_ascii_digit-clause-longest
returns-then-not-is_ascii_digit-clause-longest c =
    sym (prefix_len_is is_ascii_digit c.args.text.now c.loop-index.index 0 (omega arith) c.loop-index.invariant (λ _. sym c.is_ascii_digit.ensures.value ∙ c.if-not-is_ascii_digit.true))

pub returns-clause-longest : goal.returns-clause-longest
returns-clause-longest c = sym (prefix_len_is is_ascii_digit c.args.text.now (length c.args.text.now) 0 (omega arith) (λ k h. c.loop-index.invariant k (omega arith)) (λ h. absurd (omega arith)))
