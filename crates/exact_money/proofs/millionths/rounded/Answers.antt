use Rattle.std.proofs.Common.{◌≡◌, ◌++◌, ◌*◌, ◌^◌, length, arith, sym, ap, ◌∙◌}
use Rattle.std.proofs.lemmas.List.{append-nil}
use Rattle.std.specs.Str.Parse.{digits_value_after}
use Rattle.exact_money.proofs.Rounding.{head_bound, product_bound, up_whole, down_whole, short_whole, parts, empty_from_length}
use Rattle.exact_money.proofs.millionths.rounded.Goals as goal

pub value_after-head-requires-clause-small : goal.value_after-head-requires-clause-small
value_after-head-requires-clause-small c = head_bound _ _ _ c.value_after.ensures.bound c.requires.few_digits (omega (arith, c.split_at.ensures.front_len, c.min-kept.ensures))

pub overflow_mul-result : goal.overflow_mul-result
overflow_mul-result c =
    let power : c.millionths_per_unit.result * 10 ^ length c.split_at.result.0.now ≡ 1000000 = ap (λ k. c.millionths_per_unit.result * 10 ^ k) c.split_at.ensures.front_len ∙ c.millionths_per_unit.ensures in
    let h = product_bound c.value_after-head.result c.value_after.result (length c.args.whole.now) (length c.split_at.result.0.now) c.millionths_per_unit.result c.value_after.ensures.bound c.requires.few_digits c.value_after-head.ensures.bound power in
    omega (arith, h)

pub returns-in-None-clause-bound : goal.returns-in-None-clause-bound
returns-in-None-clause-bound c =
    let power : c.millionths_per_unit.result * 10 ^ length c.split_at.result.0.now ≡ 1000000 = ap (λ k. c.millionths_per_unit.result * 10 ^ k) c.split_at.ensures.front_len ∙ c.millionths_per_unit.ensures in
    product_bound c.value_after-head.result c.value_after.result (length c.args.whole.now) (length c.split_at.result.0.now) c.millionths_per_unit.result c.value_after.ensures.bound c.requires.few_digits c.value_after-head.ensures.bound power

pub returns-then-digit-ge53-clause-nearest : goal.returns-then-digit-ge53-clause-nearest
returns-then-digit-ge53-clause-nearest c =
    up_whole c.args.whole.now c.split_at.result.0.now c.args.fraction.now c.in-Some.field-0-1.now c.value_after-head.result c.in-Some.digit.now
    (record {
      head_is = c.value_after-head.ensures.value ∙ ap (λ w. digits_value_after 10 w c.split_at.result.0.now) c.value_after.ensures.value;
      fraction_is = parts c.min-kept.result c.args.fraction.now c.split_at.result.0.now _ c.split_at.ensures.front (sym c.in-Some.ensures.cases.0 ∙ c.split_at.ensures.back);
      six = omega (arith, c.split_at.ensures.front_len, c.split_at.ensures.back_len, c.min-kept.ensures, c.in-Some.ensures.cases.1);
      digits = c.requires.fraction_digits;
    })
    c.if-digit-ge53.true

pub returns-else-digit-ge53-clause-nearest : goal.returns-else-digit-ge53-clause-nearest
returns-else-digit-ge53-clause-nearest c =
    down_whole c.args.whole.now c.split_at.result.0.now c.args.fraction.now c.in-Some.field-0-1.now c.value_after-head.result c.in-Some.digit.now
    (record {
      head_is = c.value_after-head.ensures.value ∙ ap (λ w. digits_value_after 10 w c.split_at.result.0.now) c.value_after.ensures.value;
      fraction_is = parts c.min-kept.result c.args.fraction.now c.split_at.result.0.now _ c.split_at.ensures.front (sym c.in-Some.ensures.cases.0 ∙ c.split_at.ensures.back);
      six = omega (arith, c.split_at.ensures.front_len, c.split_at.ensures.back_len, c.min-kept.ensures, c.in-Some.ensures.cases.1);
      digits = c.requires.fraction_digits;
    })
    c.if-digit-ge53.false

pub returns-in-None-clause-nearest : goal.returns-in-None-clause-nearest
returns-in-None-clause-nearest c =
    let power : c.millionths_per_unit.result * 10 ^ length c.split_at.result.0.now ≡ 1000000 = ap (λ k. c.millionths_per_unit.result * 10 ^ k) c.split_at.ensures.front_len ∙ c.millionths_per_unit.ensures in
    let whole = parts c.min-kept.result c.args.fraction.now c.split_at.result.0.now c.split_at.result.1.now c.split_at.ensures.front c.split_at.ensures.back in
    short_whole c.args.whole.now c.split_at.result.0.now c.args.fraction.now c.value_after-head.result c.millionths_per_unit.result
    (c.value_after-head.ensures.value ∙ ap (λ w. digits_value_after 10 w c.split_at.result.0.now) c.value_after.ensures.value)
    (whole ∙ ap (λ l. c.split_at.result.0.now ++ l) (empty_from_length _ c.in-None.ensures.cases) ∙ append-nil c.split_at.result.0.now)
    power
