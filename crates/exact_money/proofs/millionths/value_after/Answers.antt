use Rattle.std.proofs.Common.{◌≡◌, [], ◌∷◌, ◌+◌, ◌*◌, ◌<◌, length, take, get_or, arith, ap, ◌∙◌}
use Rattle.std.proofs.lemmas.List.{take_more}
use Rattle.std.specs.Char.{digit_value}
use Rattle.std.specs.Str.Parse.{digits_value_after}
use Rattle.exact_money.proofs.Rounding.{digit_at, digit_range, digit_is, bound_step, bound_fits, after_append}
use Rattle.exact_money.proofs.millionths.value_after.Goals as goal

pub overflow_sub-digit : goal.overflow_sub-digit
overflow_sub-digit c = (digit_range _ (digit_at c.args.digits.now c.loop-digit.digit-index c.requires.digits c.loop-digit-test.true)).0

pub overflow_mul-value : goal.overflow_mul-value
overflow_mul-value c =
    let step = bound_step c.args.n c.loop-digit.digit-index c.loop-digit.value 0 c.loop-digit.invariant.bound (omega arith) in
    let fits = bound_fits c.args.n (c.loop-digit.digit-index + 1) (length c.args.digits.now) (omega arith) in
    omega (arith, step, fits, c.requires.small)

pub overflow_add-value : goal.overflow_add-value
overflow_add-value c =
    let digit = digit_range (get_or c.args.digits.now c.loop-digit.digit-index 0) (digit_at c.args.digits.now c.loop-digit.digit-index c.requires.digits c.loop-digit-test.true) in
    let small : c.from.result < 10 = omega (arith, digit.0, digit.1, c.from.ensures) in
    let step = bound_step c.args.n c.loop-digit.digit-index c.loop-digit.value c.from.result c.loop-digit.invariant.bound small in
    let fits = bound_fits c.args.n (c.loop-digit.digit-index + 1) (length c.args.digits.now) (omega arith) in
    omega (arith, step, fits, c.requires.small)

pub loop-digit-preserved : goal.loop-digit-preserved
loop-digit-preserved c =
    let xs = c.args.digits.now in
    let i = c.loop-digit.digit-index in
    let below = digit_at xs i c.requires.digits c.loop-digit-test.true in
    let is = digit_is (get_or xs i 0) below in
    let small : c.from.result < 10 = omega (arith, is, below, c.from.ensures) in
    let more : digits_value_after 10 c.args.n (take (i + 1) xs) ≡ digits_value_after 10 c.args.n (take i xs) * 10 + digit_value (get_or xs i 0) =
    ap (digits_value_after 10 c.args.n) (take_more xs i 0 c.loop-digit-test.true) ∙ after_append c.args.n (take i xs) (get_or xs i 0 ∷ []) in
    record {
      value_is = omega (arith, more, is, c.from.ensures, c.loop-digit.invariant.value_is);
      bound = bound_step c.args.n i c.loop-digit.value c.from.result c.loop-digit.invariant.bound small;
    }
