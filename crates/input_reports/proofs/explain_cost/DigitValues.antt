-- The values of digits, and of the texts that they make.
use Rattle.std.proofs.Common.{◌≡◌, ◌∙◌, ℕ, zero, suc, ◌+◌, ◌-◌, ◌*◌, ◌/◌, ◌%◌, ◌^◌, ◌<◌, ◌≤◌, List, ◌∷◌, ◌++◌, length, Bool, true, false, cond, decimal, refl, ap, ap₂, sym, arith, append_assoc}
use Rattle.std.specs.Prelude.{◌==◌}
use Rattle.std.specs.Char.{digit_value}
use Rattle.std.specs.Str.Parse.{AllDigits, digits_value}
use Rattle.std.proofs.lemmas.Bool.Decides.{nat_tests}
use Rattle.std.proofs.lemmas.Fmt.{decimal_is_IsNumeral_wide}
use Rattle.std.proofs.lemmas.List.{append-nil}
use Rattle.std.proofs.Math.Arith.{mod-mul}
use Rattle.std.proofs.Math.Nat.{pow-suc, pow-succ'}
use Rattle.std.proofs.lemmas.Nat.{div-add-mod'}
use Rattle.exact_money.proofs.Rounding.{after_is}
use Rattle.input_reports.specs.explain_cost.Numbers.{behind_point, cost_text, last_digits, without_last_zeros}
use Rattle.input_reports.specs.explain_cost.ReadBack.{IsCost, IsDecimal, TextsReadBack, behind_space}
use Rattle.input_reports.proofs.explain_cost.DigitLemmas.{power_above_zero}

digit_value_is : (digit : ℕ) → digit < 10 → digit_value (48 + digit) ≡ digit
digit_value_is digit small = grind (arith, nat_tests)

-- the digits have the value of the number's last places
record HaveValue (places number : ℕ) (digits : List ℕ) : Type 0 where
  are_digits : AllDigits 10 digits
  few : length digits ≤ places
  value : digits_value 10 digits * 10 ^ (places - length digits) ≡ number % 10 ^ places

length-last_digits : (places number : ℕ) → length (last_digits places number) ≡ places
unfolding last_digits
length-last_digits zero number = refl
length-last_digits (suc places) number = ap suc (length-last_digits places number)

all_digits : (places number : ℕ) → AllDigits 10 (last_digits places number)
unfolding last_digits
all_digits zero number = tt
all_digits (suc places) number = (omega (arith, digit_value_is (number / 10 ^ places % 10) (omega arith)), all_digits places number)

value-last_digits : (places number : ℕ) → digits_value 10 (last_digits places number) ≡ number % 10 ^ places
unfolding last_digits
value-last_digits zero number = omega arith
value-last_digits (suc places) number =
    let digit = number / 10 ^ places % 10 in
    let power : 0 < 10 ^ places = power_above_zero places (10 ^ places) refl in
    let ten : 0 < 10 = omega arith in
    let is = digit_value_is digit (omega arith) in
    after_is (0 * 10 + digit_value (48 + digit)) (last_digits places number)
    ∙ ap₂ (λ (d l : ℕ). (0 * 10 + d) * 10 ^ l + digits_value 10 (last_digits places number)) is (length-last_digits places number)
    ∙ ap (λ (v : ℕ). (0 * 10 + digit) * 10 ^ places + v) (value-last_digits places number)
    ∙ omega arith
    ∙ sym (mod-mul number {m = 10} {c = 10 ^ places} ten power)
    ∙ ap (λ (p : ℕ). number % p) (sym (pow-succ' 10 places))

last_have_value : (places number : ℕ) → HaveValue places number (last_digits places number)
last_have_value places number =
    let length_is = length-last_digits places number in
    let none : places - length (last_digits places number) ≡ 0 = omega arith in
    record {
      are_digits = all_digits places number;
      few = omega arith;
      value = rw (none, value-last_digits places number) (omega arith);
    }

-- one place more, and a zero in it
zero_behind : (places number : ℕ) (digits : List ℕ) → number % 10 ≡ 0 → HaveValue places (number / 10) digits → HaveValue (suc places) number digits
zero_behind places number digits none have =
    let few : length digits ≤ places = have.few in
    let places_left : suc places - length digits ≡ suc (places - length digits) = omega arith in
    let power : 0 < 10 ^ places = power_above_zero places (10 ^ places) refl in
    let ten : 0 < 10 = omega arith in
    let last = mod-mul number {m = 10 ^ places} {c = 10} power ten in
    record {
      are_digits = have.are_digits;
      few = omega arith;
      value =
          ap (λ (l : ℕ). digits_value 10 digits * 10 ^ l) places_left
          ∙ ap (λ (p : ℕ). digits_value 10 digits * p) (pow-suc 10 (places - length digits))
          ∙ omega (arith, have.value, last, none)
          ∙ ap (λ (p : ℕ). number % p) (sym (pow-suc 10 places));
    }

shortened_have_value : (places number : ℕ) → HaveValue places number (without_last_zeros places number)
unfolding without_last_zeros
shortened_have_value zero number = record { are_digits = tt; few = omega arith; value = omega arith }
shortened_have_value (suc places) number = by (number % 10 == 0) refl (shortened_have_value places (number / 10))
  where
    by : (b : Bool) → (number % 10 == 0) ≡ b → HaveValue places (number / 10) (without_last_zeros places (number / 10)) →
        HaveValue (suc places) number (cond b (without_last_zeros places (number / 10)) (last_digits (suc places) number))
    by true is rest = let none : number % 10 ≡ 0 = grind (arith, nat_tests) in zero_behind places number (without_last_zeros places (number / 10)) none rest
    by false is rest = last_have_value (suc places) number

-- ---- texts

number_is_decimal : (places number whole : ℕ) (digits : List ℕ) → whole ≡ number / 10 ^ places → whole < 10 ^ 64 → HaveValue places number digits →
    IsDecimal places number (decimal whole ++ behind_point digits)
number_is_decimal places number whole digits is small have =
    let numeral = decimal_is_IsNumeral_wide whole small in
    record {
      whole = decimal whole;
      decimals = digits;
      spelled = refl;
      whole_digits = numeral.0;
      decimal_digits = have.are_digits;
      few = have.few;
      value =
          ap₂ (λ (w d : ℕ). w * 10 ^ places + d) (numeral.1 ∙ is) have.value
          ∙ div-add-mod' number (10 ^ places);
    }

with_point : (number : ℕ) → behind_point (last_digits 12 number) ≡ 46 ∷ last_digits 12 number
unfolding last_digits
with_point number = refl

cost_is : (units ninths : ℕ) → units < 2 ^ 128 → units % 9 ≡ ninths → IsCost units (cost_text units)
cost_is units zero small is =
    rw is (record {
      number = units / 9;
      ninths = 0;
      decimal = decimal (units / 9_000_000_000_000) ++ behind_point (without_last_zeros 12 (units / 9));
      spelled = sym (append-nil (decimal (units / 9_000_000_000_000) ++ behind_point (without_last_zeros 12 (units / 9))));
      is_decimal = number_is_decimal 12 (units / 9) (units / 9_000_000_000_000) (without_last_zeros 12 (units / 9)) (omega arith) (omega arith) (shortened_have_value 12 (units / 9));
      below_nine = omega arith;
      value = omega arith;
    })
cost_is units (suc ninths) small is =
    let front = decimal (units / 9_000_000_000_000) in
    let some : (suc ninths == 0) ≡ false = grind (arith, nat_tests) in
    rw (is, some) (record {
      number = units / 9;
      ninths = suc ninths;
      decimal = front ++ behind_point (last_digits 12 (units / 9));
      spelled = rw with_point (sym (append_assoc front (46 ∷ last_digits 12 (units / 9)) (behind_space (suc ninths))));
      is_decimal = number_is_decimal 12 (units / 9) (units / 9_000_000_000_000) (last_digits 12 (units / 9)) (omega arith) (omega arith) (last_have_value 12 (units / 9));
      below_nine = omega arith;
      value = omega arith;
    })

pub texts_read_back_lem : TextsReadBack
texts_read_back_lem = record {
  millionths = λ number small. number_is_decimal 6 number (number / 1_000_000) (without_last_zeros 6 number) refl (omega arith) (shortened_have_value 6 number);
  costs = λ units small. cost_is units (units % 9) small refl;
}
