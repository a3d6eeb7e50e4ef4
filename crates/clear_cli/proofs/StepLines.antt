-- What the parts of a line of steps make of it.
use Rattle.std.proofs.Common.{◌≡◌, ℕ, zero, suc, ◌+◌, ◌*◌, ◌<◌, ◌≤◌, ◌^◌, ◌&&◌, ◌==◌, Bool, true, false, not, nat_le, List, [], ◌∷◌, length, Option, Some, option_map, option_and_then, slice_index, Result, Ok, Err, refl, sym, ap, ap₂, ◌∙◌, arith, rules}
use Rattle.std.specs.Char.{digit_value, is_ascii, is_ascii_digit}
use Rattle.std.specs.List.{after_first, before_first, list_all}
use Rattle.std.specs.Result.{result_ok}
use Rattle.std.specs.Str.{IsUtf8}
use Rattle.std.specs.Str.Parse.{ParsesUnsigned, digits_value, digits_value_after}
use Rattle.std.proofs.lemmas.Bool.Decides.{nat_tests}
use Rattle.std.proofs.lemmas.Str.{IsUtf8-from_ascii}
use Rattle.std.proofs.lemmas.Str.Parse.{IsNumeralModel, IsDigitsTest, numerals_by_value, digits_value_short, parse_digits}
use Rattle.ocpi_types.specs.declared.config.Config.{Config}
use Rattle.clear_cli.specs.declared.step_line.StepName.{StepName}
use Rattle.clear_cli.specs.StepLine.{call_named, is_call_number, is_space, step_line_of, step_named}

both : (a b : Bool) → (a && b) ≡ true → (a ≡ true) × (b ≡ true)
both true true e = (refl, refl)
both true false e = absurd cc
both false b e = absurd cc

-- ---- the number of a call

tells_digits : IsDigitsTest (λ ds. list_all is_ascii_digit ds ≡ true)
tells_digits = search rules

digits : IsNumeralModel (λ ds. list_all is_ascii_digit ds ≡ true) (digits_value 10)
digits = numerals_by_value _ tells_digits

record IsNumber (text : List ℕ) : Type 0 where
  pub some : nat_le 1 (length text) ≡ true
  pub few : nat_le (length text) 18 ≡ true
  pub all : list_all is_ascii_digit text ≡ true
  pub first : (slice_index text 0 == 48) ≡ false

number_is : (text : List ℕ) → is_call_number text ≡ true → IsNumber text
number_is text e = by (nat_le 1 (length text)) refl (nat_le (length text) 18) refl (list_all is_ascii_digit text) refl (slice_index text 0 == 48) refl e
  where
    by : (a : Bool) → nat_le 1 (length text) ≡ a → (b : Bool) → nat_le (length text) 18 ≡ b → (k : Bool) → list_all is_ascii_digit text ≡ k → (d : Bool) → (slice_index text 0 == 48) ≡ d
        → (a && b && k && not d) ≡ true → IsNumber text
    by true p true q true r false s e = record { some = p; few = q; all = r; first = s }
    by true p true q true r true s e = absurd cc
    by true p true q false r d s e = absurd cc
    by true p false q k r d s e = absurd cc
    by false p b q k r d s e = absurd cc

least_after : (n : ℕ) (cs : List ℕ) → n ≤ digits_value_after 10 n cs
least_after n [] = omega arith
least_after n (c ∷ cs) = let more = least_after (n * 10 + digit_value c) cs in omega (arith, more)

first_digit : (c : ℕ) → is_ascii_digit c ≡ true → (c == 48) ≡ false → 1 ≤ digit_value c
first_digit c d n = grind (arith, nat_tests)

number_is_some : (text : List ℕ) → IsNumber text → 1 ≤ digits_value 10 text
number_is_some [] n = let bad : false ≡ true = n.some in absurd cc
number_is_some (c ∷ cs) n =
    let first : 1 ≤ digit_value c = first_digit c (both (is_ascii_digit c) (list_all is_ascii_digit cs) n.all).0 n.first in
    let more : 0 * 10 + digit_value c ≤ digits_value 10 (c ∷ cs) = least_after (0 * 10 + digit_value c) cs in
    omega (arith, first, more)

pub number_parsed : {E : Type 0} (text : List ℕ) (r : Result ℕ E) → ParsesUnsigned 64 10 text r → is_call_number text ≡ true → result_ok r ≡ Some (digits_value 10 text)
number_parsed {E} text (Ok x) h e =
    let parsed = parse_digits digits {E = E} 64 text (Ok x) h (number_is text e).all in
    ap Some parsed.1
number_parsed {E} text (Err why) h e =
    let n = number_is text e in
    let failed = parse_digits digits {E = E} 64 text (Err why) h n.all in
    let small : digits_value 10 text < 10 ^ 18 = digits_value_short digits text 18 n.all (grind (arith, nat_tests)) in
    absurd (grind (arith, nat_tests))

pub number_from_one : (text : List ℕ) → is_call_number text ≡ true → 1 ≤ digits_value 10 text
number_from_one text e = number_is_some text (number_is text e)

-- ---- the parts of a line

ascii : (bs : List ℕ) → list_all is_ascii bs ≡ true → (i : ℕ) → slice_index bs i < 128
ascii [] h i = omega arith
ascii (b ∷ bs) h zero = let first = (both (is_ascii b) (list_all is_ascii bs) h).0 in grind (arith, nat_tests)
ascii (b ∷ bs) h (suc i) = ascii bs (both (is_ascii b) (list_all is_ascii bs) h).1 i

pub ascii_is_utf8 : (bs : List ℕ) → list_all is_ascii bs ≡ true → IsUtf8 bs
ascii_is_utf8 bs h = IsUtf8-from_ascii bs (ascii bs h)

pub said : (config : Config) (line number text : List ℕ) (call : ℕ) (named : Option StepName) → list_all is_ascii line ≡ true
    → number ≡ before_first is_space line → text ≡ after_first is_space line → call_named number ≡ Some call → step_named config text ≡ named
    → step_line_of config line ≡ option_map (λ named. record { call = call; named = named }) named
said config line number text call named a n t k s =
    rw a (ap₂ (λ (k : Option ℕ) (m : Option StepName). option_and_then (λ call. option_map (λ named. record { call = call; named = named }) m) k)
    (ap call_named (sym n) ∙ k) (ap (step_named config) (sym t) ∙ s))
