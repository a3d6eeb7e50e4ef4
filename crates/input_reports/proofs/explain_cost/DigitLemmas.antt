-- The last digits of a number, one after another.
use Rattle.std.proofs.Common.{◌≡◌, ◌∙◌, ℕ, zero, suc, ◌+◌, ◌/◌, ◌%◌, ◌^◌, ◌<◌, ◌≤◌, List, [], ◌∷◌, ◌++◌, false, refl, ap, sym, arith, append_assoc}
use Rattle.std.specs.Prelude.{◌==◌}
use Rattle.std.proofs.lemmas.Bool.Decides.{nat_tests}
use Rattle.std.proofs.lemmas.List.{append-nil}
use Rattle.std.proofs.Math.Nat.{pow-suc}
use Rattle.input_reports.specs.explain_cost.Numbers.{behind_point, last_digits, without_last_zeros}

pub power_above_zero : (places power : ℕ) → power ≡ 10 ^ places → 0 < power
power_above_zero zero power is = omega (arith, is)
power_above_zero (suc places) power is = let rest = power_above_zero places (10 ^ places) refl in omega (arith, is, rest, pow-suc 10 places)

-- ---- all digits

digits_of_one_more : (places left number : ℕ) → left + 1 ≡ places → last_digits places number ≡ (48 + number / 10 ^ left % 10) ∷ last_digits left number
unfolding last_digits
digits_of_one_more zero left number is = absurd (omega arith)
digits_of_one_more (suc places) left number is = let same : left ≡ places = omega arith in rw same refl

-- one digit more is written, and those behind it are left
pub digit_added : (places left number digit : ℕ) (old new whole : List ℕ) → left + 1 ≡ places → digit ≡ 48 + number / 10 ^ left % 10 →
    new ≡ old ++ digit ∷ [] → old ++ last_digits places number ≡ whole → new ++ last_digits left number ≡ whole
digit_added places left number digit old new whole is next added kept =
    rw (added, append_assoc old (digit ∷ []) (last_digits left number), next)
    (ap (λ (l : List ℕ). old ++ l) (sym (digits_of_one_more places left number is)) ∙ kept)

-- no digit is left
pub digits_done : (left number : ℕ) (text whole : List ℕ) → left ≤ 0 → text ++ last_digits left number ≡ whole → text ≡ whole
unfolding last_digits
digits_done zero number text whole none kept = sym (append-nil text) ∙ kept
digits_done (suc left) number text whole none kept = absurd (omega arith)

-- ---- without zeros at their end

pub zero_cut : (places left number : ℕ) → left + 1 ≡ places → number % 10 ≡ 0 → without_last_zeros places number ≡ without_last_zeros left (number / 10)
unfolding without_last_zeros
zero_cut zero left number is none = absurd (omega arith)
zero_cut (suc places) left number is none = let same : left ≡ places = omega arith in rw (none, same) refl

pub zeros_done : (places number : ℕ) → places ≤ 0 → last_digits places number ≡ without_last_zeros places number
unfolding last_digits without_last_zeros
zeros_done zero number none = refl
zeros_done (suc places) number none = absurd (omega arith)

pub no_zero_left : (places number : ℕ) → (number % 10 ≡ 0 → ⊥) → last_digits places number ≡ without_last_zeros places number
unfolding last_digits without_last_zeros
no_zero_left zero number some = refl
no_zero_left (suc places) number some = let no : (number % 10 == 0) ≡ false = grind (arith, nat_tests) in rw no refl

-- ---- behind a point

pub no_fraction : (places number : ℕ) (text digits : List ℕ) → places ≡ 0 → last_digits places number ≡ digits → text ≡ text ++ behind_point digits
unfolding last_digits
no_fraction zero number text digits none are = rw (← are) (sym (append-nil text))
no_fraction (suc places) number text digits none are = absurd (omega arith)

pub point_before : (places number : ℕ) (old new digits : List ℕ) → (places ≡ 0 → ⊥) → last_digits places number ≡ digits →
    new ≡ (old ++ 46 ∷ []) ++ last_digits places number → new ≡ old ++ behind_point digits
unfolding last_digits
point_before zero number old new digits some are now = absurd (some refl)
point_before (suc places) number old new digits some are now =
    rw (← are) (now ∙ append_assoc old (46 ∷ []) (last_digits (suc places) number))
