-- What passes the tests of an offset and of a rule's day and time lies in their ranges, and a name of no letters is text.
use Rattle.std.proofs.Common.{◌≡◌, ℤ, pos, neg_ℤ, ◌≤◌, ◌&&◌, Bool, true, false, [], refl, arith}
use Rattle.std.proofs.lemmas.Bool.Decides.{nat_tests}
use Rattle.std.specs.Prelude.{int_le}
use Rattle.std.specs.Str.{IsUtf8}
use Rattle.jiff.specs.Words.{IsOffsetSeconds, IsWithin}

pub offset_in : (n : ℤ) → int_le (neg_ℤ (pos 93_599)) n && int_le n (pos 93_599) ≡ true → IsOffsetSeconds n
offset_in n h = grind (arith, nat_tests)

pub day_in : (day within : Bool) → day && within ≡ true → day ≡ true
day_in true within h = refl
day_in false within h = h

pub time_in : (day : Bool) (n : ℤ) → day && (int_le (neg_ℤ (pos 604_799)) n && int_le n (pos 604_799)) ≡ true → IsWithin 604_799 n
time_in day n h = grind (arith, nat_tests)

pub nothing_fits : 0 ≤ 15
nothing_fits = omega arith

pub nothing_is_text : ∥ IsUtf8 [] ∥₁
nothing_is_text = ∣ ([], (refl, refl)) ∣₁
