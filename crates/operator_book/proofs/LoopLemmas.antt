-- Obligations added one after another.
use Rattle.std.proofs.Common.{◌≡◌, ◌<◌, ◌+◌, ◌&&◌, ℕ, List, ◌∷◌, ◌++◌, Bool, true, false, refl, sym, ◌∙◌, arith, append_assoc, append-nil}
use Rattle.std.specs.List.{list_all}
use Rattle.std.proofs.lemmas.List.Folds.{list_all-append}
use Rattle.std.proofs.lemmas.List.Sums.{sum_by-append, sum_by-cons}
use Rattle.netting_positions.specs.Netting.{size, total_size}
use Rattle.netting_positions.specs.declared.obligation.Obligation.{Obligation}
use Rattle.operator_book.proofs.KeyLemmas.{both_are}

-- what holds of all holds of the first of them, of those before and of those behind
pub first_passes : (p : Obligation → Bool) (o : Obligation) (later : List Obligation) → list_all p (o ∷ later) ≡ true → p o ≡ true
first_passes p o later h = (both_are (p o) (list_all p later) h).0

pub before_pass : (p : Obligation → Bool) (xs ys : List Obligation) → list_all p (xs ++ ys) ≡ true → list_all p xs ≡ true
before_pass p xs ys h = (both_are (list_all p xs) (list_all p ys) (sym (list_all-append p xs ys) ∙ h)).0

pub later_pass : (p : Obligation → Bool) (xs ys : List Obligation) → list_all p (xs ++ ys) ≡ true → list_all p ys ≡ true
later_pass p xs ys h = (both_are (list_all p xs) (list_all p ys) (sym (list_all-append p xs ys) ∙ h)).1

pub fits_at : (xs ys : List Obligation) (o : Obligation) (most : ℕ) → total_size (xs ++ o ∷ ys) < most → total_size xs + size o < most
fits_at xs ys o most h = omega (arith, sum_by-append size xs (o ∷ ys), sum_by-cons size o ys, h)

pub ruleset loop_rules = (first_passes, before_pass, later_pass, fits_at, append_assoc, append-nil)
