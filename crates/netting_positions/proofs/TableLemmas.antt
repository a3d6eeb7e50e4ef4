-- Obligations added one after another.
use Rattle.std.proofs.Common.{◌≡◌, ◌<◌, ◌+◌, ◌&&◌, ℕ, List, [], ◌∷◌, ◌++◌, Bool, true, false, refl, arith, append_assoc}
use Rattle.std.specs.List.{list_all}
use Rattle.std.proofs.lemmas.List.Sums.{sum_by-append, sum_by-cons}
use Rattle.netting_positions.specs.Netting.{size, total_size}
use Rattle.netting_positions.specs.declared.obligation.Obligation.{Obligation}

pub first_passes : (p : Obligation → Bool) (o : Obligation) (os : List Obligation) → list_all p (o ∷ os) ≡ true → p o ≡ true
first_passes p o os h = by (p o) (list_all p os) h
  where
    by : (a b : Bool) → (a && b) ≡ true → a ≡ true
    by true b g = refl
    by false b g = absurd (cc)

pub others_pass : (p : Obligation → Bool) (o : Obligation) (os : List Obligation) → list_all p (o ∷ os) ≡ true → list_all p os ≡ true
others_pass p o os h = by (p o) (list_all p os) h
  where
    by : (a b : Bool) → (a && b) ≡ true → b ≡ true
    by true true g = refl
    by true false g = absurd (cc)
    by false b g = absurd (cc)

pub first_fits : (n : ℕ) (o : Obligation) (os : List Obligation) (most : ℕ) → n + total_size (o ∷ os) < most → n + size o < most
first_fits n o os most h = omega (arith, sum_by-cons size o os, h)

pub others_fit : (before os : List Obligation) (o : Obligation) (most : ℕ) → total_size before + total_size (o ∷ os) < most → total_size (before ++ o ∷ []) + total_size os < most
others_fit before os o most h = omega (arith, sum_by-append size before (o ∷ []), sum_by-cons size o os, sum_by-cons size o [], h)

pub ruleset each_rules = (first_passes, others_pass, first_fits, others_fit, append_assoc)
