-- Where two configurations differ.
use Rattle.std.specs.Prelude.{◌≡◌, ◌⊎◌, List, [], ◌∷◌, Option, None, Some}
use Rattle.ocpi_json.specs.declared.name.Name.{Name}
use Rattle.ocpi_json.specs.declared.name.Name.TheVariants as name
use Rattle.ocpi_types.specs.declared.config.Config.{Config}
use Rattle.ocpi_types.specs.declared.config.Operator.{Operator}
use Rattle.kept_house.specs.Clocks.{ShowSame}

-- the operators are one party, and clocks in their zones show the same
abbrev pub IsSameOperator : Operator → Operator → Type 0
IsSameOperator ours theirs = (ours.party ≡ theirs.party) × ShowSame ours.zone theirs.zone

-- the operators of two lists are the same, one by one
abbrev pub AreSameOperators : List Operator → List Operator → Type 0
AreSameOperators [] [] = Unit {0}
AreSameOperators [] (other ∷ theirs) = ⊥
AreSameOperators (operator ∷ ours) [] = ⊥
AreSameOperators (operator ∷ ours) (other ∷ theirs) = IsSameOperator operator other × AreSameOperators ours theirs

-- the member of this name is the first difference, or it is the same and the first difference is among the others
abbrev pub IsFirst : Name → Type 0 → (Option Name → Type 0) → Option Name → Type 0
IsFirst called same others None = same × others None
IsFirst called same others (Some found) = (¬ same × (found ≡ called)) ⊎ (same × others (Some found))

-- there are no more members
abbrev pub IsNoDifference : Option Name → Type 0
IsNoDifference found = found ≡ None

-- the name of the first member that differs, in the order of the format, if one does
abbrev pub IsFirstDifference : Config → Config → Option Name → Type 0
IsFirstDifference ours theirs =
    IsFirst name.Tolerance (ours.tolerance ≡ theirs.tolerance)
    (IsFirst name.Currencies (ours.currencies ≡ theirs.currencies)
    (IsFirst name.Operators (AreSameOperators ours.operators theirs.operators)
    (IsFirst name.Providers (ours.providers ≡ theirs.providers)
    (IsFirst name.Platforms (ours.platforms ≡ theirs.platforms)
    (IsFirst name.Limits (ours.limits ≡ theirs.limits)
    (IsFirst name.PairLimits (ours.pair_limits ≡ theirs.pair_limits)
    (IsFirst name.CreditWindow (ours.credit_window ≡ theirs.credit_window)
    IsNoDifference)))))))
