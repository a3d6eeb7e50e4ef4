-- Sums that are found by a key.
use Rattle.std.specs.Prelude.{◌≡◌, ℕ, Bool, cond, List, [], ◌∷◌, Option, None, Some, if◌then◌else◌}
use Rattle.std.specs.Map.{count_at}
use Rattle.indexmap.specs.IndexMap.{get}
use Rattle.provider_account.specs.declared.sums.SumsByKey.{SumsByKey}

-- the sum of the key, 0 where none was set
abbrev pub sum_at : {K : Type 0} → (K → K → Bool) → SumsByKey K → K → ℕ
sum_at eq sums key = count_at (get eq sums.cells) key

-- the sum of this key is set, and the others stay
abbrev pub IsSet : {K : Type 0} → (K → K → Bool) → SumsByKey K → K → ℕ → SumsByKey K → Type 0
IsSet {K} eq old key sum new = (other : K) → sum_at eq new other ≡ cond (eq key other) sum (sum_at eq old other)

-- the sum of the first entry, if its key passes the test
abbrev pub first_if : {K : Type 0} → (K → Bool) → List (K × ℕ) → Option ℕ
first_if test [] = None
first_if test (entry ∷ entries) = if test entry.0 then Some entry.1 else None
