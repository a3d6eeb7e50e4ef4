-- The first place of each key.
use Rattle.std.specs.Prelude.{◌≡◌, ℕ, Bool, Some, None, if◌then◌else◌}
use Rattle.std.specs.Option.{option_or}
use Rattle.indexmap.specs.IndexMap.{IndexMap, get}

-- a key that had a place keeps it, and this key has this place otherwise
abbrev pub AddsPlace : {K S : Type 0} → (K → K → Bool) → IndexMap K ℕ S → IndexMap K ℕ S → K → ℕ → Type 0
AddsPlace {K} eq old new key place =
    (asked : K) → get eq new asked ≡ option_or (get eq old asked) (if eq key asked then Some place else None)
