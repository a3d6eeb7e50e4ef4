-- The table of the platforms of a configuration.
use Rattle.std.specs.Prelude.{◌≡◌, ℕ, Bool, true, List, Option, Some, None, find, option_map, if◌then◌else◌}
use Rattle.indexmap.specs.IndexMap.{IndexMap, get}
use Rattle.ocpi_types.specs.declared.config.Config.{Config}
use Rattle.ocpi_types.specs.declared.config.Platform.{Platform}
use Rattle.ocpi_types.specs.declared.party.Party.{Party}
use Rattle.ocpi_types.specs.Config.{acts_for, alike_platforms}
use Rattle.ocpi_types.specs.Different.{all_different}
use Rattle.ocpi_types.specs.Party.{same_party}

abbrev pub name_if : Bool → List ℕ → Option (List ℕ)
name_if passes name = if passes then Some name else None

-- the name of the first platform that passes the test
abbrev pub first_name : (Platform → Bool) → List Platform → Option (List ℕ)
first_name test platforms = option_map (λ platform. platform.name) (find test platforms)

-- for each party the first platform that acts for it, and the first hub; no two platforms have the same name
pub record IsTableOf {S : Type 0} (config : Config) (acting : IndexMap Party (List ℕ) S) (hub : Option (List ℕ)) : Type 0 where
  pub acts : (party : Party) → get same_party acting party ≡ first_name (λ platform. acts_for platform party) config.platforms
  pub is_hub : hub ≡ first_name (λ platform. platform.hub) config.platforms
  pub different : all_different alike_platforms config.platforms ≡ true
