-- A house whose lines are kept in a store, and answered by a rule.
use Rattle.std.specs.Prelude.{◌≡◌, ◌⊎◌, ℕ, List, [], Option, Ok}
use Rattle.ocpi_types.specs.declared.config.Config.{Config}
use Rattle.ocpi_types.specs.ConfigText.{config_of}
use Rattle.line_streams.specs.State.{StreamState, empty_under}
use Rattle.request_lines.specs.Answering.{Rule}
use Rattle.kept_answers.specs.Keeping.{IsAllKept, IsKept, IsUntouched}
use Rattle.kept_house.specs.Beginning.{HasBegun, IsAtMostBegun}

-- the text reads as a configuration, and what was sent and kept is of a stream that begins under it; or nothing was sent or kept
abbrev pub IsStreamKept : Rule StreamState → List ℕ → (List ℕ → Type 0) → List (List ℕ) → List (List ℕ) → Option ℕ → List ℕ → Type 0
IsStreamKept rule text may_leave lines new from sent =
    IsUntouched may_leave lines sent
    ⊎ ((config : Config) × (config_of text ≡ Ok config) × IsKept rule (empty_under config) may_leave lines new from sent)

-- all lines are answered and kept, on the way to some state
abbrev pub IsStreamAllKept : Rule StreamState → List ℕ → List ℕ → List (List ℕ) → List (List ℕ) → Option ℕ → List ℕ → Type 0
IsStreamAllKept rule text file lines new from sent =
    (config : Config) × (end : StreamState) × (config_of text ≡ Ok config) × IsAllKept rule (empty_under config) file lines new from sent end

-- nothing was sent, and the store has at most begun; or it has begun, and what was sent and kept is of a stream under its configuration
abbrev pub IsHouseKept : Rule StreamState → List ℕ → List ℕ → (List ℕ → Type 0) → List (List ℕ) → List (List ℕ) → Option ℕ → List ℕ → Type 0
IsHouseKept rule program given may_leave old new from sent =
    ((sent ≡ []) × ((file : List ℕ) → may_leave file → IsAtMostBegun program given old file))
    ⊎ ((lines : List (List ℕ)) × (text : List ℕ) × HasBegun program given old lines text × IsStreamKept rule text may_leave lines new from sent)

-- the store has begun, and all lines are answered and kept
abbrev pub IsHouseAllKept : Rule StreamState → List ℕ → List ℕ → List ℕ → List (List ℕ) → List (List ℕ) → Option ℕ → List ℕ → Type 0
IsHouseAllKept rule program given file old new from sent =
    (lines : List (List ℕ)) × (text : List ℕ) × HasBegun program given old lines text × IsStreamAllKept rule text file lines new from sent
