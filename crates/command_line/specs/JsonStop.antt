-- Where a text stops being JSON (RFC 8259), as the house reads it: `data_of`.
use Rattle.std.specs.Prelude.{◌≡◌, ◌≤◌, ◌<◌, ℕ, true, List, ◌++◌, is_some, length, take}
use Rattle.ocpi_json.specs.Reading.{data_of}

-- a JSON text begins with these bytes
abbrev pub Begins : List ℕ → Type 0
Begins bytes = (rest : List ℕ) × (is_some (data_of (bytes ++ rest)) ≡ true)

-- so many bytes of the text begin a JSON text
pub record IsStop (text : List ℕ) (count : ℕ) : Type 0 where
  pub within : count ≤ length text
  pub begins : 0 < count → Begins (take count text)
