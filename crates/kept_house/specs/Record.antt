-- The record that begins a store.
use Rattle.std.specs.Prelude.{◌≡◌, ◌≢◌, ◌⊎◌, ◌==◌, ℕ, List, ◌++◌, codes, if◌then◌else◌, map}
use Rattle.std.specs.List.{All}

-- a space in the place of a newline
abbrev pub byte_in_line : ℕ → ℕ
byte_in_line byte = if byte == 10 then 32 else byte

-- a text without its newlines: JSON has them between values alone
abbrev pub on_one_line : List ℕ → List ℕ
on_one_line text = map byte_in_line text

-- the record of a program's version and a configuration, as one line of JSON, as version 0.1.0 writes it
abbrev pub first_form : List ℕ → List ℕ → List ℕ
first_form program config =
    codes "{\"format\":1,\"program\":\"" ++ (program ++ (codes "\",\"config\":" ++ (config ++ codes "}")))

-- the same with a list of what its lines may be beside those of a script: changes of the configuration, and requests with ids
abbrev pub record_of : List ℕ → List ℕ → List ℕ
record_of program config =
    codes "{\"format\":1,\"program\":\"" ++ (program ++ (codes "\",\"stream\":[\"configure\",\"request_id\"],\"config\":" ++ (config ++ codes "}")))

-- the record of a store that begins under this configuration
abbrev pub first_record : List ℕ → List ℕ → List ℕ
first_record program config = record_of program (on_one_line config)

-- a text has no quotation mark, 34
abbrev pub HasNoQuote : List ℕ → Type 0
HasNoQuote text = All (λ byte. byte ≢ 34) text

-- the record has this configuration, and this program knows what its lines may be
abbrev pub HasConfig : List ℕ → List ℕ → Type 0
HasConfig line config = (program : List ℕ) × HasNoQuote program × ((line ≡ first_form program config) ⊎ (line ≡ record_of program config))

-- a line has at most one configuration
abbrev pub RecordsHaveOneConfig : Type 0
RecordsHaveOneConfig = (line config other : List ℕ) → HasConfig line config → HasConfig line other → config ≡ other
