-- The line that changes the configuration.
use Rattle.std.specs.Prelude.{◌==◌, ◌||◌, ℕ, List, [], ◌∷◌, ◌++◌, codes, if◌then◌else◌}
use Rattle.std.specs.List.{flat_map}
use Rattle.kept_house.specs.Record.{on_one_line}

-- a byte inside a string of JSON: a backslash (92) comes before a quotation mark (34) or a backslash
abbrev pub escaped_byte : ℕ → List ℕ
escaped_byte byte = if (byte == 34) || (byte == 92) then 92 ∷ byte ∷ [] else byte ∷ []

abbrev pub escaped : List ℕ → List ℕ
escaped text = flat_map escaped_byte text

-- the line by which a platform asks for the configuration of a text
abbrev pub change_line : List ℕ → List ℕ → List ℕ
change_line platform config =
    codes "{\"platform\":\"" ++ (escaped platform ++ (codes "\",\"do\":\"configure\",\"configuration\":" ++ (on_one_line config ++ codes "}")))
