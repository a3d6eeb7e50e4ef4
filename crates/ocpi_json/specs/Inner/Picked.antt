-- The members of some names that a walk over an object notes.
use denote.Enum.Declared.{tag_of}
use Rattle.std.specs.Prelude.{◌≡◌, ℕ, zero, suc, ◌<◌, ◌%◌, List, length, get_or, Option, Some, None}
use Rattle.json.specs.Json.{Json as Data}
use Rattle.json.specs.Token.{Token}
use Rattle.json.specs.Find.{BeginsWith, Finds}
use Rattle.ocpi_json.specs.Fields.{member_at}
use Rattle.ocpi_json.specs.Inner.Places.{place_at, tokens_from}
use Rattle.ocpi_json.specs.contracts.name.Name.{the_type}
use Rattle.ocpi_json.specs.declared.name.Name.{Name}
use Rattle.ocpi_json.specs.declared.name.Name.TheVariants.{CountryCode}
use Rattle.ocpi_json.specs.declared.place.Place.{Place}

abbrev pub name_at : List Name → ℕ → Name
name_at names i = get_or names i CountryCode

-- the slot of a name in a table
unfoldable pub slot_of : Name → ℕ
slot_of name = tag_of the_type name % 128

-- the number in a name's slot
abbrev pub index_in : List ℕ → Name → ℕ
index_in slots name = get_or slots (slot_of name) 0

-- the tokens from the noted place on, where 0 notes that there is none
abbrev pub noted : Place → ℕ → Option (List Token)
noted p zero = None
noted p (suc n) = Some (tokens_from (place_at p.nodes (suc n)))

-- for each name that its slot leads to, the place of the last member of that name is noted
abbrev pub AreNoted : Place → List Name → List ℕ → List ℕ → Type 0
AreNoted p names slots places =
    (j : Data) → BeginsWith (tokens_from p) j → (i : ℕ) → i < length names → i ≡ index_in slots (name_at names i) → Finds (noted p (get_or places i 0)) (member_at (name_at names i) j)
