-- A party: country code and party id, compared with letters folded.
use Rattle.std.specs.Prelude.{ℕ, List, ◌++◌, codes, length, take, drop, slice_index, ◌==◌, Bool, ◌&&◌, if◌then◌else◌, Option, Some, None, Result, Ok}
use Rattle.std.specs.Char.{is_ascii_alphabetic, is_ascii_alphanumeric}
use Rattle.std.specs.List.{list_all}
use Rattle.json.specs.Json.{Json as Data}
use Rattle.ocpi_json.specs.Fields.{Kind, ascii, parsed, required}
use Rattle.ocpi_json.specs.Folded.{same_folded}
use Rattle.ocpi_json.specs.Members.{◌>>=◌}
use Rattle.ocpi_json.specs.declared.expected.Expected.TheVariants as expected
use Rattle.ocpi_json.specs.declared.member_fault.MemberFault.{MemberFault}
use Rattle.ocpi_json.specs.declared.name.Name.TheVariants as name
use Rattle.ocpi_types.specs.declared.party.Party.{Party}

-- the same party, but for the case of letters
abbrev pub same_party : Party → Party → Bool
same_party a b = same_folded a.country_code b.country_code && same_folded a.party_id b.party_id

-- two ASCII letters, a slash (47) and three ASCII letters or digits
unfoldable pub is_party : List ℕ → Bool
is_party text =
    (length text == 6) && list_all is_ascii_alphabetic (take 2 text) && (slice_index text 2 == 47)
    && list_all is_ascii_alphanumeric (drop 3 text)

-- the party that a text as `NL/CPA` names
unfoldable pub party_of : List ℕ → Option Party
party_of text = if is_party text then Some (record { country_code = take 2 text; party_id = drop 3 text }) else None

abbrev pub a_party : Kind Party
a_party = parsed expected.Party party_of

-- how a party is written
abbrev pub party_text : Party → List ℕ
party_text party = party.country_code ++ (codes "/" ++ party.party_id)

-- the party of an object (OCPI 2.2.1, the objects Token, Tariff, CDR and CdrToken)
unfoldable pub party_at : Data → Result Party MemberFault
party_at node = do
  country_code ← required (ascii 2) name.CountryCode node
  party_id ← required (ascii 3) name.PartyId node
  Ok (record { country_code = country_code; party_id = party_id })
