-- The keys of a statement's rows.
use Rattle.std.specs.Prelude.{ℕ, List, Bool, if◌then◌else◌, Option, None, Some, map}
use Rattle.std.specs.Char.{to_ascii_uppercase}
use Rattle.std.specs.Cmp.Lexicographic.{slice_cmp}
use Rattle.std.specs.Ordering.{is_eq, nat_cmp, on, ordering_then}
use Rattle.std.specs.declared.cmp.Ordering.{Ordering}
use Rattle.ocpi_json.specs.Folded.{folded}
use Rattle.ocpi_types.specs.Party.{same_party}
use Rattle.ocpi_types.specs.declared.party.Party.{Party}
use Rattle.netting_positions.specs.declared.obligation.Obligation.{Obligation}
use Rattle.netting_positions.specs.declared.row.Key.{Key}

-- ---- a currency and a counterpart, in capital letters

abbrev pub capitals : List ℕ → List ℕ
capitals text = map to_ascii_uppercase text

abbrev pub in_capitals : Party → Party
in_capitals party = record { country_code = capitals party.country_code; party_id = capitals party.party_id }

-- the key of that currency and counterpart
abbrev pub key_with : List ℕ → Party → Key
key_with currency counterpart = record { currency = currency; counterpart = in_capitals counterpart }

-- the key of an obligation of the party, as its operator or as its provider
unfoldable pub key_of : Party → Obligation → Option Key
key_of party obligation =
    if same_party obligation.operator party then Some (key_with obligation.currency obligation.provider)
    else if same_party obligation.provider party then Some (key_with obligation.currency obligation.operator)
    else None

-- by currency, then by country code and by party id with letters folded
unfoldable pub key_order : Key → Key → Ordering
key_order a b =
    ordering_then (slice_cmp nat_cmp a.currency b.currency)
    (ordering_then (on folded (slice_cmp nat_cmp) a.counterpart.country_code b.counterpart.country_code)
    (on folded (slice_cmp nat_cmp) a.counterpart.party_id b.counterpart.party_id))

-- the same currency and counterpart
abbrev pub same_key : Key → Key → Bool
same_key key other = is_eq (key_order other key)
