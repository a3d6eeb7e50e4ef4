-- When two tariffs have the same content: once the letters of their parties and ids are folded, they are equal. Moments
-- are instants, a member that is missing is no other, and the texts and numbers of the other members are as they are.
use Rattle.std.specs.Prelude.{◌≡◌, ◌↔◌, IsTrue}
use Rattle.ocpi_json.specs.Folded.{folded}
use Rattle.ocpi_types.specs.declared.party.Party.{Party}
use Rattle.ocpi_types.specs.declared.tariff.Tariff.{Tariff}
unfoldable pub use Rattle.ocpi_types.specs.Inner.SameTariff.{same_tariff}

abbrev pub folded_party : Party → Party
folded_party party = record { country_code = folded party.country_code; party_id = folded party.party_id }

-- the tariff with the letters of its parties and ids folded, and all else as it is
abbrev pub folded_tariff : Tariff → Tariff
folded_tariff tariff = record tariff { operator = folded_party tariff.operator; id = folded tariff.id }

abbrev pub SameTariffsAreEqualFolded : Type 0
SameTariffsAreEqualFolded = (a b : Tariff) → IsTrue (same_tariff a b) ↔ (folded_tariff a ≡ folded_tariff b)
