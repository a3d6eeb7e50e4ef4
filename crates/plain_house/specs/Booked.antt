-- The CDRs and Credit CDRs that books hold. By OCPI 2.2.1, CDR object, an id is unique for its operator.
use Rattle.std.specs.Prelude.{ℕ, ℤ, pos, List, [], ◌∷◌, Bool, ◌&&◌, Option, find, flat_map}
use Rattle.std.specs.List.{list_any}
use Rattle.ocpi_json.specs.Folded.{same_folded}
use Rattle.ocpi_types.specs.declared.cdr.Cdr.{Cdr}
use Rattle.ocpi_types.specs.declared.party.Party.{Party}
use Rattle.ocpi_types.specs.Party.{same_party}
use Rattle.plain_house.specs.declared.entry.BookEntry.{BookEntry}
use Rattle.plain_house.specs.declared.entry.BookEntry.TheVariants as book
use Rattle.plain_house.specs.declared.booked.BookedCdr.{BookedCdr}
use Rattle.plain_house.specs.Exposure.{names}

-- a CDR or Credit CDR, the amount at which it is booked, and the period
pub record Booked : Type 0 where
  pub cdr : Cdr
  pub amount : ℤ
  pub period : ℕ

-- as code has it, with the CDR by reference
abbrev pub shown_booked : BookedCdr → Booked
shown_booked found = record { cdr = found.cdr.now; amount = found.amount; period = found.period }

abbrev pub booked_in : BookEntry → List Booked
booked_in (book.Tariff tariff) = []
booked_in (book.Cdr cdr cost period) = record { cdr = cdr; amount = pos cost; period = period } ∷ []
booked_in (book.Credit cdr amount period) = record { cdr = cdr; amount = amount; period = period } ∷ []

abbrev pub booked : List BookEntry → List Booked
booked entries = flat_map booked_in entries

abbrev pub has_id : Party → List ℕ → Booked → Bool
has_id operator id found = same_party found.cdr.operator operator && same_folded found.cdr.id id

-- the CDR or Credit CDR of that operator and id
abbrev pub booked_as : Party → List ℕ → List BookEntry → Option Booked
booked_as operator id entries = find (has_id operator id) (booked entries)

-- it credits the CDR of that operator and id
abbrev pub credits : Party → List ℕ → Booked → Bool
credits operator id credit = same_party credit.cdr.operator operator && names id credit.cdr.credit

-- some Credit CDR does so
abbrev pub is_credited : Party → List ℕ → List BookEntry → Bool
is_credited operator id entries = list_any (credits operator id) (booked entries)
