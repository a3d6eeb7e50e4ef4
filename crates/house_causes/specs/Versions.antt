-- Why a tariff is not stored, or a tariff of a CDR is not registered.
use Rattle.std.specs.Prelude.{ℕ, Option, None, Some, List, position, slice_get, not, if◌then◌else◌}
use Rattle.std.specs.List.{list_any}
use Rattle.ocpi_json.specs.declared.member_fault.Around.TheVariants.{One}
use Rattle.ocpi_json.specs.declared.name.Name.{Name}
use Rattle.ocpi_json.specs.declared.name.Name.TheVariants as name
use Rattle.ocpi_json.specs.MemberFaults.{item_of, member_of}
use Rattle.ocpi_types.specs.declared.cdr.Cdr.{Cdr}
use Rattle.ocpi_types.specs.declared.tariff.Tariff.{Tariff}
use Rattle.ocpi_types.specs.ContentDifference.{difference_of_tariffs}
use Rattle.ocpi_types.specs.Party.{same_party}
use Rattle.cdr_checks.specs.Place.{in_item, inside}
use Rattle.cdr_checks.specs.declared.place.Place.{Place}
use Rattle.plain_house.specs.Happened.{registers, stores}
use Rattle.plain_house.specs.declared.event.Event.{Event}
use Rattle.plain_house.specs.declared.event.Event.TheVariants as event
use Rattle.house_causes.specs.First.{◌>>=◌, first_that}
use Rattle.house_causes.specs.HouseCause.{cause_at}
use Rattle.house_causes.specs.declared.house_cause.HouseCause.{HouseCause}
use Rattle.house_causes.specs.declared.house_cause.HouseReason.TheVariants as reason

abbrev pub tariff_of : Event → Option Tariff
tariff_of (event.Tariff tariff) = Some tariff
tariff_of (event.Token token) = None
tariff_of (event.Authorised hold) = None
tariff_of (event.Released release) = None
tariff_of (event.Cdr cdr cost) = None
tariff_of (event.Credit cdr amount) = None
tariff_of (event.Settled settlement) = None
tariff_of (event.Closed period) = None

-- the first member in which the stored version differs, and the event that stored it
abbrev pub stored_difference : List Event → Tariff → Option (Name × ℕ)
stored_difference events tariff = do
  found ← first_that (stores tariff) events
  stored ← tariff_of found.event
  differing ← difference_of_tariffs stored tariff
  Some (differing, found.at)

-- why the tariff is not stored: its version is stored with other content
unfoldable pub version_conflict : List Event → Tariff → Option HouseCause
version_conflict events tariff = do
  found ← stored_difference events tariff
  Some (record { place = Some (inside name.Tariff found.0); reason = reason.StoredOtherwise; event = Some found.1 })

-- ---- a tariff of a CDR, by its place in the CDR

abbrev pub tariff_at : ℕ → Place
tariff_at number = record { around = One (member_of name.Cdr); member = item_of name.Tariffs number }

abbrev pub not_stored : ℕ → Tariff → Option (Name × ℕ) → HouseCause
not_stored number tariff None = cause_at (in_item name.Tariffs number name.LastUpdated) (reason.NotRegistered tariff.last_updated)
not_stored number tariff (Some found) =
    record { place = Some (in_item name.Tariffs number found.0); reason = reason.RegisteredOtherwise; event = Some found.1 }

abbrev pub why_unregistered : List Event → Cdr → ℕ → Tariff → HouseCause
why_unregistered events cdr number tariff =
    if same_party tariff.operator cdr.operator
    then not_stored number tariff (stored_difference events tariff)
    else cause_at (tariff_at number) (reason.OfAnotherOperator tariff.operator cdr.operator)

-- the first tariff of the CDR that no event registers: of another operator, stored with other content, or not stored
unfoldable pub not_registered : List Event → Cdr → Option HouseCause
not_registered events cdr = do
  number ← position (λ tariff. not (list_any (registers cdr.operator tariff) events)) cdr.tariffs
  tariff ← slice_get cdr.tariffs number
  Some (why_unregistered events cdr number tariff)
