-- Why a release ends no hold.
use Rattle.std.specs.Prelude.{ℕ, Option, None, Some, List, if◌then◌else◌}
use Rattle.ocpi_json.specs.declared.name.Name.TheVariants as name
use Rattle.ocpi_types.specs.Party.{same_party}
use Rattle.cdr_checks.specs.Place.{at}
use Rattle.cdr_checks.specs.declared.request.Release.{Release}
use Rattle.plain_house.specs.Happened.{ends, gives}
use Rattle.plain_house.specs.declared.event.Event.{Event}
use Rattle.plain_house.specs.declared.event.Event.TheVariants as event
use Rattle.plain_house.specs.declared.event.Hold.{Hold}
use Rattle.house_causes.specs.First.{◌>>=◌, Numbered, first_after, first_that}
use Rattle.house_causes.specs.HouseCause.{cause_at}
use Rattle.house_causes.specs.declared.house_cause.HouseCause.{HouseCause}
use Rattle.house_causes.specs.declared.house_cause.HouseReason.{HouseReason}
use Rattle.house_causes.specs.declared.house_cause.HouseReason.TheVariants as reason

abbrev pub hold_of : Event → Option Hold
hold_of (event.Tariff tariff) = None
hold_of (event.Token token) = None
hold_of (event.Authorised hold) = Some hold
hold_of (event.Released release) = None
hold_of (event.Cdr cdr cost) = None
hold_of (event.Credit cdr amount) = None
hold_of (event.Settled settlement) = None
hold_of (event.Closed period) = None

-- a cause at the reference, by an event
abbrev pub by_event : HouseReason → ℕ → HouseCause
by_event why number = record { place = Some (at name.Reference); reason = why; event = Some number }

-- what ended the hold: a CDR that used it up, or its release
abbrev pub why_ended : List ℕ → Event → Option HouseReason
why_ended reference (event.Tariff tariff) = None
why_ended reference (event.Token token) = None
why_ended reference (event.Authorised hold) = None
why_ended reference (event.Released release) = Some (reason.ReleasedAlready reference)
why_ended reference (event.Cdr cdr cost) = Some (reason.UsedUp reference cdr.id)
why_ended reference (event.Credit cdr amount) = None
why_ended reference (event.Settled settlement) = None
why_ended reference (event.Closed period) = None

-- by the first event after the hold's that ended it
abbrev pub ended : List Event → Release → ℕ → Hold → Option HouseCause
ended events release number hold = do
  found ← first_after number (ends hold) events
  why ← why_ended release.reference found.event
  Some (by_event why found.at)

-- by the hold that the provider got under the reference, and the number of its event
abbrev pub why_not_open : List Event → Release → ℕ → Hold → Option HouseCause
why_not_open events release number hold =
    if same_party hold.operator release.operator
    then ended events release number hold
    else Some (by_event (reason.GivenToAnother release.reference hold.operator) number)

abbrev pub never_given : Release → HouseCause
never_given release = cause_at (at name.Reference) (reason.NeverGiven release.reference)

abbrev pub why_no_hold : List Event → Release → Option Numbered → Option HouseCause
why_no_hold events release None = Some (never_given release)
why_no_hold events release (Some given) = do
  hold ← hold_of given.event
  why_not_open events release given.at hold

-- the hold was never given, or to another operator, or it has ended
unfoldable pub unknown_hold : List Event → Release → Option HouseCause
unknown_hold events release = why_no_hold events release (first_that (gives release) events)
