-- Why a period cannot be closed, settled or stated.
use Rattle.std.specs.Prelude.{ℕ, Some, List, nat_lt, position, if◌then◌else◌}
use Rattle.ocpi_json.specs.declared.name.Name.TheVariants as name
use Rattle.cdr_checks.specs.Place.{at}
use Rattle.cdr_checks.specs.declared.request.Settlement.{Settlement}
use Rattle.plain_house.specs.Entries.{period_of}
use Rattle.plain_house.specs.Happened.{settles}
use Rattle.plain_house.specs.declared.event.Event.{Event}
use Rattle.house_causes.specs.HouseCause.{cause_at}
use Rattle.house_causes.specs.declared.house_cause.HouseCause.{HouseCause}
use Rattle.house_causes.specs.declared.house_cause.HouseReason.TheVariants as reason

-- a period before the current one is closed, and one after it is not current yet
abbrev pub not_current : ℕ → ℕ → HouseCause
not_current period current =
    cause_at (at name.Period)
    (if nat_lt period current then reason.ClosedAlready period current else reason.NotCurrentYet period current)

abbrev pub not_closed : List Event → ℕ → HouseCause
not_closed events period = cause_at (at name.Period) (reason.NotClosedYet period (period_of events))

-- by the event that settles it
abbrev pub settled_already : List Event → Settlement → HouseCause
settled_already events settlement = record {
  place = Some (at name.Period);
  reason = reason.SettledAlready settlement.period;
  event = position (settles settlement) events;
}
