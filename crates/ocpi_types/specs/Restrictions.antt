-- The restrictions of a tariff element (OCPI 2.2.1, TariffRestrictions object).
use Rattle.std.specs.Prelude.{ℕ, List, Result, Ok, is_some}
use Rattle.json.specs.Json.{Json as Data}
use Rattle.ocpi_json.specs.Fields.{Kind, clock, date, each_of, list_or_empty, number, optional, text, whole}
use Rattle.ocpi_json.specs.Members.{◌>>=◌}
use Rattle.ocpi_json.specs.declared.member_fault.MemberFault.{MemberFault}
use Rattle.ocpi_json.specs.declared.name.Name.TheVariants as name
use Rattle.ocpi_types.specs.DayOfWeek.{a_day}
use Rattle.ocpi_types.specs.Members.{quantity}
use Rattle.ocpi_types.specs.declared.day_of_week.DayOfWeek.{DayOfWeek}
use Rattle.ocpi_types.specs.declared.restrictions.ElectricBounds.{ElectricBounds}
use Rattle.ocpi_types.specs.declared.restrictions.Restrictions.{Restrictions}

-- a number of seconds: 1 to 18 digits
abbrev pub seconds : Kind ℕ
seconds = whole 0 999_999_999_999_999_999

-- days of the week, in the order in which they are listed; no line holds as many as there may be
unfoldable pub days_at : Data → Result (List DayOfWeek) MemberFault
days_at node = do
  items ← list_or_empty 1_048_576 name.DayOfWeek node
  each_of a_day name.DayOfWeek 0 items

-- which bounds on current and power there are
unfoldable pub electric_bounds_at : Data → Result ElectricBounds MemberFault
electric_bounds_at node = do
  min_current ← optional number name.MinCurrent node
  max_current ← optional number name.MaxCurrent node
  min_power ← optional number name.MinPower node
  max_power ← optional number name.MaxPower node
  Ok (record {
    min_current = is_some min_current;
    max_current = is_some max_current;
    min_power = is_some min_power;
    max_power = is_some max_power;
  })

unfoldable pub restrictions_at : Data → Result Restrictions MemberFault
restrictions_at node = do
  start_time ← optional clock name.StartTime node
  end_time ← optional clock name.EndTime node
  start_date ← optional date name.StartDate node
  end_date ← optional date name.EndDate node
  min_kwh ← optional quantity name.MinKwh node
  max_kwh ← optional quantity name.MaxKwh node
  min_duration ← optional seconds name.MinDuration node
  max_duration ← optional seconds name.MaxDuration node
  day_of_week ← days_at node
  reservation ← optional text name.Reservation node
  electric ← electric_bounds_at node
  Ok (record {
    start_time = start_time;
    end_time = end_time;
    start_date = start_date;
    end_date = end_date;
    min_kwh = min_kwh;
    max_kwh = max_kwh;
    min_duration = min_duration;
    max_duration = max_duration;
    day_of_week = day_of_week;
    reservation = reservation;
    electric = electric;
  })
