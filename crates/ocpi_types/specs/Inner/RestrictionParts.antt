-- The members of restrictions in groups, as they are read.
use Rattle.std.specs.Prelude.{Result, Ok}
use Rattle.json.specs.Json.{Json as Data}
use Rattle.ocpi_json.specs.Fields.{clock, date, optional, text}
use Rattle.ocpi_json.specs.Members.{◌>>=◌}
use Rattle.ocpi_json.specs.declared.member_fault.MemberFault.{MemberFault}
use Rattle.ocpi_json.specs.declared.name.Name.TheVariants as name
use Rattle.ocpi_types.specs.Members.{quantity}
use Rattle.ocpi_types.specs.Restrictions.{days_at, electric_bounds_at, seconds}
use Rattle.ocpi_types.specs.declared.restrictions.Bounds.{Bounds}
use Rattle.ocpi_types.specs.declared.restrictions.Restrictions.{Restrictions}
use Rattle.ocpi_types.specs.declared.restrictions.Times.{Times}

unfoldable pub times_at : Data → Result Times MemberFault
times_at node = do
  start_time ← optional clock name.StartTime node
  end_time ← optional clock name.EndTime node
  start_date ← optional date name.StartDate node
  end_date ← optional date name.EndDate node
  Ok (record { start_time = start_time; end_time = end_time; start_date = start_date; end_date = end_date })

unfoldable pub bounds_at : Data → Result Bounds MemberFault
bounds_at node = do
  min_kwh ← optional quantity name.MinKwh node
  max_kwh ← optional quantity name.MaxKwh node
  min_duration ← optional seconds name.MinDuration node
  max_duration ← optional seconds name.MaxDuration node
  Ok (record { min_kwh = min_kwh; max_kwh = max_kwh; min_duration = min_duration; max_duration = max_duration })

unfoldable pub restrictions_in_parts : Data → Result Restrictions MemberFault
restrictions_in_parts node = do
  times ← times_at node
  bounds ← bounds_at node
  day_of_week ← days_at node
  reservation ← optional text name.Reservation node
  electric ← electric_bounds_at node
  Ok (record {
    start_time = times.start_time;
    end_time = times.end_time;
    start_date = times.start_date;
    end_date = times.end_date;
    min_kwh = bounds.min_kwh;
    max_kwh = bounds.max_kwh;
    min_duration = bounds.min_duration;
    max_duration = bounds.max_duration;
    day_of_week = day_of_week;
    reservation = reservation;
    electric = electric;
  })
