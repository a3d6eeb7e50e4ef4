-- The tests of restrictions and windows, in the words of OCPI 2.2.1, TariffRestrictions object.
use Rattle.std.specs.Prelude.{◌≡◌, ◌↔◌, ◌⊎◌, ℕ, ℤ, ◌<◌, ◌≤◌, ◌<ℤ◌, ◌≤ℤ◌, IsTrue, IsNone, [], Any, Option, None}
use Rattle.std.specs.Option.{ForSome}
use Rattle.jiff.specs.Types.{Time, TimeZone}
use Rattle.jiff.specs.Words.{epoch_day}
use Rattle.jiff_core.specs.Calendar.{weekday_number}
use Rattle.ocpi_types.specs.DayOfWeek.{days_after_monday}
use Rattle.ocpi_types.specs.declared.day_of_week.DayOfWeek.{DayOfWeek}
use Rattle.ocpi_types.specs.declared.restrictions.Restrictions.{Restrictions}
use Rattle.ocpi_types.specs.declared.tariff.Tariff.{Tariff}
use Rattle.tariff_elements.specs.FirstOf.{IsFirstOf}
use Rattle.tariff_elements.specs.LocalTime.{LocalMoment, day_length, moment_at}
use Rattle.tariff_elements.specs.Matching.{matches}
use Rattle.tariff_elements.specs.Support.{bound_of, unsupported}
use Rattle.tariff_elements.specs.Window.{time_or_midnight, is_between_times}

-- a window from the start to an end later in the day, or over midnight to an end that is earlier
pub record IsWithin (start end time : ℕ) : Type 0 where
  pub same_day : start < end → (start ≤ time) × (time < end)
  pub over_midnight : end < start → (start ≤ time) ⊎ (time < end)

-- the day is this day of the week
abbrev pub FallsOn : ℤ → DayOfWeek → Type 0
FallsOn day weekday = days_after_monday weekday ≡ weekday_number day

-- each restriction that is given holds at the moment
pub record IsInForce (r : Restrictions) (m : LocalMoment) : Type 0 where
  pub reservation : IsNone r.reservation
  pub min_kwh : ForSome r.min_kwh (λ least. least ≤ m.energy)
  pub max_kwh : ForSome r.max_kwh (λ limit. m.energy < limit)
  pub min_duration : ForSome r.min_duration (λ least. least ≤ m.seconds)
  pub max_duration : ForSome r.max_duration (λ limit. m.seconds < limit)
  pub start_date : ForSome r.start_date (λ first. epoch_day first ≤ℤ m.day)
  pub end_date : ForSome r.end_date (λ end. m.day <ℤ epoch_day end)
  pub day_of_week : (r.day_of_week ≡ []) ⊎ Any (FallsOn m.day) r.day_of_week
  pub window : IsWithin (time_or_midnight r.start_time) (time_or_midnight r.end_time) m.time

-- restrictions match exactly where each of them is in force
abbrev pub MatchesInForce : Type 0
MatchesInForce =
    (r : Restrictions) (m : LocalMoment) → m.time < day_length → IsTrue (matches r m) ↔ IsInForce r m

-- the clock of a moment shows a time of day
abbrev pub MomentsShowTimesOfDay : Type 0
MomentsShowTimesOfDay =
    (zone : TimeZone) (n : ℤ) (energy seconds : ℕ) → (moment_at zone n energy seconds).time < day_length

-- the start is before the end: from the start to the end, on one day
abbrev pub WindowWithinDay : Type 0
WindowWithinDay =
    (start end : Option Time) (time : ℕ) → time < day_length
    → time_or_midnight start < time_or_midnight end
    → IsTrue (is_between_times start end time)
    ↔ ((time_or_midnight start ≤ time) × (time < time_or_midnight end))

-- the end is before the start: from the start to midnight, and from midnight to the end
abbrev pub WindowOverMidnight : Type 0
WindowOverMidnight =
    (start end : Option Time) (time : ℕ) → time < day_length
    → time_or_midnight end < time_or_midnight start
    → IsTrue (is_between_times start end time)
    ↔ ((time_or_midnight start ≤ time) ⊎ (time < time_or_midnight end))

-- the start is the end: the whole day
abbrev pub WindowOfWholeDay : Type 0
WindowOfWholeDay =
    (start end : Option Time) (time : ℕ) → time_or_midnight start ≡ time_or_midnight end
    → IsTrue (is_between_times start end time)

-- the end is 00:00 or missing, and the start later: from the start to the end of the day
abbrev pub WindowToMidnight : Type 0
WindowToMidnight =
    (start end : Option Time) (time : ℕ) → time < day_length
    → time_or_midnight end ≡ 0 → 0 < time_or_midnight start
    → IsTrue (is_between_times start end time) ↔ (time_or_midnight start ≤ time)

-- the start is missing, and the end is not 00:00: until the end
abbrev pub WindowFromMidnight : Type 0
WindowFromMidnight =
    (end : Option Time) (time : ℕ) → time < day_length → 0 < time_or_midnight end
    → IsTrue (is_between_times None end time) ↔ (time < time_or_midnight end)

-- the element that is found is the first with a bound on current or power
abbrev pub FindsTheFirstBound : Type 0
FindsTheFirstBound = (tariff : Tariff) → IsFirstOf bound_of tariff.elements (unsupported tariff)
