-- When the restrictions of a tariff element hold (OCPI 2.2.1, TariffRestrictions object).
use Rattle.std.specs.Prelude.{ℕ, ℤ, Bool, true, ◌==◌, ◌&&◌, ◌||◌, nat_lt, nat_le, int_lt, int_le, is_none, List, length, Option}
use Rattle.std.specs.List.{list_any}
use Rattle.std.specs.Option.{option_map_or}
use Rattle.jiff.specs.Types.{Date}
use Rattle.jiff.specs.Words.{epoch_day}
use Rattle.jiff_core.specs.Calendar.{weekday_number}
use Rattle.ocpi_types.specs.DayOfWeek.{days_after_monday}
use Rattle.ocpi_types.specs.declared.day_of_week.DayOfWeek.{DayOfWeek}
use Rattle.ocpi_types.specs.declared.restrictions.Restrictions.{Restrictions}
use Rattle.tariff_elements.specs.LocalTime.{LocalMoment}
use Rattle.tariff_elements.specs.Window.{is_between_times}

-- from the least amount, included, to the limit, excluded; a missing bound holds
abbrev pub is_in_bounds : Option ℕ → Option ℕ → ℕ → Bool
is_in_bounds least limit x =
    option_map_or (λ bound. nat_le bound x) least true
    && option_map_or (λ bound. nat_lt x bound) limit true

-- from the first date, included, to the end date, excluded; a missing date holds
abbrev pub is_between_dates : Option Date → Option Date → ℤ → Bool
is_between_dates start end day =
    option_map_or (λ date. int_le (epoch_day date) day) start true
    && option_map_or (λ date. int_lt day (epoch_day date)) end true

-- the day is this day of the week
abbrev pub falls_on : ℤ → DayOfWeek → Bool
falls_on day weekday = days_after_monday weekday == weekday_number day

-- the day's day of the week is listed, or none is
abbrev pub is_on_listed_day : List DayOfWeek → ℤ → Bool
is_on_listed_day weekdays day = (length weekdays == 0) || list_any (falls_on day) weekdays

-- the restrictions hold at the moment; what they say of current and power is not looked at
abbrev pub matches : Restrictions → LocalMoment → Bool
matches r m =
    is_none r.reservation
    && is_in_bounds r.min_kwh r.max_kwh m.energy
    && is_in_bounds r.min_duration r.max_duration m.seconds
    && is_between_dates r.start_date r.end_date m.day
    && is_on_listed_day r.day_of_week m.day
    && is_between_times r.start_time r.end_time m.time
