-- The part of the day in which a tariff element applies (OCPI 2.2.1, TariffRestrictions object:
-- start_time and end_time). Times of day are nanoseconds since midnight.
use Rattle.std.specs.Prelude.{ℕ, ◌+◌, ◌-◌, ◌%◌, Bool, ◌==◌, ◌||◌, nat_lt, Option}
use Rattle.std.specs.Option.{option_map_or}
use Rattle.jiff.specs.Types.{Time}
use Rattle.jiff.specs.Words.{time_nanos}
use Rattle.tariff_elements.specs.LocalTime.{day_length}

-- how long after `from` a clock shows `to`
abbrev pub until : ℕ → ℕ → ℕ
until from to = (to + (day_length - from)) % day_length

-- a window runs from its start until the clock next shows its end, and lasts the whole day where the
-- two are equal
abbrev pub in_window : ℕ → ℕ → ℕ → Bool
in_window start end time = (start == end) || nat_lt (until start time) (until start end)

-- a missing time of day is 00:00
abbrev pub time_or_midnight : Option Time → ℕ
time_or_midnight t = option_map_or time_nanos t 0

-- the time lies in the window of a start and an end of which either may be missing
abbrev pub is_between_times : Option Time → Option Time → ℕ → Bool
is_between_times start end time = in_window (time_or_midnight start) (time_or_midnight end) time
