-- What a clock in a zone shows at an instant, and what restrictions are judged by.
use Rattle.std.specs.Prelude.{ℕ, ℤ, pos, ◌+ℤ◌, unsigned_abs}
use Rattle.std.specs.Int.{int_div_euclid, int_rem_euclid}
use Rattle.jiff.specs.Types.{TimeZone}
use Rattle.jiff.specs.Words.{nanos_of_seconds, offset_at}

-- the nanoseconds of a day on the clock
abbrev pub day_length : ℕ
day_length = 86_400_000_000_000

-- what the clock shows, in nanoseconds from 1970-01-01T00:00:00
abbrev pub local_nanos : TimeZone → ℤ → ℤ
local_nanos zone n = n +ℤ nanos_of_seconds (offset_at zone n)

-- the day that it shows: 0 for 1970-01-01, and negative before
abbrev pub local_day : TimeZone → ℤ → ℤ
local_day zone n = int_div_euclid (local_nanos zone n) (pos day_length)

-- the time of day that it shows, in nanoseconds since midnight
abbrev pub local_time : TimeZone → ℤ → ℕ
local_time zone n = unsigned_abs (int_rem_euclid (local_nanos zone n) (pos day_length))

-- a day and a time of day on a clock, and of the session so far the energy (in millionths of a kWh)
-- and the seconds
pub record LocalMoment : Type 0 where
  pub day : ℤ
  pub time : ℕ
  pub energy : ℕ
  pub seconds : ℕ

-- the moment of an instant in a zone
abbrev pub moment_at : TimeZone → ℤ → ℕ → ℕ → LocalMoment
moment_at zone n e s = record {
  day = local_day zone n;
  time = local_time zone n;
  energy = e;
  seconds = s;
}
