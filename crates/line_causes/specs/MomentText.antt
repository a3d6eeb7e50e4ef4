-- The text of a moment: what a clock in UTC shows, in the proleptic Gregorian calendar.
use Rattle.std.specs.Prelude.{ℕ, zero, suc, ◌+◌, ◌/◌, ◌%◌, Bool, if◌then◌else◌, int_le, List, [], ◌∷◌, ◌++◌, codes, None, ℤ, pos, ◌-ℤ◌, unsigned_abs}
use Rattle.std.specs.Int.{int_div_euclid, int_rem_euclid}
use Rattle.jiff.specs.Types.{Timestamp}
use Rattle.jiff_core.specs.Calendar.{days_from_civil}
use Rattle.jiff_fmt.specs.Text.{fraction_part, pad2, year_text}

-- the last number from 1 to the most that passes the test; 0 if none does
unfoldable pub last_passing : (ℕ → Bool) → ℕ → ℕ
last_passing passes zero = 0
last_passing passes (suc n) = if passes (suc n) then suc n else last_passing passes n

-- A day has its number, which is 0 for 1 January 1970.

-- the last year, from -9999 to 9999, that begins on or before this day
unfoldable pub year_at : ℤ → ℤ
year_at day = pos (last_passing (λ n. int_le (days_from_civil (pos n -ℤ pos 10000) 1 1) day) 19999) -ℤ pos 10000

-- the last month of the year that begins on or before this day
unfoldable pub month_at : ℤ → ℤ → ℕ
month_at year day = last_passing (λ month. int_le (days_from_civil year month 1) day) 12

-- the day of the month, from 1
unfoldable pub day_at : ℤ → ℕ → ℤ → ℕ
day_at year month day = unsigned_abs (day -ℤ days_from_civil year month 1) + 1

-- `2024-07-01`
unfoldable pub date_text : ℤ → List ℕ
date_text day =
    let year = year_at day in
    let month = month_at year day in
    year_text year ++ 45 ∷ [] ++ pad2 month ++ 45 ∷ [] ++ pad2 (day_at year month day)

-- the time of a day, of its nanoseconds since midnight: `10:00:00`, or `10:00:00.25`
unfoldable pub clock_text : ℕ → List ℕ
clock_text nanos =
    pad2 (nanos / 3_600_000_000_000) ++ 58 ∷ pad2 (nanos / 60_000_000_000 % 60) ++ 58 ∷ pad2 (nanos / 1_000_000_000 % 60)
    ++ fraction_part None (nanos % 1_000_000_000)

-- the nanoseconds of a day
abbrev pub day_length : ℤ
day_length = pos 86_400_000_000_000

-- `2024-07-01T10:00:00Z`
unfoldable pub moment_text : Timestamp → List ℕ
moment_text moment =
    date_text (int_div_euclid moment.nanosecond day_length) ++ 84 ∷ clock_text (unsigned_abs (int_rem_euclid moment.nanosecond day_length))
    ++ codes "Z"
