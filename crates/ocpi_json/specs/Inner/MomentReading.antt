-- How dates, times of day and moments are read: from left to right, each part with the text after it.
use Rattle.std.specs.Prelude.{ℕ, ℤ, pos, neg_ℤ, ◌+◌, ◌-◌, ◌*◌, ◌/◌, int_le, codes, Bool, true, ◌&&◌, ◌||◌, ◌==◌, nat_le, nat_lt, List, [], ◌∷◌, Option, Some, None, option_map, option_and_then, if◌then◌else◌}
use Rattle.std.specs.Char.{is_ascii_digit}
use Rattle.std.specs.Borrow.{Bor}
use Rattle.std.specs.Str.{bytes_eq}
use Rattle.jiff.specs.Types.{Date, Time, DateTime, Timestamp}
use Rattle.jiff.specs.Words.{days_in_month, civil_nanos}
use Rattle.ocpi_json.specs.Inner.Ranges as range
use Rattle.ocpi_json.specs.SomeIf.{some_if}

-- a value and the text after it
abbrev pub Read : Type 0 → Type 0
Read A = Option (A × List ℕ)

-- what a function read, with the text behind the reference
abbrev pub read_view : {A : Type 0} → Option (A × Bor (List ℕ)) → Read A
read_view r = option_map (λ p. (p.0, p.1.now)) r

infixl 10 ◌>>=◌
abbrev ◌>>=◌ : {A B : Type 0} → Option A → (A → Option B) → Option B
o >>= f = option_and_then f o

-- the value, where no text is left
abbrev pub if_at_end : {X : Type 0} → X → List ℕ → Option X
if_at_end x [] = Some x
if_at_end x (b ∷ rest) = None

-- ---- digits

-- one digit
unfoldable pub read_digit : List ℕ → Read ℕ
read_digit [] = None
read_digit (b ∷ rest) = if is_ascii_digit b then Some (b - 48, rest) else None

-- two digits
unfoldable pub read_two : List ℕ → Read ℕ
read_two text = do
  tens ← read_digit text
  ones ← read_digit tens.1
  Some (tens.0 * 10 + ones.0, ones.1)

-- four digits
unfoldable pub read_four : List ℕ → Read ℕ
read_four text = do
  high ← read_two text
  low ← read_two high.1
  Some (high.0 * 100 + low.0, low.1)

-- two digits behind a mark
unfoldable pub read_two_after : List ℕ → ℕ → Read ℕ
read_two_after [] mark = None
read_two_after (b ∷ rest) mark = if b == mark then read_two rest else None

-- ---- dates

-- the calendar has this day of a year from 0 to 9999
abbrev pub is_date : ℕ → ℕ → ℕ → Bool
is_date y m d =
    nat_le y 9999 && nat_le 1 m && nat_le m 12 && nat_le 1 d && nat_le d (days_in_month (pos y) m)

-- that day
unfoldable pub date_at : ℕ → ℕ → ℕ → Option Date
date_at y m d = some_if (is_date y m d) (λ h. record {
  year = pos y;
  month = m;
  day = d;
  year_in = range.year_in y m d h;
  month_in = range.month_in y m d h;
  day_in = range.day_in y m d h;
})

-- `YYYY-MM-DD`
unfoldable pub read_date : List ℕ → Read Date
read_date text = do
  year ← read_four text
  month ← read_two_after year.1 45
  day ← read_two_after month.1 45
  date ← date_at year.0 month.0 day.0
  Some (date, day.1)

-- the date that a text is
unfoldable pub date_of : List ℕ → Option Date
date_of text = do
  date ← read_date text
  if_at_end date.0 date.1

-- ---- times of day

abbrev pub is_time : ℕ → ℕ → ℕ → ℕ → Bool
is_time hour minute second nanos =
    nat_lt hour 24 && nat_lt minute 60 && nat_lt second 60 && nat_lt nanos 1_000_000_000

-- what a clock shows, where a day has 24 hours and a minute 60 seconds
unfoldable pub time_at : ℕ → ℕ → ℕ → ℕ → Option Time
time_at hour minute second nanos = some_if (is_time hour minute second nanos) (λ h. record {
  hour = hour;
  minute = minute;
  second = second;
  subsec_nanosecond = nanos;
  hour_in = range.hour_in hour minute second nanos h;
  minute_in = range.minute_in hour minute second nanos h;
  second_in = range.second_in hour minute second nanos h;
  subsec_in = range.subsec_in hour minute second nanos h;
})

-- the time of day that a text `HH:MM` is
unfoldable pub clock_of : List ℕ → Option Time
clock_of text = do
  hour ← read_two text
  minute ← read_two_after hour.1 58
  time ← time_at hour.0 minute.0 0 0
  if_at_end time minute.1

-- digits behind a point: the first counts `weight` nanoseconds, each further one a tenth
unfoldable pub digits_from : ℕ → List ℕ → ℕ × List ℕ
digits_from weight [] = (0, [])
digits_from weight (b ∷ rest) =
    if is_ascii_digit b && nat_lt 0 weight
    then ((b - 48) * weight + (digits_from (weight / 10) rest).0, (digits_from (weight / 10) rest).1)
    else (0, b ∷ rest)

-- the nanoseconds of a point and 1 to 9 digits, or none
unfoldable pub read_fraction : List ℕ → Read ℕ
read_fraction [] = Some (0, [])
read_fraction (b ∷ rest) =
    if b == 46
    then option_map (λ _. digits_from 100_000_000 rest) (read_digit rest)
    else Some (0, b ∷ rest)

-- `HH:MM:SS` and a fraction
unfoldable pub read_time : List ℕ → Read Time
read_time text = do
  hour ← read_two text
  minute ← read_two_after hour.1 58
  second ← read_two_after minute.1 58
  nanos ← read_fraction second.1
  time ← time_at hour.0 minute.0 second.0 nanos.0
  Some (time, nanos.1)

-- ---- moments

-- what follows a mark
unfoldable pub after_mark : ℕ → List ℕ → Option (List ℕ)
after_mark mark [] = None
after_mark mark (b ∷ rest) = if b == mark then Some rest else None

-- `YYYY-MM-DDTHH:MM:SS` and a fraction
unfoldable pub read_datetime : List ℕ → Read DateTime
read_datetime text = do
  date ← read_date text
  clock ← after_mark 84 date.1
  time ← read_time clock
  Some (record { date = date.0; time = time.0 }, time.1)

-- nothing, `Z` or `+00:00`
abbrev pub is_utc_mark : List ℕ → Bool
is_utc_mark [] = true
is_utc_mark (b ∷ rest) = bytes_eq (b ∷ rest) (codes "Z") || bytes_eq (b ∷ rest) (codes "+00:00")

-- from -9999-01-02T01:59:59Z to 9999-12-30T22:00:00.999999999Z, which `jiff` can show at every offset
abbrev pub is_instant : ℤ → Bool
is_instant n =
    int_le (neg_ℤ (pos 377_705_023_201_000_000_000)) n && int_le n (pos 253_402_207_200_999_999_999)

-- the instant of so many nanoseconds since 1970-01-01T00:00:00Z
unfoldable pub instant_at : ℤ → Option Timestamp
instant_at n = some_if (is_instant n) (λ h. record { nanosecond = n; in_range = range.instant_in n h })

-- the instant that a text names
unfoldable pub instant_of : List ℕ → Option Timestamp
instant_of text = do
  moment ← read_datetime text
  if is_utc_mark moment.1 then instant_at (civil_nanos moment.0) else None
