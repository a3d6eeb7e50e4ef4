-- The texts of dates, times of day and moments: RFC 3339, section 5.6, as OCPI 2.2.1 takes it (chapter Types, DateTime):
-- a moment is in UTC, and its offset may be left out.
use Rattle.std.specs.Prelude.{◌≡◌, ℕ, zero, suc, pos, neg_ℤ, ◌+◌, ◌-◌, ◌*◌, ◌/◌, ◌%◌, ◌^◌, ◌<◌, ◌≤◌, ◌⊎◌, ◌↔◌, List, [], ◌∷◌, ◌++◌, codes, Some}
use Rattle.std.specs.Int.{IsInRange}
use Rattle.jiff.specs.Types.{Date, Time, DateTime, Timestamp}
use Rattle.jiff.specs.Words.{IsBetween, days_in_month, civil_nanos}
unfoldable pub use Rattle.ocpi_json.specs.Inner.MomentReading.{date_of, clock_of, instant_of}

-- n in so many decimal digits, with leading zeros: 48 is `0`
abbrev pub zero_padded : ℕ → ℕ → List ℕ
zero_padded zero n = []
zero_padded (suc places) n = zero_padded places (n / 10) ++ (48 + n % 10) ∷ []

-- `YYYY-MM-DD`, where the calendar has that day
pub record SpellsDate (text : List ℕ) (date : Date) : Type 0 where
  pub year : ℕ
  pub year_in : (date.year ≡ pos year) × (year ≤ 9999)
  pub month_in : IsInRange 1 12 date.month
  pub day_in : IsInRange 1 (days_in_month date.year date.month) date.day
  pub spelled : text ≡ zero_padded 4 year ++ codes "-" ++ zero_padded 2 date.month ++ codes "-" ++ zero_padded 2 date.day

-- `HH:MM`
abbrev pub hour_and_minute : Time → List ℕ
hour_and_minute time = zero_padded 2 time.hour ++ codes ":" ++ zero_padded 2 time.minute

-- `HH:MM`, from 00:00 to 23:59
pub record SpellsClock (text : List ℕ) (time : Time) : Type 0 where
  pub time_in : (time.hour < 24) × (time.minute < 60)
  pub whole : (time.second ≡ 0) × (time.subsec_nanosecond ≡ 0)
  pub spelled : text ≡ hour_and_minute time

-- nothing, or a point and 1 to 9 digits that are that fraction of a second
abbrev pub SpellsFraction : List ℕ → ℕ → Type 0
SpellsFraction text nanos =
    (text ≡ []) × (nanos ≡ 0)
    ⊎ (places n : ℕ) × IsInRange 1 9 places × (n < 10 ^ places)
    × (text ≡ codes "." ++ zero_padded places n) × (nanos ≡ n * 10 ^ (9 - places))

-- nothing, `Z` or `+00:00`
abbrev pub IsUtcMark : List ℕ → Type 0
IsUtcMark mark = (mark ≡ []) ⊎ (mark ≡ codes "Z") ⊎ (mark ≡ codes "+00:00")

-- a date, `T`, `HH:MM:SS`, a fraction and a mark of UTC: the instant at which a clock in UTC shows that date and time,
-- if it lies from -9999-01-02T01:59:59Z to 9999-12-30T22:00:00.999999999Z
pub record SpellsInstant (text : List ℕ) (instant : Timestamp) : Type 0 where
  pub shown : DateTime
  pub date : List ℕ
  pub fraction : List ℕ
  pub mark : List ℕ
  pub of_date : SpellsDate date shown.date
  pub time_in : (shown.time.hour < 24) × (shown.time.minute < 60) × (shown.time.second < 60)
  pub of_fraction : SpellsFraction fraction shown.time.subsec_nanosecond
  pub of_mark : IsUtcMark mark
  pub spelled : text ≡ date ++ codes "T" ++ hour_and_minute shown.time ++ codes ":" ++ zero_padded 2 shown.time.second ++ fraction ++ mark
  pub nanoseconds : instant.nanosecond ≡ civil_nanos shown
  pub in_range : IsBetween (neg_ℤ (pos 377_705_023_201_000_000_000)) (pos 253_402_207_200_999_999_999) (civil_nanos shown)

-- What is read of a text is what it spells, and of a text that spells nothing, nothing.

abbrev pub DatesAreSpelled : Type 0
DatesAreSpelled = (text : List ℕ) (date : Date) → (date_of text ≡ Some date) ↔ SpellsDate text date

abbrev pub ClocksAreSpelled : Type 0
ClocksAreSpelled = (text : List ℕ) (time : Time) → (clock_of text ≡ Some time) ↔ SpellsClock text time

abbrev pub InstantsAreSpelled : Type 0
InstantsAreSpelled =
    (text : List ℕ) (instant : Timestamp) → (instant_of text ≡ Some instant) ↔ SpellsInstant text instant
