-- The date and the time that a clock in UTC shows are those of the moment's text.
use Rattle.std.proofs.Common.{◌≡◌, ℕ, zero, suc, ◌+◌, ◌-◌, ◌/◌, ◌%◌, ◌<◌, ◌≤◌, inl, inr, Bool, true, false, int_le, ◌∷◌, ◌++◌, refl, sym, ap, ◌∙◌, arith, ℤ, pos, ◌+ℤ◌, ◌-ℤ◌, ◌<ℤ◌, ◌≤ℤ◌, unsigned_abs}
use Rattle.std.specs.Prelude.{None, codes}
use Rattle.std.specs.Int.{int_div_euclid, int_rem_euclid}
use Rattle.std.proofs.lemmas.Bool.{cases_order}
use Rattle.std.proofs.lemmas.Int.{ints}
use Rattle.jiff.specs.Types.{Timestamp}
use Rattle.jiff.specs.Names.{iso_datetime_text}
use Rattle.jiff_core.specs.declared.civil.date.Date.{Date}
use Rattle.jiff_core.specs.declared.civil.time.Time.{Time}
use Rattle.jiff_core.specs.declared.civil.datetime.DateTime.{DateTime}
use Rattle.jiff_core.specs.Calendar.{days_from_civil}
use Rattle.jiff_core.specs.Date.{epoch_day}
use Rattle.jiff_core.specs.DateTime.{civil_nanos}
use Rattle.jiff_core.specs.Time.{time_nanos}
use Rattle.jiff_core.specs.Timestamp.{nanos_of_seconds}
use Rattle.jiff_core.proofs.SignedLemmas.{signed_arith}
use Rattle.jiff_core.proofs.CalendarLemmas.{days_from_civil-day_count, day_count-lt_year, day_count-lt_month}
use Rattle.jiff_core.proofs.DateLemmas.{civil, days_from_civil-day, epoch_day-ordinal}
use Rattle.jiff_core.proofs.DateTimeLemmas.{civil_nanos-parts, time_nanos_bound}
use Rattle.jiff_fmt.specs.Text.{date_text as shown_date, time_text, pad2, fraction_part}
use borrow.Author.Differences.{up, down}
use Rattle.line_causes.specs.MomentText.{last_passing, year_at, month_at, day_at, date_text, clock_text, day_length, moment_text}

-- a number that passes, and after which none does, is the last
last_passing-is : (passes : ℕ → Bool) (most n : ℕ) → 0 < n → n ≤ most → passes n ≡ true → ((k : ℕ) → n < k → k ≤ most → passes k ≡ false) → last_passing passes most ≡ n
unfolding last_passing
last_passing-is passes zero n some within passed later = absurd (omega arith)
last_passing-is passes (suc m) n some within passed later =
    elim (cases_order n (suc m)) [
      | inl same ↦ let here : passes (suc m) ≡ true = ap passes (sym same) ∙ passed in rw here (sym same)
      | inr (inl lt) ↦ let not_here : passes (suc m) ≡ false = later (suc m) lt (omega arith) in
          rw not_here (last_passing-is passes m n some (omega arith) passed (λ k after k_within. later k after (omega arith)))
      | inr (inr gt) ↦ absurd (omega arith)
    ]

begun : (a b : ℤ) → a ≤ℤ b → int_le a b ≡ true
begun a b h = grind (arith, ints)

not_begun : (a b : ℤ) → b <ℤ a → int_le a b ≡ false
not_begun a b h = grind (arith, ints)

-- a day is not before the first of its year and of its month, and is before each later year and month

year_begun : (d : Date) → days_from_civil d.year 1 1 ≤ℤ epoch_day d
year_begun d = omega (arith, signed_arith, epoch_day-ordinal d, d.day_in.0)

before_year : (d : Date) (y : ℤ) → d.year <ℤ y → epoch_day d <ℤ days_from_civil y 1 1
before_year d y h = omega (arith, signed_arith, days_from_civil-day_count, day_count-lt_year d.year d.month d.day y 1 1 (civil d) (omega arith) h)

month_begun : (d : Date) → days_from_civil d.year d.month 1 ≤ℤ epoch_day d
month_begun d = omega (arith, signed_arith, days_from_civil-day d.year d.month d.day 1 d.day_in.0 (omega arith), d.day_in.0)

before_month : (d : Date) (m : ℕ) → d.month < m → epoch_day d <ℤ days_from_civil d.year m 1
before_month d m h = omega (arith, signed_arith, days_from_civil-day_count, day_count-lt_month d.year d.month d.day m 1 (civil d) (omega arith) h)

-- the year, the month and the day of a date follow from its number

year_at-is : (d : Date) → year_at (epoch_day d) ≡ d.year
unfolding year_at
year_at-is d =
    let n = up d.year + 10000 - down d.year in
    let is : pos n -ℤ pos 10000 ≡ d.year = omega (arith, signed_arith, d.year_in.0, d.year_in.1) in
    let begins : ℕ → Bool = λ k. int_le (days_from_civil (pos k -ℤ pos 10000) 1 1) (epoch_day d) in
    let last : last_passing begins 19999 ≡ n = last_passing-is begins 19999 n (omega (arith, signed_arith, d.year_in.0)) (omega (arith, signed_arith, d.year_in.1))
    (ap (λ y. int_le (days_from_civil y 1 1) (epoch_day d)) is ∙ begun _ _ (year_begun d))
    (λ k after within. not_begun _ _ (before_year d (pos k -ℤ pos 10000) (omega (arith, signed_arith, after, d.year_in.0)))) in
    ap (λ k. pos k -ℤ pos 10000) last ∙ is

month_at-is : (d : Date) → month_at d.year (epoch_day d) ≡ d.month
unfolding month_at
month_at-is d =
    last_passing-is (λ month. int_le (days_from_civil d.year month 1) (epoch_day d)) 12 d.month (omega (arith, d.month_in.0)) d.month_in.1
    (begun _ _ (month_begun d)) (λ k after within. not_begun _ _ (before_month d k after))

day_at-is : (d : Date) → day_at d.year d.month (epoch_day d) ≡ d.day
unfolding day_at
day_at-is d =
    let before : epoch_day d -ℤ days_from_civil d.year d.month 1 ≡ pos (d.day - 1) = omega (arith, signed_arith, days_from_civil-day d.year d.month d.day 1 d.day_in.0 (omega arith), d.day_in.0) in
    rw before (omega (arith, d.day_in.0))

date_text-is : (d : Date) → date_text (epoch_day d) ≡ shown_date d
unfolding date_text
date_text-is d = rw (year_at-is d, month_at-is d, day_at-is d) refl

clock_text-is : (t : Time) → clock_text (time_nanos t) ≡ time_text None t
unfolding clock_text
clock_text-is t =
    let hour : time_nanos t / 3_600_000_000_000 ≡ t.hour = omega arith in
    let minute : time_nanos t / 60_000_000_000 % 60 ≡ t.minute = omega arith in
    let second : time_nanos t / 1_000_000_000 % 60 ≡ t.second = omega arith in
    let subsec : time_nanos t % 1_000_000_000 ≡ t.subsec_nanosecond = omega arith in
    λ i. pad2 (hour i) ++ 58 ∷ pad2 (minute i) ++ 58 ∷ pad2 (second i) ++ fraction_part None (subsec i)

-- what a clock in UTC shows, and a `Z`
pub shown_in_utc : (dt : DateTime) (moment : Timestamp) → civil_nanos dt ≡ moment.nanosecond +ℤ nanos_of_seconds (pos 0) → iso_datetime_text dt ++ codes "Z" ≡ moment_text moment
unfolding moment_text
shown_in_utc dt moment e =
    let day : int_div_euclid moment.nanosecond day_length ≡ epoch_day dt.date = omega (arith, signed_arith, e, civil_nanos-parts dt, time_nanos_bound dt.time) in
    let time : unsigned_abs (int_rem_euclid moment.nanosecond day_length) ≡ time_nanos dt.time = omega (arith, signed_arith, e, civil_nanos-parts dt, time_nanos_bound dt.time) in
    λ i. (sym (date_text-is dt.date) ∙ ap date_text (sym day)) i ++ 84 ∷ (sym (clock_text-is dt.time) ∙ ap clock_text (sym time)) i ++ codes "Z"
