-- Instants, dates and times of day that are the same by their numbers.
use Rattle.std.proofs.Common.{◌≡◌, ◌<◌, ℕ, ℤ}
use mathlib.Core.HLevel.{is_prop→PathP}
use native.Mathlib.Bridge.{le_prop}
use lib.Dec.{T_prop}
use Rattle.std.specs.Int.Signed.{◌≤ℤ◌, le_z}
use Rattle.std.specs.Int.{IsInRange}
use Rattle.jiff_core.specs.Calendar.{IsBetween, IsYear, days_in_month}
use Rattle.jiff_core.specs.Timestamp.{IsTimestampNanos}
use Rattle.jiff_core.specs.declared.civil.date.Date.{Date}
use Rattle.jiff_core.specs.declared.civil.time.Time.{Time}
use Rattle.jiff_core.specs.declared.timestamp.Timestamp.{Timestamp}

below-prop : (a b : ℤ) → IsProp (a ≤ℤ b)
below-prop a b x y = λ k. record { le = T_prop (le_z a b) x.le y.le k }

between-prop : (low high z : ℤ) → IsProp (IsBetween low high z)
between-prop low high z x y = λ k. (below-prop low z x.0 y.0 k, below-prop z high x.1 y.1 k)

range-prop : (low high n : ℕ) → IsProp (IsInRange low high n)
range-prop low high n x y = λ k. (le_prop x.0 y.0 k, le_prop x.1 y.1 k)

pub same_instants : (x y : Timestamp) → x.nanosecond ≡ y.nanosecond → x ≡ y
same_instants x y e = λ i. record {
  nanosecond = e i;
  in_range = is_prop→PathP (λ j. IsTimestampNanos (e j)) (λ j. between-prop _ _ (e j)) x.in_range y.in_range i;
}

pub same_times : (x y : Time) → x.hour ≡ y.hour → x.minute ≡ y.minute → x.second ≡ y.second → x.subsec_nanosecond ≡ y.subsec_nanosecond → x ≡ y
same_times x y h m s n = λ i. record {
  hour = h i;
  minute = m i;
  second = s i;
  subsec_nanosecond = n i;
  hour_in = is_prop→PathP (λ j. h j < 24) (λ j a b k. le_prop a b k) x.hour_in y.hour_in i;
  minute_in = is_prop→PathP (λ j. m j < 60) (λ j a b k. le_prop a b k) x.minute_in y.minute_in i;
  second_in = is_prop→PathP (λ j. s j < 60) (λ j a b k. le_prop a b k) x.second_in y.second_in i;
  subsec_in = is_prop→PathP (λ j. n j < 1_000_000_000) (λ j a b k. le_prop a b k) x.subsec_in y.subsec_in i;
}

pub same_dates : (x y : Date) → x.year ≡ y.year → x.month ≡ y.month → x.day ≡ y.day → x ≡ y
same_dates x y u v w = λ i. record {
  year = u i;
  month = v i;
  day = w i;
  year_in = is_prop→PathP (λ j. IsYear (u j)) (λ j. between-prop _ _ (u j)) x.year_in y.year_in i;
  month_in = is_prop→PathP (λ j. IsInRange 1 12 (v j)) (λ j. range-prop 1 12 (v j)) x.month_in y.month_in i;
  day_in = is_prop→PathP (λ j. IsInRange 1 (days_in_month (u j) (v j)) (w j)) (λ j. range-prop 1 (days_in_month (u j) (v j)) (w j)) x.day_in y.day_in i;
}
