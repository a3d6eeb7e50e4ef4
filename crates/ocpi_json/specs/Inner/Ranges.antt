-- What passes the tests of a date, a time of day and an instant lies in their ranges.
use Rattle.std.proofs.Common.{◌≡◌, ℕ, ℤ, pos, neg_ℤ, ◌<◌, ◌&&◌, true, arith}
use Rattle.std.specs.Prelude.{int_le, nat_le, nat_lt}
use Rattle.std.specs.Int.{IsInRange}
use Rattle.std.proofs.lemmas.Bool.Decides.{nat_tests}
use Rattle.jiff.specs.Words.{days_in_month, IsYear, IsTimestampNanos}

abbrev IsDateTest : ℕ → ℕ → ℕ → Type 0
IsDateTest y m d =
    nat_le y 9999 && nat_le 1 m && nat_le m 12 && nat_le 1 d && nat_le d (days_in_month (pos y) m) ≡ true

pub year_in : (y m d : ℕ) → IsDateTest y m d → IsYear (pos y)
year_in y m d h = grind (arith, nat_tests)

pub month_in : (y m d : ℕ) → IsDateTest y m d → IsInRange 1 12 m
month_in y m d h = grind (arith, nat_tests)

pub day_in : (y m d : ℕ) → IsDateTest y m d → IsInRange 1 (days_in_month (pos y) m) d
day_in y m d h = grind (arith, nat_tests)

abbrev IsTimeTest : ℕ → ℕ → ℕ → ℕ → Type 0
IsTimeTest hour minute second nanos =
    nat_lt hour 24 && nat_lt minute 60 && nat_lt second 60 && nat_lt nanos 1_000_000_000 ≡ true

pub hour_in : (hour minute second nanos : ℕ) → IsTimeTest hour minute second nanos → hour < 24
hour_in hour minute second nanos h = grind (arith, nat_tests)

pub minute_in : (hour minute second nanos : ℕ) → IsTimeTest hour minute second nanos → minute < 60
minute_in hour minute second nanos h = grind (arith, nat_tests)

pub second_in : (hour minute second nanos : ℕ) → IsTimeTest hour minute second nanos → second < 60
second_in hour minute second nanos h = grind (arith, nat_tests)

pub subsec_in : (hour minute second nanos : ℕ) → IsTimeTest hour minute second nanos → nanos < 1_000_000_000
subsec_in hour minute second nanos h = grind (arith, nat_tests)

pub instant_in : (n : ℤ) → int_le (neg_ℤ (pos 377_705_023_201_000_000_000)) n && int_le n (pos 253_402_207_200_999_999_999) ≡ true → IsTimestampNanos n
instant_in n h = grind (arith, nat_tests)
