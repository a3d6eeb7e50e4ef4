-- What clocks in two time zones show.
use Rattle.std.specs.Prelude.{◌≡◌, ◌<◌, ◌+◌, ◌*◌, ◌*ℤ◌, ℕ, ℤ, pos}
use Rattle.jiff.specs.Types.{TimeZone as PlainZone}
use Rattle.jiff.specs.Words.{offset_at}

-- the beginning of a fifth hour, of those since 2024 began in UTC, in nanoseconds since 1970
abbrev pub fifth_hour : ℕ → ℤ
fifth_hour number = pos (1_704_067_200 + 18_000 * number) *ℤ pos 1_000_000_000

-- clocks in both zones show the same at every fifth hour of the years 2024 to 2030
abbrev pub ShowSame : PlainZone → PlainZone → Type 0
ShowSame ours theirs = (number : ℕ) → number < 12_274 → offset_at ours (fifth_hour number) ≡ offset_at theirs (fifth_hour number)
