-- The difference of one record.
use Rattle.std.specs.Prelude.{ℕ, Option, Some, None, if◌then◌else◌}
use Rattle.jiff.specs.Types.{TimeZone as PlainZone}
use Rattle.re_rating.specs.declared.records.Record.{Record}
use Rattle.re_rating.specs.declared.records.Difference.{Difference}
use Rattle.re_rating.specs.Differences.{differs, difference_of}

-- the difference of a record at its place, if it differs
abbrev pub difference_at : PlainZone → ℕ × Record → Option Difference
difference_at zone (place, booking) = if differs zone booking then Some (difference_of zone (place, booking)) else None
