-- Which records are not rated at what was booked.
use Rattle.std.specs.Prelude.{ℕ, ℤ, not, ◌&&◌, Bool, List, filter, map, Option, Some}
use Rattle.std.specs.List.{enumerate_from}
use Rattle.std.specs.Option.{option_eq}
use Rattle.std.specs.Ordering.{int_eq}
use Rattle.std.specs.Result.{result_ok}
use Rattle.jiff.specs.Types.{TimeZone as PlainZone}
use Rattle.ocpi_types.specs.Cdr.{is_credit}
use Rattle.cdr_rating.specs.Price.{price}
use Rattle.re_rating.specs.declared.records.Record.{Record}
use Rattle.re_rating.specs.declared.records.Difference.{Difference}

-- what a record is rated at in its operator's zone; none where its rating is refused
abbrev pub rated_at : PlainZone → Record → Option ℤ
rated_at zone booking = result_ok (price booking.cdr zone)

-- it is no Credit CDR, and what it is rated at is not what was booked
abbrev pub differs : PlainZone → Record → Bool
differs zone booking = not (is_credit booking.cdr) && not (option_eq int_eq (rated_at zone booking) (Some booking.booked))

-- a record at its place, with both amounts
abbrev pub difference_of : PlainZone → ℕ × Record → Difference
difference_of zone (place, booking) = record {
  index = place;
  booked = booking.booked;
  rated = rated_at zone booking;
}

-- in the order of the list, the records that differ, each with its place in the list, from 0
unfoldable pub differences : PlainZone → List Record → List Difference
differences zone records = map (difference_of zone) (filter (λ p. differs zone p.1) (enumerate_from 0 records))
