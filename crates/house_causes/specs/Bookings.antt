-- Why a CDR or Credit CDR is not booked under its id, or none is found.
use Rattle.std.specs.Prelude.{Option, Some, List, position}
use Rattle.ocpi_json.specs.declared.name.Name.TheVariants as name
use Rattle.ocpi_types.specs.declared.cdr.Cdr.{Cdr}
use Rattle.ocpi_types.specs.ContentDifference.{difference_of_cdrs}
use Rattle.cdr_checks.specs.Place.{at, inside}
use Rattle.cdr_checks.specs.declared.request.Find.{Find}
use Rattle.plain_house.specs.Booked.{booked_as}
use Rattle.plain_house.specs.Entries.{book_entries}
use Rattle.plain_house.specs.Happened.{books}
use Rattle.plain_house.specs.declared.event.Event.{Event}
use Rattle.house_causes.specs.First.{◌>>=◌}
use Rattle.house_causes.specs.HouseCause.{cause_at}
use Rattle.house_causes.specs.declared.house_cause.HouseCause.{HouseCause}
use Rattle.house_causes.specs.declared.house_cause.HouseReason.TheVariants as reason

-- the id is booked with other content: the first member that differs, the amount, and the event that books it
unfoldable pub booking_conflict : List Event → Cdr → Option HouseCause
booking_conflict events cdr = do
  found ← booked_as cdr.operator cdr.id (book_entries events)
  differing ← difference_of_cdrs found.cdr cdr
  Some (record {
    place = Some (inside name.Cdr differing);
    reason = reason.BookedOtherwise found.amount;
    event = position (books cdr.operator cdr.id) events;
  })

abbrev pub no_cdr : Find → HouseCause
no_cdr find = cause_at (at name.Id) (reason.NoCdr find.id)
