-- The events of a world: what the order's entries name, found in books and accounts, or carried by the calls that still have to
-- put them.
use Rattle.std.specs.Prelude.{List, [], ◌++◌, map, Option, option_and_then, slice_get}
use Rattle.std.specs.Option.{option_map_or}
use Rattle.plain_house.specs.declared.entry.AccountEntry.{AccountEntry}
use Rattle.plain_house.specs.declared.entry.BookEntry.{BookEntry}
use Rattle.plain_house.specs.declared.event.Event.{Event}
use Rattle.period_order.specs.Resolved.{resolved}
use Rattle.house_core.specs.declared.running_call.RunningCall.{RunningCall}
use Rattle.house_core.specs.Calls.{due_in_account, due_in_book}
use Rattle.house_core.specs.Locks.{Lock}
use Rattle.house_core.specs.World.{PlainWorld}

-- the call that holds the lock
abbrev pub holder_of : {E : Type 0} → List RunningCall → Lock E → Option RunningCall
holder_of calls lock = option_and_then (slice_get calls) lock.holder

-- the entries of a book, and what its holder still has to put there
abbrev pub whole_book : List RunningCall → Lock BookEntry → List BookEntry
whole_book calls lock = lock.entries ++ option_map_or due_in_book (holder_of calls lock) []

-- the same of an account
abbrev pub whole_account : List RunningCall → Lock AccountEntry → List AccountEntry
whole_account calls lock = lock.entries ++ option_map_or due_in_account (holder_of calls lock) []

abbrev pub events_of : PlainWorld → List Event
events_of world =
    resolved (map (whole_book world.calls) world.books) (map (whole_account world.calls) world.accounts) world.order
