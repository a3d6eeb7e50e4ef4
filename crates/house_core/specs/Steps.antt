-- The steps of calls. Each changes its call, and beside it no more than the lock that it names or the order; and it is decided
-- by what its definition takes.
use Rattle.std.specs.Prelude.{ℕ, Bool, true, false, if◌then◌else◌, List, ◌++◌, count_by, length, Option, Some, None, is_none, is_some, option_map, option_and_then, slice_get, slice_set}
use Rattle.std.specs.Option.{option_to_list}
use Rattle.ocpi_types.specs.declared.config.Config.{Config}
use Rattle.ocpi_types.specs.declared.config.Operator.{Operator}
use Rattle.cdr_checks.specs.declared.request.Command.{Command}
use Rattle.plain_house.specs.declared.entry.AccountEntry.{AccountEntry}
use Rattle.plain_house.specs.declared.entry.BookEntry.{BookEntry}
use Rattle.plain_house.specs.House.{verdict}
use Rattle.plain_house.specs.Known.{Known}
use Rattle.plain_house.specs.Replies.{stamped}
use Rattle.period_order.specs.declared.decided.Outcome.{Outcome}
use Rattle.period_order.specs.declared.decided.Outcome.TheVariants as outcome
use Rattle.period_order.specs.declared.order_entry.OrderEntry.{OrderEntry}
use Rattle.period_order.specs.Decided.{event_of, outcome_of}
use Rattle.period_order.specs.Order.{is_close_entry}
use Rattle.period_order.specs.Places.{order_entry}
use Rattle.house_core.specs.declared.running_call.RunningCall.{RunningCall}
use Rattle.house_core.specs.declared.finished.Done.{Done}
use Rattle.house_core.specs.declared.finished.Done.TheVariants as done
use Rattle.house_core.specs.declared.finished.Finished.{Finished}
use Rattle.house_core.specs.declared.stage.Carried.{Carried}
use Rattle.house_core.specs.declared.stage.Stage.{Stage}
use Rattle.house_core.specs.declared.stage.Stage.TheVariants as stage
use Rattle.house_core.specs.declared.step.Action.{Action}
use Rattle.house_core.specs.declared.step.Action.TheVariants as action
use Rattle.house_core.specs.declared.step.Step.{Step}
use Rattle.house_core.specs.Calls.{begun, for_account, for_book, held_account, held_book, in_account, in_book, ready, reply_due, waiting, wanted_account, wanted_book}
use Rattle.house_core.specs.Locks.{Lock, entries_at, freed, held, lock_at, with_lock}
use Rattle.house_core.specs.Collections.{is_open, nets_with, no_positions, no_statement, of_no_book, rows_with, sums}
use Rattle.house_core.specs.World.{PlainWorld}

-- ---- what a step changes

-- the call; the lock of its book and that of its account, where they change; and what the order keeps more, if anything
pub record Change : Type 0 where
  pub call : RunningCall
  pub book : Option (Lock BookEntry)
  pub account : Option (Lock AccountEntry)
  pub entry : Option OrderEntry

-- the call alone
abbrev pub of_call : RunningCall → Change
of_call call = record { call = call; book = None; account = None; entry = None }

abbrev pub of_book : RunningCall → Lock BookEntry → Change
of_book call lock = record { call = call; book = Some lock; account = None; entry = None }

abbrev pub of_account : RunningCall → Lock AccountEntry → Change
of_account call lock = record { call = call; book = None; account = Some lock; entry = None }

-- ---- each step; none where it cannot be taken

-- by the number of events
abbrev pub begin : ℕ → RunningCall → Option Change
begin point call =
    option_map (λ command. of_call (record call { begin = point; stage = stage.Begun command })) (waiting call.stage)

-- by the lock being free
abbrev pub take_book : ℕ → RunningCall → Lock BookEntry → Option Change
take_book number call lock =
    if is_none lock.holder then Some (of_book (record call { has_book = true }) (held number lock)) else None

abbrev pub take_account : ℕ → RunningCall → Lock AccountEntry → Option Change
take_account number call lock =
    if is_none lock.holder then Some (of_account (record call { has_account = true }) (held number lock)) else None

-- what a call carries behind the order: a reply and an event, or a table in which nothing is collected yet
abbrev pub stage_after : Config → Known → Outcome → Stage
stage_after config known (outcome.Replied reply event) =
    stage.Ordered (record { point = known.point; period = known.period; reply = reply; event = event })
stage_after config known (outcome.Closed period) =
    stage.Netting (record { point = known.point; period = period; collection = of_no_book config (no_positions config) })
stage_after config known (outcome.Stated ask) =
    stage.Stating (record { point = known.point; period = ask.period; collection = of_no_book config (no_statement config ask.party) })

-- by the order, and the book and the account that it holds
abbrev pub order : Config → Known → RunningCall → Command → Change
order config known call command =
    let outcome : Outcome = outcome_of command (verdict config known command) in
    record {
      call = record call { stage = stage_after config known outcome };
      book = None;
      account = None;
      entry = option_map (order_entry config (length known.book) (length known.account)) (event_of outcome);
    }

-- by that account
abbrev pub put_account : RunningCall → Carried → Lock AccountEntry → Change
put_account call carried lock =
    of_account (record call { has_account = false }) (record { holder = None; entries = lock.entries ++ in_account carried })

-- by that book; nothing is carried then
abbrev pub put_book : RunningCall → Carried → Lock BookEntry → Change
put_book call carried lock =
    of_book (record call { has_book = false; stage = stage.Ordered (record carried { event = None }) })
    (record { holder = None; entries = lock.entries ++ in_book carried })

-- the stage with the book of the operator of that number collected, where it is still to be
abbrev pub collected : Config → ℕ → Operator → List BookEntry → Stage → Option Stage
collected config number operator entries (stage.Waiting command) = None
collected config number operator entries (stage.Begun command) = None
collected config number operator entries (stage.Ordered carried) = None
collected config number operator entries (stage.Netting netting) =
    if is_open netting.collection.collected number
    then Some (stage.Netting (record netting { collection = nets_with number (sums config operator netting.period entries) netting.collection }))
    else None
collected config number operator entries (stage.Stating stating) =
    if is_open stating.collection.collected number
    then Some (stage.Stating (record stating { collection = rows_with number (sums config operator stating.period entries) stating.collection }))
    else None
collected config number operator entries stage.Ended = None

-- by that book, free
abbrev pub collect : Config → ℕ → RunningCall → Operator → Lock BookEntry → Option Change
collect config number call operator lock =
    if is_none lock.holder
    then option_map (λ stage. of_call (record call { stage = stage })) (collected config number operator lock.entries call.stage)
    else None

-- by its locks, which are given back
abbrev pub abandon : RunningCall → Option (Lock BookEntry) → Option (Lock AccountEntry) → Change
abandon call book account = record {
  call = record call { has_book = false; has_account = false; stage = stage.Ended };
  book = option_map freed book;
  account = option_map freed account;
  entry = None;
}

abbrev pub end : RunningCall → Change
end call = of_call (record call { stage = stage.Ended })

-- ---- in a world

-- what is known at the order to a call: the entries of its own book and account, the number of events and the current period
abbrev pub known_to : PlainWorld → RunningCall → Known
known_to world call = record {
  book = entries_at world.books call.book;
  account = entries_at world.accounts call.account;
  point = length world.order;
  period = count_by is_close_entry world.order;
}

-- the operator of that number and its lock, where they are there
abbrev pub collect_at : Config → ℕ → RunningCall → Option Operator → Option (Lock BookEntry) → Option Change
collect_at config number call None lock = None
collect_at config number call (Some operator) None = None
collect_at config number call (Some operator) (Some lock) = collect config number call operator lock

-- what the call of that number changes by an action
abbrev pub change_by : PlainWorld → ℕ → RunningCall → Action → Option Change
change_by world number call action.Begin = begin (length world.order) call
change_by world number call action.TakeBook =
    option_and_then (take_book number call) (lock_at world.books (wanted_book call))
change_by world number call action.TakeAccount =
    option_and_then (take_account number call) (lock_at world.accounts (wanted_account call))
change_by world number call action.Order =
    option_map (order world.config (known_to world call) call) (ready call)
change_by world number call action.PutAccount =
    option_and_then (λ carried. option_map (put_account call carried) (lock_at world.accounts call.account)) (for_account call)
change_by world number call action.PutBook =
    option_and_then (λ carried. option_map (put_book call carried) (lock_at world.books call.book)) (for_book call)
change_by world number call (action.Collect operator) =
    collect_at world.config operator call (slice_get world.config.operators operator) (slice_get world.books operator)
change_by world number call action.Abandon =
    option_map (λ command. abandon call (lock_at world.books (held_book call)) (lock_at world.accounts (held_account call))) (begun call.stage)
change_by world number call action.End = option_map (λ due. end call) (reply_due call)

abbrev pub change : PlainWorld → Step → Option Change
change world step = option_and_then (λ call. change_by world step.call call step.action) (slice_get world.calls step.call)

-- the world with the change of the call of that number; a step that cannot be taken leaves the world as it is
abbrev pub changed : PlainWorld → ℕ → Option Change → PlainWorld
changed world number None = world
changed world number (Some change) = record {
  config = world.config;
  books = with_lock world.books change.call.book change.book;
  accounts = with_lock world.accounts change.call.account change.account;
  order = world.order ++ option_to_list change.entry;
  calls = slice_set world.calls number change.call;
}

abbrev pub step : PlainWorld → Step → PlainWorld
step world one = changed world one.call (change world one)

-- ---- what a step tells

-- the call that a step ends
abbrev pub ended : PlainWorld → ℕ → RunningCall → Done → Finished
ended world number call done = record { call = number; begin = call.begin; end = length world.order; done = done }

abbrev pub ended_by : PlainWorld → ℕ → RunningCall → Action → Option Finished
ended_by world number call action.Begin = None
ended_by world number call action.TakeBook = None
ended_by world number call action.TakeAccount = None
ended_by world number call action.Order = None
ended_by world number call action.PutAccount = None
ended_by world number call action.PutBook = None
ended_by world number call (action.Collect operator) = None
ended_by world number call action.Abandon = option_map (λ command. ended world number call done.Abandoned) (begun call.stage)
ended_by world number call action.End =
    option_map (λ due. ended world number call (done.Answered due.point (stamped due.point due.reply))) (reply_due call)

abbrev pub finishes : PlainWorld → Step → Option Finished
finishes world step = option_and_then (λ call. ended_by world step.call call step.action) (slice_get world.calls step.call)

-- the command of the call that a step begins
abbrev pub begun_by : RunningCall → Action → Option Command
begun_by call action.Begin = waiting call.stage
begun_by call action.TakeBook = None
begun_by call action.TakeAccount = None
begun_by call action.Order = None
begun_by call action.PutAccount = None
begun_by call action.PutBook = None
begun_by call (action.Collect operator) = None
begun_by call action.Abandon = None
begun_by call action.End = None

abbrev pub begins : PlainWorld → Step → Option Command
begins world step = option_and_then (λ call. begun_by call step.action) (slice_get world.calls step.call)

-- the command that a step gives its place in the order
abbrev pub ordered_by : RunningCall → Action → Option Command
ordered_by call action.Begin = None
ordered_by call action.TakeBook = None
ordered_by call action.TakeAccount = None
ordered_by call action.Order = ready call
ordered_by call action.PutAccount = None
ordered_by call action.PutBook = None
ordered_by call (action.Collect operator) = None
ordered_by call action.Abandon = None
ordered_by call action.End = None

abbrev pub orders : PlainWorld → Step → Option Command
orders world step = option_and_then (λ call. ordered_by call step.action) (slice_get world.calls step.call)

-- the step is the Order step of a call that is ready for it
abbrev pub gives_place : PlainWorld → Step → Bool
gives_place world step = is_some (orders world step)
