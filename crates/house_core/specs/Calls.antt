-- What a call is ready for, and what it carries.
use Rattle.std.specs.Prelude.{true, false, ℕ, Bool, not, ◌&&◌, ◌||◌, if◌then◌else◌, List, [], Option, Some, None, is_none, is_some, Ok}
use Rattle.std.specs.Option.{option_map_or}
use Rattle.cdr_checks.specs.declared.request.Command.{Command}
use Rattle.cdr_checks.specs.declared.request.Command.TheVariants as command
use Rattle.netting_positions.specs.Netting.{net_positions}
use Rattle.netting_positions.specs.Statement.{statement_rows}
use Rattle.plain_house.specs.declared.answer.Answer.TheVariants as answer
use Rattle.plain_house.specs.declared.entry.AccountEntry.{AccountEntry}
use Rattle.plain_house.specs.declared.entry.BookEntry.{BookEntry}
use Rattle.plain_house.specs.Entries.{account_entry, book_entry}
use Rattle.house_core.specs.declared.running_call.RunningCall.{RunningCall}
use Rattle.house_core.specs.declared.running_call.ReplyDue.{ReplyDue}
use Rattle.house_core.specs.declared.stage.Carried.{Carried}
use Rattle.house_core.specs.declared.stage.Stage.{Stage}
use Rattle.house_core.specs.declared.stage.Stage.TheVariants as stage
use Rattle.house_core.specs.Collections.{is_complete}

-- ---- commands

-- the command collects all books behind its place in the order; each other looks into its own book and its own account alone
abbrev pub collects : Command → Bool
collects (command.PutTariff tariff) = false
collects (command.PutToken token) = false
collects (command.Authorize ask) = false
collects (command.Release release) = false
collects (command.Post checked) = false
collects (command.Close close) = true
collects (command.Settle settlement) = false
collects (command.Exposure ask) = false
collects (command.Find find) = false
collects (command.Statement ask) = true

-- ---- the stages

-- the command of a call that has not begun
abbrev pub waiting : Stage → Option Command
waiting (stage.Waiting command) = Some command
waiting (stage.Begun command) = None
waiting (stage.Ordered carried) = None
waiting (stage.Netting netting) = None
waiting (stage.Stating stating) = None
waiting stage.Ended = None

-- the command of a call that has begun and has no place in the order yet
abbrev pub begun : Stage → Option Command
begun (stage.Waiting command) = None
begun (stage.Begun command) = Some command
begun (stage.Ordered carried) = None
begun (stage.Netting netting) = None
begun (stage.Stating stating) = None
begun stage.Ended = None

-- what was decided, where no book is to be collected
abbrev pub ordered : Stage → Option Carried
ordered (stage.Waiting command) = None
ordered (stage.Begun command) = None
ordered (stage.Ordered carried) = Some carried
ordered (stage.Netting netting) = None
ordered (stage.Stating stating) = None
ordered stage.Ended = None

-- ---- what is next: first the book, then the account, then the order; behind it the account, then the book

-- the number of the book whose lock it takes next
abbrev pub wanted_book : RunningCall → Option ℕ
wanted_book call = if is_some (begun call.stage) && not call.has_book then call.book else None

abbrev pub has_its_book : RunningCall → Bool
has_its_book call = is_none call.book || call.has_book

abbrev pub has_its_account : RunningCall → Bool
has_its_account call = is_none call.account || call.has_account

-- the number of the account whose lock it takes next
abbrev pub wanted_account : RunningCall → Option ℕ
wanted_account call =
    if is_some (begun call.stage) && has_its_book call && not call.has_account then call.account else None

-- the command, once the call holds all locks that it needs
abbrev pub ready : RunningCall → Option Command
ready call = if has_its_book call && has_its_account call then begun call.stage else None

-- the numbers of the book and of the account whose lock it holds
abbrev pub held_book : RunningCall → Option ℕ
held_book call = if call.has_book then call.book else None

abbrev pub held_account : RunningCall → Option ℕ
held_account call = if call.has_account then call.account else None

-- what it puts into its account next, and into its book
abbrev pub for_account : RunningCall → Option Carried
for_account call = if call.has_account then ordered call.stage else None

abbrev pub for_book : RunningCall → Option Carried
for_book call = if call.has_book && not call.has_account then ordered call.stage else None

-- ---- what it still has to put

abbrev pub in_book : Carried → List BookEntry
in_book carried = option_map_or (λ event. book_entry event carried.period) carried.event []

abbrev pub in_account : Carried → List AccountEntry
in_account carried = option_map_or (λ event. account_entry event carried.period) carried.event []

abbrev pub due_in_book : RunningCall → List BookEntry
due_in_book call = if call.has_book then option_map_or in_book (ordered call.stage) [] else []

abbrev pub due_in_account : RunningCall → List AccountEntry
due_in_account call = if call.has_account then option_map_or in_account (ordered call.stage) [] else []

-- ---- the reply

-- the reply of a call that has put all that it carried, or collected all books
abbrev pub reply_due_at : Bool → Stage → Option ReplyDue
reply_due_at has_lock (stage.Waiting command) = None
reply_due_at has_lock (stage.Begun command) = None
reply_due_at has_lock (stage.Ordered carried) =
    if has_lock then None else Some (record { point = carried.point; reply = carried.reply })
reply_due_at has_lock (stage.Netting netting) =
    if is_complete netting.collection.collected then Some (record {
      point = netting.point;
      reply = Ok (answer.Closed netting.period (net_positions netting.collection.table.parties netting.collection.table.currencies netting.collection.table.obligations));
    }) else None
reply_due_at has_lock (stage.Stating stating) =
    if is_complete stating.collection.collected then Some (record {
      point = stating.point;
      reply = Ok (answer.Statement (statement_rows stating.collection.table.party stating.collection.table.obligations));
    }) else None
reply_due_at has_lock stage.Ended = None

abbrev pub reply_due : RunningCall → Option ReplyDue
reply_due call = reply_due_at (call.has_book || call.has_account) call.stage
