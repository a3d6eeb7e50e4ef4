-- What a call returns, and what its pass keeps of it.
use Rattle.std.specs.Prelude.{All, ◌≡◌, ◌⊎◌, ◌≤◌, ◌+◌, ℕ, Bool, true, false, ◌||◌, List, [], ◌∷◌, ◌++◌, length, if◌then◌else◌, IfSome}
use Rattle.ocpi_types.specs.declared.config.Config.{Config}
use Rattle.ocpi_types.specs.declared.config.Operator.{Operator}
use Rattle.cdr_checks.specs.declared.request.Command.{Command}
use Rattle.period_order.specs.Decided.{is_close_command, is_statement_command}
use Rattle.plain_house.specs.Laws.{adds_event}
use Rattle.plain_house.specs.declared.entry.BookEntry.{BookEntry}
use Rattle.plain_house.specs.House.{verdict}
use Rattle.plain_house.specs.Known.{Known}
use Rattle.plain_house.specs.LegalEntries.{IsLegalAccount, IsLegalBook}
use Rattle.plain_house.specs.LegalLists.{CanBeNetted}
use Rattle.plain_house.specs.Own.{own_book}
use Rattle.plain_house.specs.Replies.{Reply, is_no_memory, no_memory, stamped}
use Rattle.shared_house.specs.declared.call.Call.{Call}
use Rattle.shared_house.specs.PassView.{PassView}
use Rattle.shared_house.specs.Points.{told_point}

-- ---- events

-- one, where the reply tells of an event
abbrev pub event_count : Reply → ℕ
event_count reply = if adds_event reply then 1 else 0

abbrev pub call_adds_event : Call → Bool
call_adds_event call = adds_event call.reply

-- the number of events before the call is no less than this, where the reply has it
abbrev pub IsAtLeast : ℕ → Reply → Type 0
IsAtLeast least reply = IfSome (told_point reply) (λ point. least ≤ point)

-- ---- what is replied

-- the command looks into all books, one after another
abbrev pub is_collecting : Command → Bool
is_collecting command = is_close_command command || is_statement_command command

-- each operator's own entries of its book, one operator after another
abbrev pub own_books : List Operator → List (List BookEntry) → List BookEntry
own_books [] books = []
own_books (operator ∷ operators) [] = []
own_books (operator ∷ operators) (book ∷ books) = own_book operator.party book ++ own_books operators books

-- legal books were read, one for each operator: these are the operators' own entries in them. What they oblige to is between
-- configured parties and in configured currencies, and fits in 63 bits
pub record AreRead (config : Config) (entries : List BookEntry) : Type 0 where
  pub books : List (List BookEntry)
  pub legal : All (IsLegalBook config) books
  pub one_each : length books ≡ length config.operators
  pub entries_are : entries ≡ own_books config.operators books
  pub netted : CanBeNetted config entries

-- the reply is the verdict by some legal book and some legal account, or by the books that were read, with its point
pub record IsTold (config : Config) (command : Command) (reply : Reply) : Type 0 where
  pub known : Known
  pub book : is_collecting command ≡ false → IsLegalBook config known.book
  pub books : is_collecting command ≡ true → AreRead config known.book
  pub account : IsLegalAccount config known.account
  pub reply_is : reply ≡ stamped known.point (verdict config known command).reply

-- what a call returns: want of memory, or what it is told, at a point that is no less than this
pub record Returns (config : Config) (command : Command) (least : ℕ) (reply : Reply) : Type 0 where
  pub told : is_no_memory reply ≡ false → IsTold config command reply
  pub refused : is_no_memory reply ≡ true → reply ≡ no_memory
  pub at : IsAtLeast least reply

-- ---- what a pass keeps

-- nothing: the pass had no place for the call and got none, and the call returns want of memory
pub record KeepsNothing (before after : PassView) (reply : Reply) : Type 0 where
  pub calls : after.calls ≡ before.calls
  pub had_no_place : before.places ≡ 0
  pub has_no_place : after.places ≡ 0
  pub refused : reply ≡ no_memory

-- the call with what it returned, want of memory too; nothing only where there is no place for it
abbrev pub Keeps : PassView → Command → Reply → PassView → Type 0
Keeps before command reply after =
    (after.calls ≡ before.calls ++ record { command = command; reply = reply } ∷ []) ⊎ KeepsNothing before after reply

-- a call with a pass: what it returns, and the pass after it
pub record IsCall (config : Config) (command : Command) (before after : PassView) (reply : Reply) : Type 0 where
  pub number : after.number ≡ before.number
  pub calls : Keeps before command reply after
  pub share : after.share ≡ before.share + event_count reply
  pub returns : Returns config command before.share reply
