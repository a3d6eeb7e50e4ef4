-- What a world's code keeps: all that a call still has to put finds its place without memory.
use Rattle.std.specs.Prelude.{◌≡◌, ◌<◌, ◌+◌, ◌^◌, ℕ, Bool, true, List, Option, Some, None, slice_get}
use Rattle.std.specs.List.{list_all}
use Rattle.ocpi_types.specs.declared.config.Config.{Config}
use Rattle.ocpi_types.specs.declared.config.Operator.{Operator}
use Rattle.ocpi_types.specs.declared.party.Party.{Party}
use Rattle.cdr_checks.specs.declared.request.Command.{Command}
use Rattle.netting_positions.specs.declared.obligation.Obligation.{Obligation}
use Rattle.netting_positions.specs.Netting.{is_configured, total_size}
use Rattle.operator_book.specs.Due.{due}
use Rattle.plain_house.specs.declared.entry.BookEntry.{BookEntry}
use Rattle.plain_house.specs.declared.event.Event.{Event}
use Rattle.period_order.specs.Decided.{AccountTakes, BookTakes}
use Rattle.house_core.specs.declared.running_call.RunningCall.{RunningCall}
use Rattle.house_core.specs.declared.locks.AccountLock.{AccountLock}
use Rattle.house_core.specs.declared.locks.BookLock.{BookLock}
use Rattle.house_core.specs.declared.parts.Parts.{Parts}
use Rattle.house_core.specs.declared.stage.Carried.{Carried}
use Rattle.house_core.specs.declared.stage.Stage.{Stage}
use Rattle.house_core.specs.declared.stage.Stage.TheVariants as stage
use Rattle.house_core.specs.Calls.{held_account, held_book, ordered}
use Rattle.house_core.specs.Collections.{is_open}
use Rattle.house_core.specs.Inner.Shown.{shown_accounts, shown_books}
use Rattle.house_core.specs.Inner.Sound.{Holds}
use Rattle.period_order.specs.Kept.{IsConfiguration}
use Rattle.house_core.specs.Locks.{Lock}
use Rattle.house_core.specs.World.{PlainWorld}

-- the book takes the event that the call carries, if it carries one
abbrev pub BookIsReady : RunningCall → BookLock → Type 0
BookIsReady call lock =
    (carried : Carried) (event : Event) → ordered call.stage ≡ Some carried → carried.event ≡ Some event →
    (lock.book.has_room ≡ true) × BookTakes lock.book.entries event

-- and the account
abbrev pub AccountIsReady : RunningCall → AccountLock → Type 0
AccountIsReady call lock =
    (carried : Carried) (event : Event) → ordered call.stage ≡ Some carried → carried.event ≡ Some event →
    (lock.account.has_room ≡ true) × AccountTakes lock.account.entries carried.period event

-- so it is for each call and the lock that it holds
abbrev pub AreReady : {L : Type 0} → (RunningCall → Option ℕ) → (RunningCall → L → Type 0) → List RunningCall → List L → Type 0
AreReady {L} held IsReady calls locks =
    (number at : ℕ) (call : RunningCall) (lock : L) → slice_get calls number ≡ Some call → held call ≡ Some at → slice_get locks at ≡ Some lock →
    IsReady call lock

abbrev pub shown : Parts → PlainWorld
shown parts = record {
  config = parts.config;
  books = shown_books parts.books.items;
  accounts = shown_accounts parts.accounts.items;
  order = parts.order.entries;
  calls = parts.calls.items;
}

pub record ArePartsReady (parts : Parts) : Type 0 where
  pub books : AreReady held_book BookIsReady parts.calls.items parts.books.items
  pub accounts : AreReady held_account AccountIsReady parts.calls.items parts.accounts.items

-- and the world is one that steps lead to
pub record AreSound (parts : Parts) : Type 0 where
  pub commands : List Command
  pub events : List Event
  pub config : IsConfiguration parts.config
  pub holds : Holds parts.config commands events (shown parts)
  pub ready : ArePartsReady parts

-- the book and the account of that call have room for one more entry, and so has the order
pub record HaveRoom (parts : Parts) (number : ℕ) : Type 0 where
  pub book : (call : RunningCall) (at : ℕ) (lock : BookLock) → slice_get parts.calls.items number ≡ Some call → call.book ≡ Some at → slice_get parts.books.items at ≡ Some lock → lock.book.has_room ≡ true
  pub account : (call : RunningCall) (at : ℕ) (lock : AccountLock) → slice_get parts.calls.items number ≡ Some call → call.account ≡ Some at → slice_get parts.accounts.items at ≡ Some lock → lock.account.has_room ≡ true
  pub order : parts.order.has_room ≡ true

-- what an operator of that number is owed can be collected from its free book into the table of that stage
pub record Collects (parties : List Party) (currencies : List (List ℕ)) (obligations owed : List Obligation) : Type 0 where
  pub configured : list_all (is_configured parties currencies) owed ≡ true
  pub fits : total_size obligations + total_size owed < 2 ^ 63

-- where the book of that number is still to be collected
abbrev pub IsCollectable : List Bool → ℕ → List Party → List (List ℕ) → List Obligation → List Obligation → Type 0
IsCollectable collected number parties currencies obligations owed = is_open collected number ≡ true → Collects parties currencies obligations owed

abbrev pub CanCollectOf : ℕ → Operator → List BookEntry → Stage → Type 0
CanCollectOf number operator entries (stage.Waiting command) = Unit {0}
CanCollectOf number operator entries (stage.Begun command) = Unit {0}
CanCollectOf number operator entries (stage.Ordered carried) = Unit {0}
CanCollectOf number operator entries (stage.Netting netting) =
    IsCollectable netting.collection.collected number netting.collection.table.parties netting.collection.table.currencies netting.collection.table.obligations
    (due operator.party netting.period entries)
CanCollectOf number operator entries (stage.Stating stating) =
    IsCollectable stating.collection.collected number stating.collection.table.parties stating.collection.table.currencies stating.collection.table.obligations
    (due operator.party stating.period entries)
CanCollectOf number operator entries stage.Ended = Unit {0}

abbrev pub CanCollect : Config → List (Lock BookEntry) → ℕ → Stage → Type 0
CanCollect config locks number stage =
    (operator : Operator) (lock : Lock BookEntry) → slice_get config.operators number ≡ Some operator → slice_get locks number ≡ Some lock →
    lock.holder ≡ None → CanCollectOf number operator lock.entries stage
