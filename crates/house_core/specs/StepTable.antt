-- What decides a step, and what it changes.
use Rattle.std.specs.Prelude.{◌≡◌, ℕ, List, ◌++◌, Option, Some, None, length, slice_get}
use Rattle.house_core.specs.declared.running_call.RunningCall.{RunningCall}
use Rattle.house_core.specs.declared.step.Action.{Action}
use Rattle.house_core.specs.declared.step.Action.TheVariants as action
use Rattle.house_core.specs.Calls.{due_in_account, due_in_book, held_account, held_book, wanted_account, wanted_book}
use Rattle.house_core.specs.Locks.{Lock, entries_at, lock_at}
use Rattle.house_core.specs.Steps.{Change, change_by, ended_by}
use Rattle.house_core.specs.World.{PlainWorld}

-- ---- two worlds agree in what decides a step of the call

abbrev pub AgreeFor : RunningCall → Action → PlainWorld → PlainWorld → Type 0
-- the number of events
AgreeFor call action.Begin one another = length one.order ≡ length another.order
AgreeFor call action.End one another = length one.order ≡ length another.order
-- the lock
AgreeFor call action.TakeBook one another = lock_at one.books (wanted_book call) ≡ lock_at another.books (wanted_book call)
AgreeFor call action.TakeAccount one another =
    lock_at one.accounts (wanted_account call) ≡ lock_at another.accounts (wanted_account call)
-- the order, and the entries of the call's book and account
AgreeFor call action.Order one another =
    (one.config ≡ another.config) × (one.order ≡ another.order) × (entries_at one.books call.book ≡ entries_at another.books call.book)
    × (entries_at one.accounts call.account ≡ entries_at another.accounts call.account)
-- the account or the book
AgreeFor call action.PutAccount one another = lock_at one.accounts call.account ≡ lock_at another.accounts call.account
AgreeFor call action.PutBook one another = lock_at one.books call.book ≡ lock_at another.books call.book
AgreeFor call (action.Collect operator) one another =
    (one.config ≡ another.config) × (slice_get one.books operator ≡ slice_get another.books operator)
-- the call's locks, and the number of events
AgreeFor call action.Abandon one another =
    (lock_at one.books (held_book call) ≡ lock_at another.books (held_book call))
    × (lock_at one.accounts (held_account call) ≡ lock_at another.accounts (held_account call))
    × (length one.order ≡ length another.order)

-- then the step changes the same, and ends the call alike
pub record IsDecided (number : ℕ) (call : RunningCall) (action : Action) (one another : PlainWorld) : Type 0 where
  pub changes : change_by one number call action ≡ change_by another number call action
  pub ends : ended_by one number call action ≡ ended_by another number call action

abbrev pub StepsAreDecided : Type 0
StepsAreDecided =
    (number : ℕ) (call : RunningCall) (action : Action) (one another : PlainWorld) → AgreeFor call action one another →
    IsDecided number call action one another

-- ---- a step changes no more than

abbrev pub NoBook : Change → Type 0
NoBook change = change.book ≡ None

abbrev pub NoAccount : Change → Type 0
NoAccount change = change.account ≡ None

abbrev pub NoEntry : Change → Type 0
NoEntry change = change.entry ≡ None

-- the entries under a lock, where one changes, are these
abbrev pub HasEntries : {E : Type 0} → Option (Lock E) → List E → Type 0
HasEntries None entries = Unit {0}
HasEntries (Some lock) entries = lock.entries ≡ entries

-- the call is as before but for its stage, and what else is named
abbrev pub OnlyStage : RunningCall → RunningCall → Type 0
OnlyStage call now = now ≡ record call { stage = now.stage }

abbrev pub OnlyBeginAndStage : RunningCall → RunningCall → Type 0
OnlyBeginAndStage call now = now ≡ record call { begin = now.begin; stage = now.stage }

abbrev pub OnlyBookLock : RunningCall → RunningCall → Type 0
OnlyBookLock call now = now ≡ record call { has_book = now.has_book }

abbrev pub OnlyAccountLock : RunningCall → RunningCall → Type 0
OnlyAccountLock call now = now ≡ record call { has_account = now.has_account }

abbrev pub OnlyBookLockAndStage : RunningCall → RunningCall → Type 0
OnlyBookLockAndStage call now = now ≡ record call { has_book = now.has_book; stage = now.stage }

abbrev pub OnlyLocksAndStage : RunningCall → RunningCall → Type 0
OnlyLocksAndStage call now = now ≡ record call { has_book = now.has_book; has_account = now.has_account; stage = now.stage }

abbrev pub ChangesNoMore : PlainWorld → RunningCall → Action → Change → Type 0
-- the call
ChangesNoMore world call action.Begin change =
    NoBook change × NoAccount change × NoEntry change × OnlyBeginAndStage call change.call
ChangesNoMore world call action.End change = NoBook change × NoAccount change × NoEntry change × OnlyStage call change.call
ChangesNoMore world call (action.Collect operator) change =
    NoBook change × NoAccount change × NoEntry change × OnlyStage call change.call
-- the call and the lock of its book, or of its account, under which the entries stay
ChangesNoMore world call action.TakeBook change =
    NoAccount change × NoEntry change × OnlyBookLock call change.call × HasEntries change.book (entries_at world.books (wanted_book call))
ChangesNoMore world call action.TakeAccount change =
    NoBook change × NoEntry change × OnlyAccountLock call change.call
    × HasEntries change.account (entries_at world.accounts (wanted_account call))
-- the call and its book, or its account, by what the call still has to put there
ChangesNoMore world call action.PutBook change =
    NoAccount change × NoEntry change × OnlyBookLockAndStage call change.call
    × HasEntries change.book (entries_at world.books call.book ++ due_in_book call)
ChangesNoMore world call action.PutAccount change =
    NoBook change × NoEntry change × OnlyAccountLock call change.call
    × HasEntries change.account (entries_at world.accounts call.account ++ due_in_account call)
-- the call and the order, by one entry or none
ChangesNoMore world call action.Order change = NoBook change × NoAccount change × OnlyStage call change.call
-- the call and its locks, under which the entries stay
ChangesNoMore world call action.Abandon change =
    NoEntry change × OnlyLocksAndStage call change.call
    × HasEntries change.book (entries_at world.books (held_book call))
    × HasEntries change.account (entries_at world.accounts (held_account call))

abbrev pub StepsChangeNoMore : Type 0
StepsChangeNoMore =
    (number : ℕ) (call : RunningCall) (action : Action) (world : PlainWorld) (change : Change) → change_by world number call action ≡ Some change →
    ChangesNoMore world call action change
