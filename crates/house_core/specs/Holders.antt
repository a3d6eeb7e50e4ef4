-- Who holds the locks.
use Rattle.std.specs.Prelude.{◌≡◌, ◌≢◌, ℕ, List, Option, Some, option_and_then, slice_get}
use Rattle.house_core.specs.declared.running_call.RunningCall.{RunningCall}
use Rattle.house_core.specs.Calls.{held_account, held_book}
use Rattle.house_core.specs.Locks.{Lock}
use Rattle.house_core.specs.World.{PlainWorld}

-- the number of the call that holds the lock of that number, if one does
abbrev pub holder_at : {E : Type 0} → List (Lock E) → ℕ → Option ℕ
holder_at locks number = option_and_then (λ lock. lock.holder) (slice_get locks number)

-- a call that has a lock is the holder of that lock, and a lock's holder is a call that has it
pub record Agree {E : Type 0} (held : RunningCall → Option ℕ) (locks : List (Lock E)) (calls : List RunningCall) : Type 0 where
  pub holding : (number : ℕ) (call : RunningCall) (lock : ℕ) → slice_get calls number ≡ Some call → held call ≡ Some lock → holder_at locks lock ≡ Some number
  pub holder : (lock number : ℕ) → holder_at locks lock ≡ Some number → (call : RunningCall) × (slice_get calls number ≡ Some call) × (held call ≡ Some lock)

-- two calls that have one lock are one call
abbrev pub NoTwoHave : (RunningCall → Option ℕ) → List RunningCall → Type 0
NoTwoHave held calls =
    (one another lock : ℕ) (call other : RunningCall) → slice_get calls one ≡ Some call → slice_get calls another ≡ Some other →
    held call ≡ Some lock → held other ≡ Some lock → one ≡ another

-- the locks of books and of accounts have at most one holder each, the call that has them
pub record AreExclusive (world : PlainWorld) : Type 0 where
  pub books : Agree held_book world.books world.calls
  pub accounts : Agree held_account world.accounts world.calls
  pub one_to_a_book : NoTwoHave held_book world.calls
  pub one_to_an_account : NoTwoHave held_account world.calls

-- the call holds no lock
pub record HasNoLock (world : PlainWorld) (call : ℕ) : Type 0 where
  pub book : (number : ℕ) → holder_at world.books number ≢ Some call
  pub account : (number : ℕ) → holder_at world.accounts number ≢ Some call
