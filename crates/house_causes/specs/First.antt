-- The first event that passes a test, of all or of those after another one, with its number from 0.
use Rattle.std.specs.Prelude.{ℕ, Bool, List, Option, None, Some, position, slice_get}
use Rattle.plain_house.specs.declared.event.Event.{Event}
use Rattle.known_events.specs.After.{position_after}

-- what is found of what was found
infixl 10 ◌>>=◌
abbrev pub ◌>>=◌ : {A B : Type 0} → Option A → (A → Option B) → Option B
None >>= f = None
(Some x) >>= f = f x

pub record Numbered : Type 0 where
  pub at : ℕ
  pub event : Event

abbrev pub first_that : (Event → Bool) → List Event → Option Numbered
first_that test events = do
  at ← position test events
  event ← slice_get events at
  Some (record { at = at; event = event })

-- the first event after the one of a number that passes a test
abbrev pub first_after : ℕ → (Event → Bool) → List Event → Option Numbered
first_after number test events = do
  at ← position_after test number events
  event ← slice_get events at
  Some (record { at = at; event = event })
