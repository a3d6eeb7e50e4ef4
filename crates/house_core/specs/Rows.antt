-- The steps of each command, and that they end its call.
use Rattle.std.specs.Prelude.{◌≡◌, ◌<◌, ℕ, true, List, [], ◌∷◌, ◌++◌, length, map, Some, None, slice_get}
use Rattle.cdr_checks.specs.declared.request.Command.{Command}
use Rattle.cdr_checks.specs.declared.request.Command.TheVariants as command
use Rattle.plain_house.specs.Replies.{Reply}
use Rattle.house_core.specs.declared.running_call.RunningCall.{RunningCall}
use Rattle.house_core.specs.declared.finished.Done.TheVariants as done
use Rattle.house_core.specs.declared.step.Action.{Action}
use Rattle.house_core.specs.declared.step.Action.TheVariants as action
use Rattle.house_core.specs.declared.step.Step.{Step}
use Rattle.house_core.specs.Calls.{collects}
use Rattle.house_core.specs.Holders.{holder_at}
use Rattle.house_core.specs.OneHouse.{after, finished}
use Rattle.house_core.specs.World.{PlainWorld}

-- ---- the actions of a command, in order

-- of a command that looks into a book alone
abbrev pub by_book : List Action
by_book = action.Begin ∷ action.TakeBook ∷ action.Order ∷ action.PutBook ∷ action.End ∷ []

-- into an account alone
abbrev pub by_account : List Action
by_account = action.Begin ∷ action.TakeAccount ∷ action.Order ∷ action.PutAccount ∷ action.End ∷ []

-- into both
abbrev pub by_both : List Action
by_both = action.Begin ∷ action.TakeBook ∷ action.TakeAccount ∷ action.Order ∷ action.PutAccount ∷ action.PutBook ∷ action.End ∷ []

-- into all books, those of these operators one after another
abbrev pub by_all_books : List ℕ → List Action
by_all_books operators = action.Begin ∷ action.Order ∷ (map (λ operator. action.Collect operator) operators ++ action.End ∷ [])

abbrev pub row : List ℕ → Command → List Action
row operators (command.PutTariff tariff) = by_book
row operators (command.PutToken token) = by_account
row operators (command.Authorize ask) = by_account
row operators (command.Release release) = by_account
row operators (command.Post checked) = by_both
row operators (command.Close close) = by_all_books operators
row operators (command.Settle settlement) = by_account
row operators (command.Exposure ask) = by_account
row operators (command.Find find) = by_book
row operators (command.Statement ask) = by_all_books operators

-- the call of that number takes them
abbrev pub steps_of : ℕ → List Action → List Step
steps_of call actions = map (λ action. record { call = call; action = action }) actions

-- ---- where they end the call

-- the locks that the call's steps take are free, and so are those of all books where it collects them
pub record AreFree (world : PlainWorld) (call : RunningCall) (command : Command) : Type 0 where
  pub book : (number : ℕ) → call.book ≡ Some number → holder_at world.books number ≡ None
  pub account : (number : ℕ) → call.account ≡ Some number → holder_at world.accounts number ≡ None
  pub collected : collects command ≡ true → (number : ℕ) → holder_at world.books number ≡ None

-- the numbers below that one are among these, in any order
abbrev pub HasEach : List ℕ → ℕ → Type 0
HasEach numbers count = (number : ℕ) → number < count → (place : ℕ) × (slice_get numbers place ≡ Some number)

-- these steps end this call and no other: with a reply, at the number of events at which they begin
pub record EndsAnswered (world : PlainWorld) (call : ℕ) (steps : List Step) : Type 0 where
  pub reply : Reply
  pub ended : finished world steps ≡ record { call = call; begin = length world.order; end = length (after world steps).order; done = done.Answered (length world.order) reply } ∷ []
