-- What is promised of a list of steps: that the calls are answered as one house over one list of events answers.
use Rattle.std.specs.Prelude.{◌≡◌, ◌≢◌, ◌≤◌, ◌+◌, ℕ, ℤ, pos, List, [], ◌∷◌, ◌++◌, length, map, Option, Some, None, option_map, slice_get}
use Rattle.std.specs.List.{AllByRecursion}
use Rattle.std.specs.Option.{option_to_list}
use Rattle.ocpi_types.specs.declared.cdr.Cdr.{Cdr}
use Rattle.ocpi_types.specs.declared.config.Config.{Config}
use Rattle.cdr_checks.specs.declared.request.Command.{Command}
use Rattle.netting_positions.specs.Netting.{net_position, parties, total}
use Rattle.plain_house.specs.declared.event.Event.{Event}
use Rattle.plain_house.specs.declared.event.Event.TheVariants as event
use Rattle.plain_house.specs.Entries.{account_entries, book_entries, period_of}
use Rattle.plain_house.specs.House.{events_after, reply_of, verdict}
use Rattle.plain_house.specs.Known.{known}
use Rattle.plain_house.specs.Legal.{IsLegal}
use Rattle.plain_house.specs.LegalLists.{IsCharged, IsTakenBack, KeepsLimits}
use Rattle.plain_house.specs.Obligations.{obligations}
use Rattle.plain_house.specs.Replies.{Reply}
use Rattle.period_order.specs.Kept.{Keeps}
use Rattle.period_order.specs.Resolves.{Resolves}
use Rattle.house_core.specs.declared.running_call.RunningCall.{RunningCall}
use Rattle.house_core.specs.declared.finished.Done.{Done}
use Rattle.house_core.specs.declared.finished.Done.TheVariants as done
use Rattle.house_core.specs.declared.finished.Finished.{Finished}
use Rattle.house_core.specs.declared.step.Action.TheVariants as action
use Rattle.house_core.specs.declared.step.Step.{Step}
use Rattle.house_core.specs.Calls.{due_in_account, due_in_book, waiting}
use Rattle.house_core.specs.Events.{events_of, whole_account, whole_book}
use Rattle.house_core.specs.Holders.{HasNoLock}
use Rattle.house_core.specs.Start.{start}
use Rattle.house_core.specs.Steps.{begins, finishes, orders, step}
use Rattle.house_core.specs.World.{PlainWorld}

-- ---- a list of steps

abbrev pub after : PlainWorld → List Step → PlainWorld
after world [] = world
after world (one ∷ later) = after (step world one) later

-- the calls that have ended, in the order in which they did
abbrev pub finished : PlainWorld → List Step → List Finished
finished world [] = []
finished world (one ∷ later) = option_to_list (finishes world one) ++ finished (step world one) later

-- a call whose command was given its place in the order
pub record Ordered : Type 0 where
  pub call : ℕ
  pub command : Command

-- the call that a step gives its place
abbrev pub ordered_at : PlainWorld → Step → Option Ordered
ordered_at world one = option_map (λ command. record { call = one.call; command = command }) (orders world one)

-- the calls that were given their places, in the order in which they were
abbrev pub in_order : PlainWorld → List Step → List Ordered
in_order world [] = []
in_order world (one ∷ later) = option_to_list (ordered_at world one) ++ in_order (step world one) later

-- no number stands twice among these
abbrev pub NoneTwice : List ℕ → Type 0
NoneTwice numbers = (one another number : ℕ) → slice_get numbers one ≡ Some number → slice_get numbers another ≡ Some number → one ≡ another

-- ---- one house over one list of events

-- the events behind these, once the commands are done one after another
abbrev pub events_behind : Config → List Event → List Command → List Event
events_behind config events [] = events
events_behind config events (command ∷ later) = events_behind config (events_after config events command) later

-- the reply is that of the first `point` events, and the event that the command adds, if any, is the next; the point stands
-- between the numbers of events at the call's begin and at its end, and so does the event
pub record IsAnswered (config : Config) (events : List Event) (command : Command) (begin end point : ℕ) (reply : Reply) : Type 0 where
  pub before : List Event
  pub later : List Event
  pub split : events ≡ before ++ (option_to_list (verdict config (known before) command).event ++ later)
  pub at : length before ≡ point
  pub replied : reply ≡ reply_of config before command
  pub begun : begin ≤ point
  pub ended : point + length (option_to_list (verdict config (known before) command).event) ≤ end

abbrev pub IsDone : Config → List Event → Command → ℕ → ℕ → Done → Type 0
IsDone config events command begin end (done.Answered point reply) = IsAnswered config events command begin end point reply
IsDone config events command begin end done.Abandoned = begin ≤ end

pub record IsFinished (config : Config) (commands : List Command) (events : List Event) (call : Finished) : Type 0 where
  pub command : Command
  pub of_call : slice_get commands call.call ≡ Some command
  pub done : IsDone config events command call.begin call.end call.done

-- ---- the place of a call

-- the steps split at the call's Order step, which gives the call's command its place; so many events are before it
pub record IsPlaced (config : Config) (commands : List Command) (steps : List Step) (call point : ℕ) : Type 0 where
  pub earlier : List Step
  pub later : List Step
  pub command : Command
  pub split : steps ≡ earlier ++ record { call = call; action = action.Order } ∷ later
  pub of_call : slice_get commands call ≡ Some command
  pub placed : orders (after (start config commands) earlier) (record { call = call; action = action.Order }) ≡ Some command
  pub at : point ≡ length (events_of (after (start config commands) earlier))

-- a call that is answered has its place at its point, and one that is abandoned has none
abbrev pub HasPlace : Config → List Command → List Step → ℕ → Done → Type 0
HasPlace config commands steps call (done.Answered point reply) = IsPlaced config commands steps call point
HasPlace config commands steps call done.Abandoned =
    AllByRecursion (λ one. one.call ≢ call) (in_order (start config commands) steps)

-- the calls that were given their places are different calls, each with its own command; the calls that ended are different calls,
-- and each has its place
pub record ArePlaced (config : Config) (commands : List Command) (steps : List Step) (ended : List Finished) : Type 0 where
  pub own_commands : AllByRecursion (λ one. slice_get commands one.call ≡ Some one.command) (in_order (start config commands) steps)
  pub placed_once : NoneTwice (map (λ one. one.call) (in_order (start config commands) steps))
  pub ended_once : NoneTwice (map (λ call. call.call) ended)
  pub places : AllByRecursion (λ call. HasPlace config commands steps call.call call.done) ended

-- ---- time

-- a call that has not begun
abbrev pub IsWaiting : Option RunningCall → Type 0
IsWaiting None = Unit {0}
IsWaiting (Some call) = (command : Command) × (waiting call.stage ≡ Some command)

-- where one call has ended before another begins, its end is not behind the other's begin
abbrev pub KeepTime : PlainWorld → List Step → Type 0
KeepTime world steps =
    (earlier later : List Step) → steps ≡ earlier ++ later →
    AllByRecursion (λ one. AllByRecursion (λ another. IsWaiting (slice_get (after world earlier).calls another.call) → one.end ≤ another.begin) (finished (after world earlier) later)) (finished world earlier)

-- the steps split at the call's Begin step, by which the call begins; `begin` is the number of events before it
pub record HasBegun (config : Config) (commands : List Command) (steps : List Step) (call begin : ℕ) : Type 0 where
  pub earlier : List Step
  pub later : List Step
  pub command : Command
  pub split : steps ≡ earlier ++ record { call = call; action = action.Begin } ∷ later
  pub taken : begins (after (start config commands) earlier) (record { call = call; action = action.Begin }) ≡ Some command
  pub at : begin ≡ length (events_of (after (start config commands) earlier))

-- the steps split at the step that ends the call, and the call has begun before it; the call's `end` is the number of events before
-- that step
pub record IsTimed (config : Config) (commands : List Command) (steps : List Step) (call : Finished) : Type 0 where
  pub earlier : List Step
  pub last : Step
  pub later : List Step
  pub split : steps ≡ earlier ++ last ∷ later
  pub taken : finishes (after (start config commands) earlier) last ≡ Some call
  pub begun : HasBegun config commands earlier call.call call.begin
  pub at : call.end ≡ length (events_of (after (start config commands) earlier))

-- ---- books, accounts and the order

-- no call has entries that it still has to put
abbrev pub NothingIsDue : List RunningCall → Type 0
NothingIsDue calls =
    (number : ℕ) (call : RunningCall) → slice_get calls number ≡ Some call → (due_in_book call ≡ []) × (due_in_account call ≡ [])

-- with what calls still have to put, the books, the accounts and the order are those of these events, and the order names the
-- events there, one by one; where no call has anything to put, it names them in the books and accounts as they are
pub record HoldsEvents (config : Config) (events : List Event) (world : PlainWorld) : Type 0 where
  pub kept : Keeps config (map (whole_book world.calls) world.books) (map (whole_account world.calls) world.accounts) world.order events
  pub named : Resolves (map (whole_book world.calls) world.books) (map (whole_account world.calls) world.accounts) world.order events
  pub settled : NothingIsDue world.calls → Resolves (map (λ lock. lock.entries) world.books) (map (λ lock. lock.entries) world.accounts) world.order events

-- ---- as one house

-- the calls that ended are those whose last step was taken; the events are those that books, accounts and calls hold at the end,
-- and those of the commands one after another in their order, and legal; each answer is that of the list at its point; and each
-- call has its own place in the order
pub record AnsweredAsOne (config : Config) (commands : List Command) (steps : List Step) (ended : List Finished) (events : List Event) : Type 0 where
  pub calls : ended ≡ finished (start config commands) steps
  pub found : events ≡ events_of (after (start config commands) steps)
  pub held : HoldsEvents config events (after (start config commands) steps)
  pub history : events ≡ events_behind config [] (map (λ one. one.command) (in_order (start config commands) steps))
  pub answers : AllByRecursion (IsFinished config commands events) ended
  pub placed : ArePlaced config commands steps ended
  pub legal : IsLegal config events

-- and time is kept; each call that ended has the numbers of events of its first and its last step, and holds no lock any more
pub record OneHouse (config : Config) (commands : List Command) (steps : List Step) (ended : List Finished) (events : List Event) : Type 0 where
  pub answered : AnsweredAsOne config commands steps ended events
  pub time : KeepTime (start config commands) steps
  pub timed : AllByRecursion (IsTimed config commands steps) ended
  pub freed : AllByRecursion (λ call. HasNoLock (after (start config commands) steps) call.call) ended

-- ---- and beside it

-- each CDR costs what its tariffs give and is booked once, each Credit CDR takes one CDR back once, in each period and currency
-- the net positions add up to 0, and no limit was ever passed
pub record KeepsRules (config : Config) (events : List Event) : Type 0 where
  pub charged : (before later : List Event) (cdr : Cdr) (cost : ℕ) → events ≡ before ++ event.Cdr cdr cost ∷ later → IsCharged config (book_entries before) cdr cost
  pub taken_back : (before later : List Event) (credit : Cdr) (amount : ℤ) → events ≡ before ++ event.Credit credit amount ∷ later → IsTakenBack config (book_entries before) (period_of before) credit amount
  pub balanced : (period : ℕ) (currency : List ℕ) → total (map (λ party. net_position party currency (obligations period (book_entries events))) (parties config)) ≡ pos 0
  pub limits : (before later : List Event) → events ≡ before ++ later → KeepsLimits config (account_entries before)
