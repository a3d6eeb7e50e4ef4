-- What follows from the definitions.
use Rattle.std.specs.Prelude.{◌≡◌, ◌++◌, ℕ, List, ◌∷◌, Some, length, slice_get}
use Rattle.ocpi_types.specs.declared.config.Config.{Config}
use Rattle.cdr_checks.specs.declared.request.Command.{Command}
use Rattle.cdr_checks.specs.Admission.{IsAdmitted}
use Rattle.period_order.specs.Kept.{AreDistinct, IsConfiguration}
use Rattle.house_core.specs.declared.running_call.RunningCall.{RunningCall}
use Rattle.house_core.specs.declared.step.Step.{Step}
use Rattle.house_core.specs.Calls.{waiting}
use Rattle.house_core.specs.Events.{events_of}
use Rattle.house_core.specs.Holders.{AreExclusive}
use Rattle.plain_house.specs.declared.event.Event.{Event}
use Rattle.plain_house.specs.House.{verdict}
use Rattle.plain_house.specs.Known.{known}
use Rattle.plain_house.specs.Legal.{IsLegal}
use Rattle.plain_house.specs.Replies.{Reply}
use Rattle.house_core.specs.declared.finished.Done.TheVariants as done
use Rattle.house_core.specs.declared.finished.Finished.{Finished}
use Rattle.house_core.specs.OneHouse.{KeepsRules, OneHouse, after, finished}
use Rattle.house_core.specs.Rows.{AreFree, EndsAnswered, HasEach, row, steps_of}
use Rattle.house_core.specs.Start.{start}

-- for every list of steps, admitted commands are answered as one house over one list of events answers
abbrev pub CommandsAreOneHouse : Type 0
CommandsAreOneHouse =
    (config : Config) (commands : List Command) (steps : List Step) →
    IsConfiguration config →
    ((number : ℕ) (command : Command) → slice_get commands number ≡ Some command → IsAdmitted config command) →
    OneHouse config commands steps (finished (start config commands) steps) (events_of (after (start config commands) steps))

-- the commands are admitted
abbrev pub AreAdmitted : Config → List Command → Type 0
AreAdmitted config commands = (number : ℕ) (command : Command) → slice_get commands number ≡ Some command → IsAdmitted config command

-- the call is answered at this point, and the event there is the one that its command adds
pub record Claims (config : Config) (commands : List Command) (events : List Event) (call : Finished) (point : ℕ) : Type 0 where
  pub reply : Reply
  pub command : Command
  pub before : List Event
  pub event : Event
  pub later : List Event
  pub answered : call.done ≡ done.Answered point reply
  pub of_call : slice_get commands call.call ≡ Some command
  pub split : events ≡ before ++ event ∷ later
  pub at : length before ≡ point
  pub adds : (verdict config (known before) command).event ≡ Some event

-- after every list of steps no two of the calls that ended claim one event
abbrev pub EventsAreClaimedOnce : Type 0
EventsAreClaimedOnce =
    (config : Config) (commands : List Command) (steps : List Step) (one another point : ℕ) (call other : Finished) →
    IsConfiguration config → AreAdmitted config commands →
    slice_get (finished (start config commands) steps) one ≡ Some call →
    slice_get (finished (start config commands) steps) another ≡ Some other →
    Claims config commands (events_of (after (start config commands) steps)) call point →
    Claims config commands (events_of (after (start config commands) steps)) other point → one ≡ another

-- behind every list of steps a call has a lock if and only if it is its holder, and no two calls have one lock
abbrev pub LocksAreExclusive : Type 0
LocksAreExclusive =
    (config : Config) (commands : List Command) (steps : List Step) → IsConfiguration config → AreAdmitted config commands →
    AreExclusive (after (start config commands) steps)

-- behind every list of steps, the steps of its row end a call that waits, with a reply, where the locks that they take and the books
-- that they collect are free
abbrev pub CallsCanEnd : Type 0
CallsCanEnd =
    (config : Config) (commands : List Command) (steps : List Step) (number : ℕ) (call : RunningCall) (command : Command) (operators : List ℕ) →
    IsConfiguration config → AreAdmitted config commands →
    slice_get (after (start config commands) steps).calls number ≡ Some call → waiting call.stage ≡ Some command →
    AreFree (after (start config commands) steps) call command → HasEach operators (length config.operators) →
    EndsAnswered (after (start config commands) steps) number (steps_of number (row operators command))

-- a legal list keeps the rules
abbrev pub LegalListsKeepRules : Type 0
LegalListsKeepRules =
    (config : Config) (events : List Event) → AreDistinct config → IsLegal config events → KeepsRules config events
