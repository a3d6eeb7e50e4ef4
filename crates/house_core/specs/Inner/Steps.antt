-- What each step keeps, and the event that it adds.
use Rattle.std.specs.Prelude.{◌≡◌, ◌≤◌, ◌<◌, ℕ, List, [], length, Option, Some, None, option_and_then, slice_get}
use Rattle.ocpi_types.specs.declared.config.Config.{Config}
use Rattle.cdr_checks.specs.declared.request.Command.{Command}
use Rattle.cdr_checks.specs.Admission.{IsAdmitted}
use Rattle.plain_house.specs.declared.event.Event.{Event}
use Rattle.plain_house.specs.declared.event.Event.TheVariants as event
use Rattle.plain_house.specs.Replies.{with_event}
use Rattle.house_core.specs.declared.stage.Stage.{Stage}
use Rattle.house_core.specs.declared.stage.Stage.TheVariants as stage
use Rattle.house_core.specs.declared.step.Step.{Step}
use Rattle.house_core.specs.Events.{events_of}
use Rattle.house_core.specs.Inner.Sound.{Holds}
use Rattle.period_order.specs.Kept.{IsConfiguration}
use Rattle.house_core.specs.Start.{start}
use Rattle.house_core.specs.Steps.{step}
use Rattle.house_core.specs.World.{PlainWorld}

-- the event that a call at this stage has added, if it has, as long as it carries it
abbrev pub event_of_stage : Stage → Option Event
event_of_stage (stage.Waiting command) = None
event_of_stage (stage.Begun command) = None
event_of_stage (stage.Ordered carried) = carried.event
event_of_stage (stage.Netting netting) = Some (event.Closed netting.period)
event_of_stage (stage.Stating stating) = None
event_of_stage stage.Ended = None

abbrev pub event_added : PlainWorld → ℕ → Option Event
event_added world number = option_and_then (λ call. event_of_stage call.stage) (slice_get world.calls number)

-- where the order is longer by a step, the event of its call comes to the events; else they stay
pub record EventsGo (before now : PlainWorld) (number : ℕ) : Type 0 where
  pub longer : length before.order < length now.order → events_of now ≡ with_event (events_of before) (event_added now number)
  pub same : length now.order ≤ length before.order → events_of now ≡ events_of before

-- a step of a sound world leads to a sound world
pub record Kept (config : Config) (commands : List Command) (world : PlainWorld) (one : Step) : Type 0 where
  pub events : List Event
  pub holds : Holds config commands events (step world one)
  pub goes : EventsGo world (step world one) one.call

-- the start is sound, and no step leads elsewhere
pub record StepsKeep : Type 0 where
  pub starts : (config : Config) (commands : List Command) → IsConfiguration config → ((number : ℕ) (command : Command) → slice_get commands number ≡ Some command → IsAdmitted config command) → Holds config commands [] (start config commands)
  pub keeps : (config : Config) (commands : List Command) (events : List Event) (world : PlainWorld) (one : Step) → IsConfiguration config → Holds config commands events world → Kept config commands world one
