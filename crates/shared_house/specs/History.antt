-- One history: the events, and the calls that passes made, each at its point.
use Rattle.std.specs.Prelude.{◌≡◌, ◌≢◌, ◌⊎◌, ◌≤◌, ◌<◌, ℕ, List, count_by, length, take, slice_get, IfSome, Some}
use Rattle.ocpi_types.specs.declared.config.Config.{Config}
use Rattle.plain_house.specs.Laws.{adds_event}
use Rattle.plain_house.specs.declared.event.Event.{Event}
use Rattle.plain_house.specs.House.{reply_of, verdict}
use Rattle.plain_house.specs.Known.{known}
use Rattle.plain_house.specs.Legal.{IsLegal}
use Rattle.shared_house.specs.declared.call.Call.{Call}
use Rattle.shared_house.specs.Points.{HaveMade, front_behind, owners, point_of_reply}

-- the events before a call
abbrev pub events_before : List Event → Call → List Event
events_before events call = take (point_of_reply call.reply) events

-- the call stands at its point: it has the reply of the house of one list on the events before it, and where that house adds an
-- event, it is the next
pub record Stands (config : Config) (events : List Event) (call : Call) : Type 0 where
  pub within : point_of_reply call.reply ≤ length events
  pub reply_is : call.reply ≡ reply_of config (events_before events call) call.command
  pub event_is : IfSome (verdict config (known (events_before events call)) call.command).event (λ added. slice_get events (point_of_reply call.reply) ≡ Some added)

-- the events and the calls of all passes are one history
pub record IsOneHistory (config : Config) (events : List Event) (passes : List (List Call)) : Type 0 where
  pub legal : IsLegal config events
  -- each call stands at its point
  pub stands : (earlier : List Call) (call : Call) → HaveMade passes earlier call → Stands config events call
  -- each event is of exactly one call
  pub owned : (number : ℕ) → number < length events → owners passes number ≡ 1
  -- no call stands before what its pass has seen
  pub in_turn : (earlier : List Call) (call : Call) → HaveMade passes earlier call → front_behind earlier ≤ point_of_reply call.reply

-- a call at this point does not stand there, or stands before what its pass has seen
pub record CallBreaks (config : Config) (events : List Event) (passes : List (List Call)) (number : ℕ) : Type 0 where
  pub earlier : List Call
  pub call : Call
  pub is_call : HaveMade passes earlier call
  pub point_is : point_of_reply call.reply ≡ number
  pub breaks : (Stands config events call → ⊥) ⊎ (point_of_reply call.reply < front_behind earlier)

-- the event of this number is there, and is not of exactly one call
pub record EventBreaks (events : List Event) (passes : List (List Call)) (number : ℕ) : Type 0 where
  pub is_there : number < length events
  pub breaks : owners passes number ≢ 1

-- the history breaks at this number
abbrev pub Breaks : Config → List Event → List (List Call) → ℕ → Type 0
Breaks config events passes number = CallBreaks config events passes number ⊎ EventBreaks events passes number

-- it breaks there, and at no smaller number
pub record BreaksFirst (config : Config) (events : List Event) (passes : List (List Call)) (number : ℕ) : Type 0 where
  pub breaks : Breaks config events passes number
  pub none_before : (smaller : ℕ) → smaller < number → Breaks config events passes smaller → ⊥

-- in one history a call of a pass stands behind as many events as the calls before it in the pass have added, or more
abbrev pub PassesSeeTheirEvents : Type 0
PassesSeeTheirEvents =
    (config : Config) (events : List Event) (passes : List (List Call)) (earlier : List Call) (call : Call) → IsOneHistory config events passes →
    HaveMade passes earlier call → count_by (λ call. adds_event call.reply) earlier ≤ point_of_reply call.reply
