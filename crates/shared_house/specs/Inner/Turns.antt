-- Calls of all passes in one list, and how far they have been gone through.
use Rattle.std.specs.Prelude.{◌≡◌, ◌⊎◌, ◌≤◌, ◌<◌, ℕ, ◌+◌, nat_lt, Bool, List, [], ◌∷◌, Contains, count_by, length, take, if◌then◌else◌}
use Rattle.std.specs.List.{flat_map}
use Rattle.std.specs.List.Sorted.{IsNonDecreasingBy, IsPermutation}
use Rattle.ocpi_types.specs.declared.config.Config.{Config}
use Rattle.plain_house.specs.Laws.{adds_event}
use Rattle.plain_house.specs.declared.event.Event.{Event}
use Rattle.plain_house.specs.House.{events_after}
use Rattle.plain_house.specs.Legal.{IsLegal}
use Rattle.plain_house.specs.Replies.{is_no_memory}
use Rattle.shared_house.specs.declared.call.Call.{Call}
use Rattle.shared_house.specs.declared.certifying.turn.Turn.{Turn}
use Rattle.shared_house.specs.Points.{owns, point_of_reply, seen_behind}
use Rattle.shared_house.specs.Inner.Ranks.{rank_of}
use Rattle.shared_house.specs.History.{Stands}

-- a call that found memory, and what its pass has seen before it
pub record PlainTurn : Type 0 where
  pub front : ℕ
  pub call : Call

abbrev pub plain_turn : Turn → PlainTurn
plain_turn turn = record { front = turn.front; call = turn.call.now }

-- the turns of a pass that has seen so much
abbrev pub turns_from : ℕ → List Call → List PlainTurn
turns_from front [] = []
turns_from front (call ∷ later) =
    if is_no_memory call.reply then turns_from (seen_behind front call) later
    else record { front = front; call = call } ∷ turns_from (seen_behind front call) later

abbrev pub turns_of : List (List Call) → List PlainTurn
turns_of passes = flat_map (turns_from 0) passes

abbrev pub point_at : PlainTurn → ℕ
point_at turn = point_of_reply turn.call.reply

abbrev pub added_at : PlainTurn → ℕ
added_at turn = if adds_event turn.call.reply then 1 else 0

abbrev pub rank : PlainTurn → ℕ
rank turn = rank_of turn.call

abbrev pub owns_at : ℕ → PlainTurn → Bool
owns_at number turn = owns number turn.call

-- the turns of these passes, in the order of their ranks
pub record AreTurns (passes : List (List Call)) (turns : List PlainTurn) : Type 0 where
  pub same : IsPermutation (turns_of passes) turns
  pub in_order : IsNonDecreasingBy rank turns

-- a call that is in its turn, and stands
pub record IsFit (config : Config) (events : List Event) (turn : PlainTurn) : Type 0 where
  pub stands : Stands config events turn.call
  pub in_turn : turn.front ≤ point_at turn

-- the turns so far are fit, and so many events are theirs
pub record AreFit (config : Config) (events : List Event) (turns : List PlainTurn) (count : ℕ) : Type 0 where
  pub within : count ≤ length events
  pub legal : IsLegal config (take count events)
  pub each : (turn : PlainTurn) → Contains turns turn → IsFit config events turn × (point_at turn + added_at turn ≤ count)
  pub owned : (number : ℕ) → count_by (owns_at number) turns ≡ (if nat_lt number count then 1 else 0)

-- the next turn breaks at this number, when so many events are those of the turns before it: an event before its point is of no
-- call, or it does not fit
abbrev pub Tears : Config → List Event → ℕ → PlainTurn → ℕ → Type 0
Tears config events count turn number =
    ((count < point_at turn) × (count < length events) × (number ≡ count))
    ⊎ ((number ≡ point_at turn) × ((point_at turn ≤ count) ⊎ (length events ≤ count)) × ((point_at turn < count) ⊎ (IsFit config events turn → ⊥)))

-- the turn is at its point behind the events so far and fits, and the house has done its command
pub record IsNext (config : Config) (events : List Event) (count : ℕ) (turn : PlainTurn) (now : List Event) : Type 0 where
  pub fit : IsFit config events turn
  pub point_is : point_at turn ≡ count
  pub now_is : now ≡ events_after config (take count events) turn.call.command
