-- A house that takes over the events of another under its own configuration.
use Rattle.std.specs.Prelude.{◌≡◌, ◌⊎◌, ℕ, List, ◌∷◌, ◌++◌, length}
use Rattle.ocpi_types.specs.declared.config.Config.{Config}
use Rattle.plain_house.specs.declared.event.Event.{Event}
use Rattle.plain_house.specs.Legal.{IsGiven, IsLegal}
use Rattle.plain_house.specs.State.{State}

-- the new house has the configuration and the events of the old house, which are legal under the configuration
pub record IsTakenOver (old : State) (config : Config) (new : State) : Type 0 where
  pub configured : new.config ≡ config
  pub same : new.events ≡ old.events
  pub legal : IsLegal config old.events

-- the events before this number are legal under the configuration, and no admitted command adds the event of this number to them
pub record IsFirstOtherwise (config : Config) (events : List Event) (number : ℕ) : Type 0 where
  pub before : List Event
  pub event : Event
  pub later : List Event
  pub split : events ≡ before ++ event ∷ later
  pub number_is : number ≡ length before
  pub legal : IsLegal config before
  pub otherwise : IsGiven config before event → ⊥

-- a list that is legal under the configuration has no such number, so it is taken over or refused, and never both
abbrev pub TakenOverIsWhole : Type 0
TakenOverIsWhole =
    (config : Config) (events : List Event) (number : ℕ) → IsLegal config events → IsFirstOtherwise config events number → ⊥

-- a list has at most one such number
abbrev pub FirstOtherwiseIsUnique : Type 0
FirstOtherwiseIsUnique =
    (config : Config) (events : List Event) (one other : ℕ) → IsFirstOtherwise config events one → IsFirstOtherwise config events other → one ≡ other

-- each list is taken over, or has such a number: a house of the list is made or refused, unless memory runs out
abbrev pub TakenOverOrRefused : Type 0
TakenOverOrRefused = (config : Config) (events : List Event) → IsLegal config events ⊎ ((number : ℕ) × IsFirstOtherwise config events number)
