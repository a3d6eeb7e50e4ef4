-- An event that is added again.
use Rattle.std.specs.Prelude.{◌≡◌, List, [], ◌∷◌, ◌++◌}
use Rattle.ocpi_types.specs.declared.config.Config.{Config}
use Rattle.plain_house.specs.declared.event.Event.{Event}
use Rattle.plain_house.specs.Legal.{IsGiven}

-- some admitted command adds the event to these, and it is now the last
pub record IsAdded (config : Config) (events : List Event) (event : Event) (now : List Event) : Type 0 where
  pub given : IsGiven config events event
  pub now_is : now ≡ events ++ event ∷ []
