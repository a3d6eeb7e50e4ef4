-- A house: its configuration and what has happened.
use Rattle.std.specs.Prelude.{List}
use Rattle.ocpi_types.specs.declared.config.Config.{Config}
use Rattle.plain_house.specs.declared.event.Event.{Event}

pub record State : Type 0 where
  pub config : Config
  pub events : List Event
