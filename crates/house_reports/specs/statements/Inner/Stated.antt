-- What is owed in a period, if statements of it can be made.
use Rattle.std.specs.Prelude.{◌≡◌, ◌<◌, ◌^◌, true, List}
use Rattle.std.specs.List.{list_all}
use Rattle.ocpi_types.specs.declared.config.Config.{Config}
use Rattle.netting_positions.specs.declared.obligation.Obligation.{Obligation}
use Rattle.netting_positions.specs.Netting.{is_configured, parties, total_size}

-- each is of configured parties and a configured currency, and all of them fit in 63 bits
pub record CanBeStated (config : Config) (owed : List Obligation) : Type 0 where
  pub configured : list_all (is_configured (parties config) config.currencies) owed ≡ true
  pub fits : total_size owed < 2 ^ 63
