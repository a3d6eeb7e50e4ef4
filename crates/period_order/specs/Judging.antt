-- Commands that are judged by another configuration than the one under which the list of events is legal.
use Rattle.std.specs.Prelude.{◌≡◌, List, map}
use Rattle.ocpi_types.specs.declared.config.Config.{Config}
use Rattle.cdr_checks.specs.declared.request.Command.{Command}
use Rattle.plain_house.specs.declared.event.Event.{Event}
use Rattle.plain_house.specs.House.{verdict}
use Rattle.plain_house.specs.Known.{Known, known}
use Rattle.plain_house.specs.Legal.{IsGivenBy, IsLegal}
use Rattle.plain_house.specs.Own.{own_known}

-- `config` may judge the commands of a house whose list is legal under `base`: each event that a command adds under `config` is
-- given under `base` too, whatever is known; and both have the same operators, parties of providers and currencies
pub record MayJudge (config base : Config) : Type 0 where
  pub adds : (known : Known) (event : Event) → IsGivenBy config known event → IsGivenBy base known event
  pub operators : config.operators ≡ base.operators
  pub providers : map (λ provider. provider.party) config.providers ≡ map (λ provider. provider.party) base.providers
  pub currencies : config.currencies ≡ base.currencies

-- a configuration may judge for itself
abbrev pub ConfigurationsJudgeForThemselves : Type 0
ConfigurationsJudgeForThemselves = (config : Config) → MayJudge config config

-- on a list that is legal under some configuration, a verdict under any other is decided by the entries of the command's own
-- operator and provider
abbrev pub JudgedByOwnEntries : Type 0
JudgedByOwnEntries =
    (config base : Config) (events : List Event) (command : Command) → IsLegal base events →
    verdict config (own_known command (known events)) command ≡ verdict config (known events) command
