-- What follows from the definitions.
use Rattle.std.specs.Prelude.{ℕ, List}
use Rattle.ocpi_types.specs.declared.config.Config.{Config}
use Rattle.plain_house.specs.declared.event.Event.{Event}
use Rattle.plain_house.specs.Legal.{IsLegal}
use Rattle.request_lines.specs.Script.{list_after}

-- whatever the lines of a script are, they make a legal list of a legal list
abbrev pub ScriptsKeepListsLegal : Type 0
ScriptsKeepListsLegal =
    (config : Config) (events : List Event) (lines : List (List ℕ)) → IsLegal config events → IsLegal config (list_after config events lines)
