use Rattle.std.proofs.Common.{◌≡◌, take}
use Rattle.indexmap.specs.IndexMap.{get}
use Rattle.ocpi_types.specs.declared.party.Party.{Party}
use Rattle.ocpi_types.specs.Config.{acts_for}
use Rattle.ocpi_types.specs.Party.{same_party}
use Rattle.event_commands.specs.Inner.PlatformTable.{first_name}
use Rattle.event_commands.proofs.platform_table.acting_platforms.Given as goal

abbrev pub invariant-loop-platform : goal.invariant-loop-platform
invariant-loop-platform l =
    (asked : Party) → get same_party l.acting asked ≡ first_name (λ platform. acts_for platform asked) (take l.platform-index l.platforms)
