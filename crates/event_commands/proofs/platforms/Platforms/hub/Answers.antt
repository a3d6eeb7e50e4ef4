use Rattle.std.proofs.Common.{◌≡◌, ℕ, List, true, false, IfSome, IfNone, subst}
use Rattle.ocpi_types.specs.declared.config.Config.{Config}
use Rattle.ocpi_types.specs.declared.config.Platform.{Platform}
use Rattle.ocpi_types.specs.Config.{is_hub}
use Rattle.event_commands.proofs.PlatformLemmas.{none_passes, some_passes}
use Rattle.event_commands.proofs.platforms.Platforms.hub.Goals as goal

pub returns-clause-some : goal.returns-clause-some
returns-clause-some c =
    subst (λ (config : Config). IfSome c.self.inside.hub (λ name. is_hub config name ≡ true)) c.self.view_is
    (some_passes (λ (platform : Platform). platform.hub) c.self.inside.config c.self.invariant.different c.self.inside.hub c.self.invariant.is_hub)

pub returns-clause-none : goal.returns-clause-none
returns-clause-none c =
    subst (λ (config : Config). IfNone c.self.inside.hub ((name : List ℕ) → is_hub config name ≡ false)) c.self.view_is
    (none_passes (λ (platform : Platform). platform.hub) c.self.inside.config c.self.inside.hub c.self.invariant.is_hub)
