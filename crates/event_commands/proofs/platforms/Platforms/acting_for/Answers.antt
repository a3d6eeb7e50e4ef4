use Rattle.std.proofs.Common.{◌≡◌, ◌∙◌, ℕ, List, Option, true, false, IfSome, IfNone, subst}
use Rattle.ocpi_types.specs.declared.config.Config.{Config}
use Rattle.ocpi_types.specs.declared.config.Platform.{Platform}
use Rattle.ocpi_types.specs.declared.party.Party.{Party}
use Rattle.ocpi_types.specs.Config.{acts_for, may_act_for}
use Rattle.event_commands.proofs.PlatformLemmas.{none_passes, some_passes}
use Rattle.event_commands.proofs.platforms.Platforms.acting_for.Goals as goal

pub returns-clause-some : goal.returns-clause-some
returns-clause-some c =
    let party : Party = c.args.party.now in
    let found : Option (List ℕ) = c.copied.result in
    subst (λ (config : Config). IfSome found (λ name. may_act_for config name party ≡ true)) c.self.view_is
    (some_passes (λ (platform : Platform). acts_for platform party) c.self.inside.config c.self.invariant.different found (c.copied.ensures ∙ c.get.ensures.value ∙ c.self.invariant.acts party))

pub returns-clause-none : goal.returns-clause-none
returns-clause-none c =
    let party : Party = c.args.party.now in
    let found : Option (List ℕ) = c.copied.result in
    subst (λ (config : Config). IfNone found ((name : List ℕ) → may_act_for config name party ≡ false)) c.self.view_is
    (none_passes (λ (platform : Platform). acts_for platform party) c.self.inside.config found (c.copied.ensures ∙ c.get.ensures.value ∙ c.self.invariant.acts party))
