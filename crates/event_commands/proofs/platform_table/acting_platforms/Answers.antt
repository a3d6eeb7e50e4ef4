use Rattle.std.proofs.Common.{◌∙◌, ℕ, Bool, List, Option, ap, sym, take}
use Rattle.ocpi_types.specs.declared.config.Platform.{Platform}
use Rattle.ocpi_types.specs.Config.{acts_for}
use Rattle.event_commands.specs.Inner.PlatformTable.{first_name}
use Rattle.event_commands.proofs.TableLemmas.{first_more, named, take_item}
use Rattle.event_commands.proofs.platform_table.acting_platforms.Goals as goal

pub loop-platform-preserved : goal.loop-platform-preserved
loop-platform-preserved c asked =
    let platforms : List Platform = c.args.platforms.now in
    let platform : Platform = c.platform-item.result in
    let test : Platform → Bool = λ platform. acts_for platform asked in
    let before : List Platform = take c.loop-platform.platform-index platforms in
    c.in_ok-add_parties.ensures asked ∙ ap (λ (o : Option (List ℕ)). named o (test platform) platform.name) (c.loop-platform.invariant asked)
    ∙ sym (first_more test before platform)
    ∙ ap (first_name test) (take_item platforms c.loop-platform.platform-index platform c.loop-platform-test.true c.platform-item.is)
