use Rattle.std.proofs.Common.{subst}
use Rattle.ocpi_types.specs.declared.config.Config.{Config}
use Rattle.new_configuration.specs.TakenOver.{IsFirstOtherwise}
use Rattle.store_commands.proofs.change_check.report_of.Goals as goal

pub report_lowered-requires : goal.report_lowered-requires
report_lowered-requires c =
    let number = c.in-Err-Otherwise.event in
    subst (λ (g : Config). IsFirstOtherwise g c.args.events.now number) c.in_ok-copy.ensures (c.in-Err-Otherwise.ensures.otherwise number c.in-Err-Otherwise.field-0-is)
