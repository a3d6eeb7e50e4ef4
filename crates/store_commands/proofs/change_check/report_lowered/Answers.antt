use Rattle.std.proofs.Common.{inl, inr, subst}
use Rattle.std.proofs.lemmas.Result.{IfOk-weaker}
use Rattle.ocpi_types.specs.declared.config.Config.{Config}
use Rattle.plain_house.specs.Legal.{IsLegal}
use Rattle.new_configuration.specs.Loosened.{loosened}
use Rattle.new_configuration.specs.TakenOver.{IsFirstOtherwise}
use Rattle.line_streams.proofs.StreamLemmas.{event_at, within}
use Rattle.store_commands.proofs.change_check.report_lowered.Goals as goal

pub past-requires : goal.past-requires
past-requires c = within _ _ c.args.outside c.requires

pub returns-in-Ok : goal.returns-in-Ok
returns-in-Ok c =
    let legal = subst (λ (g : Config). IsLegal g c.args.events.now) c.in_ok-loosened.ensures c.in-Ok.ensures.legal in
    IfOk-weaker c.past.result _ _ (λ report told. inr (inl (c.args.outside, c.requires, legal, told.0, told.1))) (c.past.ensures c.requires.event (event_at _ _ c.args.outside c.requires))

pub forbidden-requires : goal.forbidden-requires
forbidden-requires c =
    let number = c.in-Err-Otherwise.event in
    within _ _ number (c.in-Err-Otherwise.ensures.otherwise number c.in-Err-Otherwise.field-0-is)

pub returns-in-Err-Otherwise : goal.returns-in-Err-Otherwise
returns-in-Err-Otherwise c =
    let number = c.in-Err-Otherwise.event in
    let first = subst (λ (g : Config). IsFirstOtherwise g c.args.events.now number) c.in_ok-loosened.ensures (c.in-Err-Otherwise.ensures.otherwise number c.in-Err-Otherwise.field-0-is) in
    IfOk-weaker c.forbidden.result _ _ (λ report told. inr (inr (number, first, told.0, told.1))) (c.forbidden.ensures first.event (event_at _ _ number first))
