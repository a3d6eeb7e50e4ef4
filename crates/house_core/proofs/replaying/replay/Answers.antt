use Rattle.std.proofs.Common.{◌≡◌, ◌++◌, ◌∙◌, sym, ap, subst, List, [], append-nil}
use Rattle.cdr_checks.specs.declared.request.Command.{Command}
use Rattle.plain_house.specs.declared.event.Event.{Event}
use Rattle.period_order.specs.Kept.{AreDistinct}
use Rattle.house_core.specs.declared.finished.Finished.{Finished}
use Rattle.house_core.specs.declared.step.Step.{Step}
use Rattle.house_core.specs.Events.{events_of}
use Rattle.house_core.specs.OneHouse.{KeepsRules, OneHouse, after, finished}
use Rattle.house_core.specs.Start.{start}
use Rattle.house_core.specs.World.{PlainWorld}
use Rattle.house_core.proofs.SoundLemmas.{each_admitted, nothing_left}
use Rattle.house_core.proofs.replaying.replay.Goals as goal

pub returns-clause-one_house : goal.returns-clause-one_house
returns-clause-one_house c =
    let config = c.args.config.now in
    let commands : List Command = c.args.commands.items in
    let steps : List Step = c.args.steps.now in
    let world : PlainWorld = c.loop-step.world in
    let trace = c.loop-step.trace in
    let empty : c.loop-step.rest.now ≡ [] = nothing_left c.loop-step.rest.now c.in_default.ensures.cases in
    let ended : trace.finished.items ≡ finished (start config commands) steps =
    sym (append-nil trace.finished.items) ∙ ap (λ (r : List Step). trace.finished.items ++ finished world r) (sym empty) ∙ c.loop-step.invariant.finished in
    let last : world ≡ after (start config commands) steps = ap (after world) (sym empty) ∙ c.loop-step.invariant.world in
    let events : trace.events.items ≡ events_of (after (start config commands) steps) = c.loop-step.invariant.events ∙ ap events_of last in
    subst (λ (l : List Finished). OneHouse config commands steps l trace.events.items) (sym ended)
    (subst (λ (l : List Event). OneHouse config commands steps (finished (start config commands) steps) l) (sym events)
    (c.commands_are_one_house.ensures config commands steps (record {
      distinct = record { operators = c.has_distinct_parts.ensures.operators; providers = c.has_distinct_parts.ensures.providers };
      currencies = c.has_distinct_parts.ensures.currencies;
      operators = c.is_bounded.ensures.operators;
      cdrs = c.is_bounded.ensures.cdrs;
    }) (each_admitted config commands c.requires.admitted)))

pub returns-clause-rules : goal.returns-clause-rules
returns-clause-rules c =
    let config = c.args.config.now in
    let commands : List Command = c.args.commands.items in
    let steps : List Step = c.args.steps.now in
    let world : PlainWorld = c.loop-step.world in
    let empty : c.loop-step.rest.now ≡ [] = nothing_left c.loop-step.rest.now c.in_default.ensures.cases in
    let last : world ≡ after (start config commands) steps = ap (after world) (sym empty) ∙ c.loop-step.invariant.world in
    let events : c.loop-step.trace.events.items ≡ events_of (after (start config commands) steps) = c.loop-step.invariant.events ∙ ap events_of last in
    let distinct : AreDistinct config = record { operators = c.has_distinct_parts.ensures.operators; providers = c.has_distinct_parts.ensures.providers } in
    let one = c.commands_are_one_house.ensures config commands steps (record {
      distinct = distinct;
      currencies = c.has_distinct_parts.ensures.currencies;
      operators = c.is_bounded.ensures.operators;
      cdrs = c.is_bounded.ensures.cdrs;
    }) (each_admitted config commands c.requires.admitted) in
    subst (λ (l : List Event). KeepsRules config l) (sym events)
    (c.legal_lists_keep_rules.ensures config (events_of (after (start config commands) steps)) distinct one.answered.legal)
