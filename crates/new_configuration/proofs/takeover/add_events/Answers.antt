use Rattle.std.proofs.Common.{◌≡◌, ◌+◌, ℕ, List, [], ◌∷◌, ◌++◌, ap, sym, subst, ◌∙◌, take}
use Rattle.ocpi_types.specs.declared.config.Config.{Config}
use Rattle.plain_house.specs.declared.event.Event.{Event}
use Rattle.plain_house.specs.Legal.{IsGiven, IsLegal}
use Rattle.new_configuration.specs.Inner.Added.{IsAdded}
use Rattle.new_configuration.specs.Inner.ValidTokens.{HaveValid}
use Rattle.new_configuration.proofs.EventLemmas.{first_at, legal_more, take_item}
use Rattle.new_configuration.proofs.takeover.add_events.Goals as goal

pub returns-then-not-branch-clause-otherwise : goal.returns-then-not-branch-clause-otherwise
returns-then-not-branch-clause-otherwise c = λ number is.
    let config : Config = c.args.platforms.now in
    let events : List Event = c.args.events.now in
    let e : Event = c.index-events-number.result in
    let here : c.loop-number.number ≡ number = cc in
    let otherwise : IsGiven config c.loop-number.house.events e → ⊥ = c.in_ok-adds_again.ensures.otherwise c.if-not-branch.true in
    first_at config events c.loop-number.number number e here c.loop-number-test.true c.index-events-number.is c.loop-number.invariant.legal
    (λ given. otherwise (subst (λ (l : List Event). IsGiven config l e) (sym c.loop-number.invariant.events) given))

pub loop-number-preserved : goal.loop-number-preserved
loop-number-preserved c =
    let config : Config = c.args.platforms.now in
    let events : List Event = c.args.events.now in
    let n : ℕ = c.loop-number.number in
    let e : Event = c.index-events-number.result in
    let step : take n events ++ e ∷ [] ≡ take (n + 1) events = take_item events n e c.loop-number-test.true c.index-events-number.is in
    let added : IsAdded config c.loop-number.house.events e c.adds_again.new.house.events = c.in_ok-adds_again.ensures.added c.if-not-branch.false in
    let given : IsGiven config (take n events) e = subst (λ (l : List Event). IsGiven config l e) c.loop-number.invariant.events added.given in
    let tokens : HaveValid (take n events) c.adds_again.new.valid =
    subst (λ (l : List Event). HaveValid l c.adds_again.new.valid) c.loop-number.invariant.events (c.in_ok-adds_again.ensures.tokens c.if-not-branch.false) in
    record {
      config = c.adds_again.ensures.config;
      events = added.now_is ∙ ap (λ (l : List Event). l ++ e ∷ []) c.loop-number.invariant.events ∙ step;
      legal = subst (IsLegal config) step (legal_more c.commands_keep_lists_legal.ensures config (take n events) e c.loop-number.invariant.legal given);
      tokens = subst (λ (l : List Event). HaveValid l c.add.new.self) step (c.in_ok-add.ensures (take n events) tokens);
    }
