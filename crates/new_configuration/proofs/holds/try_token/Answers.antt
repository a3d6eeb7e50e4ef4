use Rattle.new_configuration.proofs.AttemptLemmas.{none_admitted, some_admitted}
use Rattle.new_configuration.proofs.holds.try_token.Goals as goal

pub returns-in_ok-attempt-in-Some-clause-ends : goal.returns-in_ok-attempt-in-Some-clause-ends
returns-in_ok-attempt-in-Some-clause-ends c =
    some_admitted c.args.platforms.now c.args.house.now.events c.args.hold.now c.args.token.now.uid c.args.token.now.kind c.args.house.now.config c.requires c.hold_ask.result c.hold_ask.ensures
    c.in-Some.command c.in-Some.ensures.some c.in-Some.ensures.admitted _ _ c.in_ok-attempt-in-Some.ensures.ends

pub returns-in-None-clause-ends : goal.returns-in-None-clause-ends
returns-in-None-clause-ends c =
    none_admitted c.args.platforms.now c.args.house.now.events c.args.hold.now c.args.token.now.uid c.args.token.now.kind c.hold_ask.result c.hold_ask.ensures c.in-None.ensures.none
