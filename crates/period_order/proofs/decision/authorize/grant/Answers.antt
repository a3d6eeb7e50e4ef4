use Rattle.std.proofs.Common.{Some, sym, subst}
use Rattle.period_order.specs.declared.decided.Outcome.{Outcome}
use Rattle.period_order.specs.Decided.{AccountTakesAny, event_of}
use Rattle.period_order.specs.Order.{current_of}
use Rattle.period_order.proofs.decision.authorize.grant.Goals as goal

pub returns-clause-takes : goal.returns-clause-takes
returns-clause-takes c =
    let order = c.args.order.now in
    subst (λ (outcome : Outcome). AccountTakesAny (Some c.args.account.now) (current_of order) (event_of outcome)) (sym c.accepted.ensures)
    (c.hold_within-hold.ensures.takes (current_of order))
