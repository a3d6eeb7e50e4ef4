use Rattle.std.proofs.Common.{None, Some, sym}
use Rattle.period_order.proofs.DecidesLemmas.{post_decides}
use Rattle.period_order.proofs.decision.post.post.Goals as goal

pub returns-in-Some-clause-outcome : goal.returns-in-Some-clause-outcome
returns-in-Some-clause-outcome c =
    post_decides c.events_are_of_their_command.ensures c.args.config.now c.args.book.now c.args.account.now c.args.order.now c.args.checked c.into_cdr-cdr.result (Some c.in-Some.cost) c.post_cdr.result
    c.into_cdr-cdr.ensures (sym c.in-Some.ensures.value) c.post_cdr.ensures.outcome c.post_cdr.ensures.takes

pub returns-in-None-clause-outcome : goal.returns-in-None-clause-outcome
returns-in-None-clause-outcome c =
    post_decides c.events_are_of_their_command.ensures c.args.config.now c.args.book.now c.args.account.now c.args.order.now c.args.checked c.into_cdr-cdr.result None c.post_credit.result
    c.into_cdr-cdr.ensures (sym c.in-None.ensures.value) c.post_credit.ensures.outcome c.post_credit.ensures.takes
