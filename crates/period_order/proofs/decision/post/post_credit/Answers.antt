use Rattle.std.proofs.Common.{◌∙◌, ap, sym}
use Rattle.period_order.specs.Decided.{replied_by, seen}
use Rattle.period_order.proofs.PostLemmas.{credit_left, credit_replied}
use Rattle.period_order.proofs.decision.post.post_credit.Goals as goal

pub returns-in-Ok-clause-outcome : goal.returns-in-Ok-clause-outcome
returns-in-Ok-clause-outcome c =
    let known = seen c.args.book.now.entries c.args.account.now.entries c.args.order.now in
    let judged = rw (c.current.ensures, c.deref.ensures) at c.judge_credit.ensures in
    c.take_credit.ensures.outcome ∙ ap replied_by (sym (credit_left c.args.config.now known c.args.credit c.in-Ok.amount (sym judged ∙ c.in-Ok.is)))

pub returns-in-Err-clause-outcome : goal.returns-in-Err-clause-outcome
returns-in-Err-clause-outcome c =
    let known = seen c.args.book.now.entries c.args.account.now.entries c.args.order.now in
    let judged = rw (c.current.ensures, c.deref.ensures) at c.judge_credit.ensures in
    c.replied.ensures ∙ ap replied_by (sym (credit_replied c.args.config.now known c.args.credit c.in-Err.reply (sym judged ∙ c.in-Err.is)))
