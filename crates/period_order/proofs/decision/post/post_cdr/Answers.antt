use Rattle.std.proofs.Common.{◌∙◌, ap, sym}
use Rattle.ocpi_types.specs.declared.cdr.Cdr.{Cdr}
use Rattle.plain_house.specs.Posting.{judged_cdr}
use Rattle.period_order.specs.Decided.{replied_by, seen}
use Rattle.period_order.proofs.PostLemmas.{cdr_replied}
use Rattle.period_order.proofs.decision.post.post_cdr.Goals as goal

pub returns-in-Some-clause-outcome : goal.returns-in-Some-clause-outcome
returns-in-Some-clause-outcome c =
    let known = seen c.args.book.now.entries c.args.account.now.entries c.args.order.now in
    let judged = ap (λ (cdr : Cdr). judged_cdr cdr known.book) (sym c.deref.ensures) ∙ (sym c.judge_cdr.ensures ∙ c.in-Some.is) in
    c.replied.ensures ∙ ap replied_by (sym (cdr_replied c.args.config.now known c.args.cdr c.args.cost c.in-Some.reply judged))
