use Rattle.std.proofs.Common.{subst, sym}
use Rattle.plain_house.specs.declared.event.Event.{Event}
use Rattle.period_order.specs.Decided.{AccountTakes}
use Rattle.period_order.specs.Inner.Gives.{AccountGives}
use Rattle.period_order.proofs.entry_books.takes.is_taken_by_account.Goals as goal

pub returns-in-Authorised-clause-takes : goal.returns-in-Authorised-clause-takes
returns-in-Authorised-clause-takes c = λ yes.
    subst (λ (e : Event). AccountTakes c.args.account.now.entries c.args.period e) (sym c.in-Authorised.is) (c.is_next_hold.ensures.takes yes c.args.period)

pub returns-in-Authorised-clause-given : goal.returns-in-Authorised-clause-given
returns-in-Authorised-clause-given c = λ gives.
    c.is_next_hold.ensures.given c.args.period
    (subst (λ (e : Event). AccountGives c.args.config.now c.args.account.now.entries c.args.period e) c.in-Authorised.is gives)
