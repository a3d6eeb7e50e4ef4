use Rattle.std.proofs.Common.{arith, ap, sym, subst, ◌∙◌, ◌≡◌, Option, is_some}
use Rattle.std.specs.Option.{option_copied}
use Rattle.ocpi_types.specs.declared.config.Config.{Config}
use Rattle.period_order.specs.Decided.{Decides, order_with}
use Rattle.period_order.specs.Order.{PlainOrder, current_of, point_of}
use Rattle.shared_house.specs.Inner.Outcomes.{with_room}
use Rattle.shared_house.specs.Locked.{PlainShares}
use Rattle.shared_house.specs.declared.ledgers.tally.Tally.{Tally}
use Rattle.shared_house.proofs.CountLemmas.{ordered}
use Rattle.shared_house.proofs.DecidedLemmas.{adds_no_account, adds_no_book}
use Rattle.shared_house.proofs.locked.order.LockedOrder.decide.Goals as goal

pub count-requires : goal.count-requires
count-requires g c = record {
  nothing = λ h.
      let none = adds_no_book c.house_laws.ensures c.args.config.now _ _ c.reserve.new.self c.args.command c.decide-decided.result.outcome c.decide-decided.ensures.outcome
      (sym c.requires.operator ∙ sym c.requires.in_book ∙ ap (λ (o : Option PlainShares). is_some o) h) in
      (ap (λ (t : Tally). t.books) c.tally_of-added.ensures.value ∙ none.0, ap (λ (t : Tally). t.amount) c.tally_of-added.ensures.value ∙ none.1);
}

pub count-requires-2 : goal.count-requires-2
count-requires-2 g c = record {
  nothing = λ h.
      let none = adds_no_account c.house_laws.ensures c.args.config.now _ _ c.reserve.new.self c.args.command c.decide-decided.result.outcome c.decide-decided.ensures.outcome
      (sym c.requires.provider ∙ sym c.requires.in_account ∙ ap (λ (o : Option PlainShares). is_some o) h) in
      (ap (λ (t : Tally). t.accounts) c.tally_of-added.ensures.value ∙ none.0, ap (λ (t : Tally). t.amount) c.tally_of-added.ensures.value ∙ none.1);
}

pub invariant_of-self-2 : goal.invariant_of-self-2
invariant_of-self-2 g c =
    let old = c.args.self.now in
    let outcome = c.decide-decided.result.outcome in
    let x = ordered c.args.config.now (option_copied c.args.book) (option_copied c.args.account) old.order c.decide-decided.new.order outcome
    (subst (λ (o : PlainOrder). c.decide-decided.new.order ≡ order_with c.args.config.now (option_copied c.args.book) (option_copied c.args.account) o outcome) c.in_ok-reserve.ensures.ok c.decide-decided.ensures.order) in
    let t = c.tally_of-added.ensures.value in
    let books = ap (λ (t : Tally). t.books) t in
    let accounts = ap (λ (t : Tally). t.accounts) t in
    let events = ap (λ (t : Tally). t.events) t in
    record {
      books_counted = omega (arith, c.count.ensures.entries, x.books, old.books_counted, books);
      accounts_counted = omega (arith, c.count-2.ensures.entries, x.accounts, old.accounts_counted, accounts);
      events_counted = omega (arith, c.add.ensures.total, c.audit.ensures.total, x.events, old.events_counted, events);
      one_amount = omega (arith, c.count.ensures.amounts, c.count-2.ensures.amounts, old.one_amount);
      bounded = omega (arith, c.count.ensures.amounts, old.bounded, x.events, events, c.tally_of-added.ensures.bounded);
    }

pub returns-clause-placed : goal.returns-clause-placed
returns-clause-placed g c = record {
  order = c.args.self.now.order;
  point_is = c.decide-decided.ensures.point ∙ ap point_of c.in_ok-reserve.ensures.ok;
  period_is = c.decide-decided.ensures.period ∙ ap current_of c.in_ok-reserve.ensures.ok;
  decides = subst (λ (config : Config). Decides config (option_copied c.args.book) (option_copied c.args.account) (with_room c.args.self.now.order) c.args.command c.decide-decided.result.outcome) c.requires.config
      (subst (λ (o : PlainOrder). Decides c.args.config.now (option_copied c.args.book) (option_copied c.args.account) o c.args.command c.decide-decided.result.outcome) c.in_ok-reserve.ensures.ok c.decide-decided.ensures.outcome);
}
