use Rattle.std.proofs.Common.{rules, ◌≡◌, arith, List, None, subst, sym, Some}
use Rattle.plain_house.specs.declared.entry.AccountEntry.{AccountEntry}
use Rattle.plain_house.specs.LegalEntries.{IsLegalAccount}
use Rattle.shared_house.proofs.DecidedLemmas.{is_replied}
use Rattle.shared_house.proofs.HeldLemmas.{account_kept, replied}
use Rattle.shared_house.proofs.house.locks.House.in_account.Goals as goal

pub to_put-event-requires : goal.to_put-event-requires
to_put-event-requires g c = is_replied c.args.command c.in-Ok.decided.outcome c.in-Ok.ensures.placed.decides.collects c.requires.alone

pub invariant_of-held_account-2 : goal.invariant_of-held_account-2
invariant_of-held_account-2 g c =
    let same : c.reserve.new.self.entries ≡ c.held_account.inside.account.entries = search rules in
    account_kept c.house_laws.ensures g.N.BookEntries.Configured.config c.args.command c.requires.admitted c.in-Ok.decided None c.reserve.new.self c.in-Ok.ensures.placed
    c.held_account.inside.account.entries c.put_any_in_account.new.account.entries c.held_account.inside.shares c.decide-in_order.new.in_account same (search rules) c.held_account.invariant c.in-Ok.ensures.account

pub returns-clause-share : goal.returns-clause-share
returns-clause-share g c =
    let config = g.N.BookEntries.Configured.config in
    let legal = (c.house_laws.ensures.empty config).in_book in
    let account : c.reserve.new.self.entries ≡ c.held_account.inside.account.entries = search rules in
    let others = subst (λ (l : List AccountEntry). IsLegalAccount config l) (sym account) c.held_account.invariant.legal in
    let right = replied c.house_laws.ensures config c.args.command None (Some c.reserve.new.self) c.in-Ok.decided c.args.mine.now.amount c.in-Ok.ensures.placed c.in-Ok.ensures.at legal others c.requires.alone _ c.to_put-event.ensures.reply in
    omega (arith, c.in-Ok.ensures.mine, right.counted)

pub returns-clause-returns : goal.returns-clause-returns
returns-clause-returns g c =
    let config = g.N.BookEntries.Configured.config in
    let legal = (c.house_laws.ensures.empty config).in_book in
    let account : c.reserve.new.self.entries ≡ c.held_account.inside.account.entries = search rules in
    let others = subst (λ (l : List AccountEntry). IsLegalAccount config l) (sym account) c.held_account.invariant.legal in
    let right = replied c.house_laws.ensures config c.args.command None (Some c.reserve.new.self) c.in-Ok.decided c.args.mine.now.amount c.in-Ok.ensures.placed c.in-Ok.ensures.at legal others c.requires.alone _ c.to_put-event.ensures.reply in
    right.returns
