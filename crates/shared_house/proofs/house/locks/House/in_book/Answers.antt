use Rattle.std.proofs.Common.{rules, ◌≡◌, arith, List, None, subst, sym, Some}
use Rattle.plain_house.specs.declared.entry.BookEntry.{BookEntry}
use Rattle.plain_house.specs.LegalEntries.{IsLegalBook}
use Rattle.shared_house.proofs.DecidedLemmas.{is_replied}
use Rattle.shared_house.proofs.HeldLemmas.{book_kept, replied}
use Rattle.shared_house.proofs.house.locks.House.in_book.Goals as goal

pub to_put-event-requires : goal.to_put-event-requires
to_put-event-requires g c = is_replied c.args.command c.in-Ok.decided.outcome c.in-Ok.ensures.placed.decides.collects c.requires.alone

pub invariant_of-held_book-2 : goal.invariant_of-held_book-2
invariant_of-held_book-2 g c =
    let same : c.reserve.new.self.entries ≡ c.held_book.inside.book.entries = search rules in
    book_kept c.house_laws.ensures g.N.BookEntries.Configured.config c.args.command c.requires.admitted c.in-Ok.decided c.reserve.new.self None c.in-Ok.ensures.placed
    c.held_book.inside.book.entries c.put_any_in_book.new.book.entries c.held_book.inside.shares c.decide-in_order.new.in_book same (search rules) c.held_book.invariant c.in-Ok.ensures.book

pub returns-clause-share : goal.returns-clause-share
returns-clause-share g c =
    let config = g.N.BookEntries.Configured.config in
    let book : c.reserve.new.self.entries ≡ c.held_book.inside.book.entries = search rules in
    let legal = subst (λ (l : List BookEntry). IsLegalBook config l) (sym book) c.held_book.invariant.legal in
    let others = (c.house_laws.ensures.empty config).in_account in
    let right = replied c.house_laws.ensures config c.args.command (Some c.reserve.new.self) None c.in-Ok.decided c.args.mine.now.amount c.in-Ok.ensures.placed c.in-Ok.ensures.at legal others c.requires.alone _ c.to_put-event.ensures.reply in
    omega (arith, c.in-Ok.ensures.mine, right.counted)

pub returns-clause-returns : goal.returns-clause-returns
returns-clause-returns g c =
    let config = g.N.BookEntries.Configured.config in
    let book : c.reserve.new.self.entries ≡ c.held_book.inside.book.entries = search rules in
    let legal = subst (λ (l : List BookEntry). IsLegalBook config l) (sym book) c.held_book.invariant.legal in
    let others = (c.house_laws.ensures.empty config).in_account in
    let right = replied c.house_laws.ensures config c.args.command (Some c.reserve.new.self) None c.in-Ok.decided c.args.mine.now.amount c.in-Ok.ensures.placed c.in-Ok.ensures.at legal others c.requires.alone _ c.to_put-event.ensures.reply in
    right.returns
