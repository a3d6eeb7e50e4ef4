use Rattle.std.proofs.Common.{◌≡◌, [], ap, sym, subst}
use Rattle.period_order.specs.Kept.{Keeps}
use Rattle.period_order.specs.Inner.Kept.{kept_events}
use Rattle.period_order.specs.Order.{PlainOrder}
use Rattle.period_order.specs.Resolved.{entries_of_accounts, entries_of_books, resolved}
use Rattle.period_order.proofs.book_house.BookHouse.new.Goals as goal

pub invariant_of-result : goal.invariant_of-result
invariant_of-result c =
    let config = c.args.config in
    let books = entries_of_books c.in_ok-books.books.items in
    let accounts = entries_of_accounts c.in_ok-accounts.accounts.items in
    let empty : c.new.result.entries ≡ [] = ap (λ (o : PlainOrder). o.entries) c.new.ensures in
    let none : kept_events c.in_ok-books.books.items c.in_ok-accounts.accounts.items c.new.result ≡ [] = ap (resolved books accounts) empty in
    subst (Keeps config books accounts c.new.result.entries) (sym none)
    (record { legal = c.empty_lists_are_legal.ensures config; books_are = c.in_ok-books.ensures; accounts_are = c.in_ok-accounts.ensures; order_is = empty })
