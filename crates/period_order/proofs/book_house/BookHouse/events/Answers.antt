use Rattle.std.proofs.Common.{ℕ, Err, ap, ◌∙◌, subst}
use Rattle.period_order.specs.Inner.Kept.{kept_events}
use Rattle.period_order.specs.Resolved.{entries_of_accounts, entries_of_books}
use Rattle.period_order.specs.Resolves.{FailsAt, Resolves}
use Rattle.period_order.proofs.ResolvedLemmas.{kept_resolves}
use Rattle.period_order.proofs.book_house.BookHouse.events.Goals as goal

pub unreachable-requires : goal.unreachable-requires
unreachable-requires c =
    let books = c.self.inside.books.items in
    let accounts = c.self.inside.accounts.items in
    let number : ℕ = c.in-Torn.entry in
    let fails : FailsAt (entries_of_books c.as_slice.result.now) (entries_of_accounts c.as_slice-2.result.now) c.entries.result.now number =
    c.resolve-named.ensures.torn number (c.in-Err.is ∙ ap Err c.in-Torn.is) in
    let resolves : Resolves (entries_of_books books) (entries_of_accounts accounts) c.self.inside.order.entries (kept_events books accounts c.self.inside.order) =
    kept_resolves c.orders_resolve.ensures _ _ _ _ _ c.self.invariant in
    c.resolving_is_whole.ensures (entries_of_books books) (entries_of_accounts accounts) c.self.inside.order.entries (kept_events books accounts c.self.inside.order) number resolves
    (subst (λ b. FailsAt (entries_of_books b) (entries_of_accounts accounts) c.self.inside.order.entries number) c.as_slice.ensures.value
    (subst (λ a. FailsAt (entries_of_books c.as_slice.result.now) (entries_of_accounts a) c.self.inside.order.entries number) c.as_slice-2.ensures.value
    (subst (λ o. FailsAt (entries_of_books c.as_slice.result.now) (entries_of_accounts c.as_slice-2.result.now) o number) c.entries.ensures fails)))
