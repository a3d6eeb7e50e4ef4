use Rattle.std.proofs.Common.{◌≡◌, ◌-◌, sym, ap, ◌∙◌, Some, count_by, length, slice_get}
use Rattle.plain_house.specs.Entries.{period_of}
use Rattle.period_order.specs.Order.{is_close_entry}
use Rattle.period_order.specs.Resolved.{entries_of_accounts, entries_of_books}
use Rattle.period_order.specs.Resolves.{Resolves}
use Rattle.period_order.proofs.ResolvedLemmas.{kept_resolves}
use Rattle.period_order.proofs.ResolvesLemmas.{BehindLast, behind_last, last_is}
use Rattle.period_order.proofs.last.is_last.Goals as goal

pub returns : goal.returns
returns c = λ config events keeps.
    let books = entries_of_books c.args.books.now in
    let accounts = entries_of_accounts c.args.accounts.now in
    let order = c.args.order.now.entries in
    let kept = c.in-Some.entry.now in
    let period = c.period_before-period.result in
    let resolves : Resolves books accounts order events = kept_resolves c.orders_resolve.ensures config books accounts order events keeps in
    let current : count_by is_close_entry order ≡ period_of events =
    ap (count_by is_close_entry) keeps.order_is ∙ (c.orders_are_counted.ensures config events).closes in
    let at : slice_get order (length order - 1) ≡ Some kept = ap (λ l. slice_get l (length l - 1)) (sym c.entries.ensures) ∙ sym c.in-Some.ensures.value in
    let which : BehindLast kept (count_by is_close_entry order) period =
    behind_last kept (count_by is_close_entry order) period c.period_before-period.ensures.closed c.period_before-period.ensures.other in
    let last = last_is books accounts order events kept (count_by is_close_entry order) period c.args.event.now resolves at current which in
    (λ yes. last.0 (c.names.ensures.0 yes), λ there. c.names.ensures.1 (last.1 there))
