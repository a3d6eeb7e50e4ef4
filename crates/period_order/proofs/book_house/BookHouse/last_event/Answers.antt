use Rattle.std.proofs.Common.{◌≡◌, ◌-◌, IfOk, List, sym, ap, ◌∙◌, subst, Some, Result, Ok, Err, count_by, length, slice_get}
use Rattle.plain_house.specs.declared.event.Event.{Event}
use Rattle.plain_house.specs.Entries.{period_of}
use Rattle.plain_house.specs.State.{State}
use Rattle.period_order.specs.declared.order_entry.OrderEntry.{OrderEntry}
use Rattle.period_order.specs.Inner.Kept.{kept_events}
use Rattle.period_order.specs.Inner.Named.{IsNamed}
use Rattle.period_order.specs.Order.{is_close_entry}
use Rattle.period_order.specs.Resolved.{entries_of_accounts, entries_of_books}
use Rattle.period_order.specs.Resolves.{Resolves}
use Rattle.period_order.proofs.ResolvedLemmas.{kept_resolves}
use Rattle.period_order.proofs.ResolvesLemmas.{BehindLast, behind_last, last_found}
use Rattle.period_order.proofs.book_house.BookHouse.last_event.Goals as goal

if_ok : {X E : Type 0} (result : Result X E) (P Q : X → Type 0) → ((x : X) → P x → Q x) → IfOk result P → IfOk result Q
if_ok (Ok x) P Q step is = step x is
if_ok (Err e) P Q step is = tt

pub returns : goal.returns
returns c =
    let books = entries_of_books c.self.inside.books.items in
    let accounts = entries_of_accounts c.self.inside.accounts.items in
    let order = c.self.inside.order.entries in
    let events : List Event = kept_events c.self.inside.books.items c.self.inside.accounts.items c.self.inside.order in
    let kept : OrderEntry = c.in-Some.entry.now in
    let period = c.period_before-period.result in
    let resolves : Resolves books accounts order events = kept_resolves c.orders_resolve.ensures _ _ _ _ _ c.self.invariant in
    let current : count_by is_close_entry order ≡ period_of events =
    ap (count_by is_close_entry) c.self.invariant.order_is ∙ (c.orders_are_counted.ensures c.self.inside.config events).closes in
    let at : slice_get order (length order - 1) ≡ Some kept = ap (λ (l : List OrderEntry). slice_get l (length l - 1)) (sym c.entries.ensures) ∙ sym c.in-Some.ensures.value in
    let which : BehindLast kept (count_by is_close_entry order) period = behind_last kept (count_by is_close_entry order) period c.period_before-period.ensures.closed c.period_before-period.ensures.other in
    let named : IfOk c.named.result (IsNamed books accounts period kept) =
    subst (λ b. IfOk c.named.result (IsNamed (entries_of_books b) accounts period kept)) c.as_slice-books.ensures.value
    (subst (λ a. IfOk c.named.result (IsNamed (entries_of_books c.as_slice-books.result.now) (entries_of_accounts a) period kept)) c.as_slice-accounts.ensures.value c.named.ensures) in
    subst (λ (house : State). IfOk c.named.result (λ last. last ≡ slice_get house.events (length house.events - 1))) c.self.view_is
    (if_ok c.named.result (IsNamed books accounts period kept) (λ last. last ≡ slice_get events (length events - 1))
    (λ found is. last_found books accounts order events kept (count_by is_close_entry order) period found resolves at current which is) named)
