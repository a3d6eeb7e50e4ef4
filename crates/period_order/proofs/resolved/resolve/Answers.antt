use Rattle.std.proofs.Common.{◌≡◌, ℕ, ◌+◌, List, [], ◌∷◌, ◌++◌, sym, ap, ◌∙◌, subst, append_assoc, take, drop, get_or, length}
use Rattle.std.proofs.lemmas.List.{take_more, take-append-drop}
use Rattle.plain_house.specs.declared.event.Event.{Event}
use Rattle.plain_house.specs.Entries.{period_after, period_of}
use Rattle.period_order.specs.declared.order_entry.OrderEntry.{OrderEntry}
use Rattle.period_order.specs.declared.order_entry.OrderEntry.TheVariants as entry
use Rattle.period_order.specs.Resolved.{entries_of_accounts, entries_of_books, period_behind}
use Rattle.period_order.specs.Resolves.{FailsAt, Names, Resolves}
use Rattle.period_order.specs.Inner.Named.{IsNamed}
use Rattle.period_order.proofs.EntriesLemmas.{period_push}
use Rattle.period_order.proofs.ResolvesLemmas.{behind_other, fails_next, named_is, resolves_push}
use Rattle.period_order.proofs.resolved.resolve.Goals as goal
use Rattle.period_order.proofs.resolved.resolve.Goals.{in-Close, in_default-entry}

none : OrderEntry
none = entry.InBook record { party = 0; entry = 0 }

pub returns-in_default-clause-torn : goal.returns-in_default-clause-torn
unfolding none
returns-in_default-clause-torn c = λ number torn.
    let books = entries_of_books c.args.books.now in
    let accounts = entries_of_accounts c.args.accounts.now in
    let order = c.args.order.now in
    let index : ℕ = c.loop-entry.entry-index in
    let events : List Event = c.loop-entry.events.items in
    let kept : OrderEntry = get_or order index none in
    let unnamed : (e : Event) → Names books accounts c.loop-entry.period kept e → ⊥ =
    subst (IsNamed books accounts c.loop-entry.period kept) c.in_default.is c.in_ok-event.ensures in
    let nameless : (e : Event) → Names books accounts (period_of events) kept e → ⊥ =
    subst (λ n. (e : Event) → Names books accounts n kept e → ⊥) c.loop-entry.invariant.1 unnamed in
    let fails = fails_next books accounts (take index order) kept (drop (index + 1) order) events c.loop-entry.invariant.0 nameless in
    let split : take index order ++ kept ∷ drop (index + 1) order ≡ order =
    sym (append_assoc (take index order) (kept ∷ []) (drop (index + 1) order))
    ∙ ap (λ l. l ++ drop (index + 1) order) (sym (take_more order index none c.loop-entry-test.true))
    ∙ take-append-drop (index + 1) order in
    let same : c.len.result ≡ number = cc in
    let at : length events ≡ number = sym c.loop-entry.events.ok.0 ∙ sym c.len.ensures ∙ same in
    subst (FailsAt books accounts order) at (subst (λ l. FailsAt books accounts l (length events)) split fails)

pub loop-entry-preserved : goal.loop-entry-preserved
unfolding none
loop-entry-preserved c =
    let books = entries_of_books c.args.books.now in
    let accounts = entries_of_accounts c.args.accounts.now in
    let index : ℕ = c.loop-entry.entry-index in
    let period : ℕ = c.loop-entry.period in
    let events : List Event = c.loop-entry.events.items in
    let kept : OrderEntry = get_or c.args.order.now index none in
    let e : Event = c.in-Some.event in
    let named : Names books accounts period kept e = subst (IsNamed books accounts period kept) c.in-Some.is c.in_ok-event.ensures in
    let names : Names books accounts (period_of events) kept e = subst (λ n. Names books accounts n kept e) c.loop-entry.invariant.1 named in
    let next : c.match-entry.period ≡ period_behind period kept =
    elim c.match-entry.branch [ in-Close w ↦ w.period-is ∙ ap (period_behind period) (sym w.in-Close.is) | in_default-entry w ↦ w.period-is ∙ sym (behind_other period kept w.in_default-entry.not-Close) ] in
    let more : c.push.new.self.items ≡ events ++ e ∷ [] = c.in_ok-push.ensures.items in
    let current : c.match-entry.period ≡ period_of (events ++ e ∷ []) =
    next ∙ (named_is books accounts period kept e named).1 ∙ ap (λ n. period_after n e) c.loop-entry.invariant.1 ∙ sym (period_push events e) in
    let resolves : Resolves books accounts (take (index + 1) c.args.order.now) (events ++ e ∷ []) =
    subst (λ l. Resolves books accounts l (events ++ e ∷ [])) (sym (take_more c.args.order.now index none c.loop-entry-test.true))
    (resolves_push books accounts (take index c.args.order.now) events kept e c.loop-entry.invariant.0 names) in (
      subst (Resolves books accounts (take (index + 1) c.args.order.now)) (sym more) resolves,
      current ∙ ap period_of (sym more),
    )
