use Rattle.std.proofs.Common.{◌≡◌, ◌∙◌, ap, sym, true, false, List, None, Err, subst, rules}
use Rattle.std.specs.Prelude.{option_map}
use Rattle.ocpi_types.specs.declared.cdr.Cdr.{Cdr}
use Rattle.plain_house.specs.declared.event.Event.{Event}
use Rattle.plain_house.specs.Booked.{booked_as, shown_booked}
use Rattle.plain_house.specs.Entries.{book_entries}
use Rattle.plain_house.specs.Known.{known}
use Rattle.plain_house.specs.Replies.{Follows}
use Rattle.plain_house.specs.Tariffs.{lacks_registered}
use Rattle.plain_house.specs.Verdict.{Verdict}
use Rattle.plain_house.proofs.PostedLemmas.{cdr_left, cdr_unregistered}
use Rattle.plain_house.proofs.house.post.post_cdr.Goals as goal

pub returns : goal.returns
returns c =
    let events = c.args.events.now.items in
    let cdr = c.args.cdr in
    let unknown : booked_as cdr.operator cdr.id (book_entries events) ≡ None =
    ap (λ (l : List Event). booked_as cdr.operator cdr.id (book_entries l)) (sym c.as_slice.ensures.value)
    ∙ ap (λ (l : Cdr). booked_as l.operator cdr.id (book_entries c.as_slice.result.now)) (sym c.deref.ensures)
    ∙ ap (λ (l : Cdr). booked_as c.deref.result.now.operator l.id (book_entries c.as_slice.result.now)) (sym c.deref-2.ensures)
    ∙ (sym c.booked_as.ensures ∙ ap (option_map shown_booked) c.in_default.is) in
    let registered : lacks_registered cdr (book_entries events) ≡ false =
    ap (λ (l : List Event). lacks_registered cdr (book_entries l)) (sym c.as_slice-2.ensures.value)
    ∙ ap (λ (l : Cdr). lacks_registered l (book_entries c.as_slice-2.result.now)) (sym c.deref-3.ensures) ∙ (sym c.lacks_registered.ensures ∙ c.if-lacks_registered.false) in
    subst (λ (verdict : Verdict). Follows verdict events c.book_cdr.result c.book_cdr.new.events.items)
    (cdr_left c.args.config.now (known events) cdr unknown c.args.cost registered) c.book_cdr.ensures

pub returns-then-lacks_registered : goal.returns-then-lacks_registered
returns-then-lacks_registered c =
    let events = c.args.events.now.items in
    let cdr = c.args.cdr in
    let unknown : booked_as cdr.operator cdr.id (book_entries events) ≡ None =
    ap (λ (l : List Event). booked_as cdr.operator cdr.id (book_entries l)) (sym c.as_slice.ensures.value)
    ∙ ap (λ (l : Cdr). booked_as l.operator cdr.id (book_entries c.as_slice.result.now)) (sym c.deref.ensures)
    ∙ ap (λ (l : Cdr). booked_as c.deref.result.now.operator l.id (book_entries c.as_slice.result.now)) (sym c.deref-2.ensures)
    ∙ (sym c.booked_as.ensures ∙ ap (option_map shown_booked) c.in_default.is) in
    let unregistered : lacks_registered cdr (book_entries events) ≡ true =
    ap (λ (l : List Event). lacks_registered cdr (book_entries l)) (sym c.as_slice-2.ensures.value)
    ∙ ap (λ (l : Cdr). lacks_registered l (book_entries c.as_slice-2.result.now)) (sym c.deref-3.ensures) ∙ (sym c.lacks_registered.ensures ∙ c.if-lacks_registered.true) in
    subst (λ (verdict : Verdict). Follows verdict events (Err c.refused.result) events)
    (cdr_unregistered c.args.config.now (known events) cdr unknown c.args.cost unregistered) (search rules)
