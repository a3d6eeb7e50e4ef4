use Rattle.std.proofs.Common.{◌≡◌, ◌∙◌, ap, sym, List, None, subst}
use Rattle.std.specs.Prelude.{option_map}
use Rattle.ocpi_types.specs.declared.cdr.Cdr.{Cdr}
use Rattle.plain_house.specs.declared.event.Event.{Event}
use Rattle.plain_house.specs.Booked.{booked_as, shown_booked}
use Rattle.plain_house.specs.Entries.{book_entries}
use Rattle.plain_house.specs.Known.{known}
use Rattle.plain_house.specs.Replies.{Follows}
use Rattle.plain_house.specs.Verdict.{Verdict}
use Rattle.plain_house.proofs.PostedLemmas.{credit_left}
use Rattle.plain_house.proofs.house.post.post_credit.Goals as goal

pub returns : goal.returns
returns c =
    let events = c.args.events.now.items in
    let credit = c.args.credit in
    let unknown : booked_as credit.operator credit.id (book_entries events) ≡ None =
    ap (λ (l : List Event). booked_as credit.operator credit.id (book_entries l)) (sym c.as_slice.ensures.value)
    ∙ ap (λ (l : Cdr). booked_as l.operator credit.id (book_entries c.as_slice.result.now)) (sym c.deref.ensures)
    ∙ ap (λ (l : Cdr). booked_as c.deref.result.now.operator l.id (book_entries c.as_slice.result.now)) (sym c.deref-2.ensures)
    ∙ (sym c.booked_as.ensures ∙ ap (option_map shown_booked) c.in_default.is) in
    subst (λ (verdict : Verdict). Follows verdict events c.take_credit.result c.take_credit.new.events.items)
    (credit_left c.args.config.now (known events) credit unknown) c.take_credit.ensures
