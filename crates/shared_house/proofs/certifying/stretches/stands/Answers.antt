use Rattle.std.proofs.Common.{◌≡◌, ◌∙◌, ◌-◌, List, Some, ap, refl, sym, subst, length, slice_get}
use Rattle.std.proofs.lemmas.Bool.{ltb-true}
use Rattle.std.proofs.lemmas.Option.{slice_get-get_or}
use Rattle.cdr_checks.specs.declared.request.Command.{Command}
use Rattle.plain_house.specs.declared.event.Event.{Event}
use Rattle.plain_house.specs.House.{events_after}
use Rattle.period_order.specs.EntryBooks.{IsDecided, Keep}
use Rattle.shared_house.specs.Points.{point_of_reply}
use Rattle.shared_house.specs.History.{events_before}
use Rattle.shared_house.proofs.StretchLemmas.{stands_with_next, stands_without}
use Rattle.shared_house.proofs.certifying.stretches.stands.Goals as goal

pub returns-then-not-adds_event-clause-stands : goal.returns-then-not-adds_event-clause-stands
returns-then-not-adds_event-clause-stands c = λ yes right kept.
    let config = c.args.entry_books.now.config in
    let events = c.args.events.now in
    let call = c.args.call.now in
    let before : List Event = events_before events call in
    let decided = subst (λ (told : Command). IsDecided config before told c.in_ok-decided.decided) c.in_ok-command.ensures (c.in_ok-decided.ensures.decided before kept) in
    stands_without c.replies_tell_events.ensures c.closed_periods_stay.ensures c.events_are_of_configured.ensures config events call c.in_ok-decided.decided c.requires.admitted c.requires.within decided
    (c.if-not-agrees.ensures refl) right (sym c.if-not-adds_event.ensures)

pub returns-in-Some-clause-stands : goal.returns-in-Some-clause-stands
returns-in-Some-clause-stands c = λ last right kept.
    let config = c.args.entry_books.now.config in
    let events = c.args.events.now in
    let call = c.args.call.now in
    let before : List Event = events_before events call in
    let next : Event = c.in-Some.event.now in
    let decided = subst (λ (told : Command). IsDecided config before told c.in_ok-decided.decided) c.in_ok-command.ensures (c.in_ok-decided.ensures.decided before kept) in
    let behind : Keep c.decide.new.self (events_after config before call.command) =
    subst (λ (told : Command). Keep c.decide.new.self (events_after config before told)) c.in_ok-command.ensures (c.in_ok-decided.ensures.kept before kept) in
    let is_last : slice_get (events_after config before call.command) (length (events_after config before call.command) - 1) ≡ Some next = (c.is_last.ensures (events_after config before call.command) behind).0 last in
    let is_next : slice_get events (point_of_reply call.reply) ≡ Some next =
    ap (slice_get events) (sym c.point.ensures) ∙ slice_get-get_or events c.point.result next (ltb-true _ _ (sym c.in-Some.ensures.lookup.0)) ∙ ap Some (sym c.in-Some.ensures.lookup.1) in
    stands_with_next c.replies_tell_events.ensures c.closed_periods_stay.ensures c.events_are_of_configured.ensures config events call c.in_ok-decided.decided c.requires.admitted c.requires.within decided
    (c.if-not-agrees.ensures refl) right (sym c.if-not-adds_event.ensures) next is_next is_last
