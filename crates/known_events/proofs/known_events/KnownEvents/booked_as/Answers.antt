use Rattle.std.proofs.Common.{◌≡◌, ◌∙◌, ◌<◌, List, Some, ap, subst, sym, get_or, length, option_map}
use Rattle.std.specs.List.{position}
use Rattle.plain_house.specs.Booked.{shown_booked}
use Rattle.plain_house.specs.Happened.{books}
use Rattle.plain_house.specs.Inner.Scanned.{booked_of_event}
use Rattle.plain_house.specs.declared.event.Event.{Event}
use Rattle.known_events.specs.Inner.Periods.{periods_of}
use Rattle.known_events.proofs.BookedLemmas.{booked_there, event_within, not_booked, period_within}
use Rattle.known_events.proofs.known_events.KnownEvents.booked_as.Goals as goal

pub bounds-events-at : goal.bounds-events-at
bounds-events-at c =
    let operator = c.args.operator.now in
    let id = c.args.id.now in
    let at = c.in_ok-at.at in
    let here : position (books operator id) c.args.self.now ≡ Some at = sym c.booked_at.ensures ∙ c.in_ok-at.was in
    subst (λ (l : List Event). at < length l) (sym (c.as_slice-events.ensures.value ∙ c.self.view_is)) (event_within operator id c.args.self.now at here)

pub bounds-periods-at : goal.bounds-periods-at
bounds-periods-at c =
    let operator = c.args.operator.now in
    let id = c.args.id.now in
    let at = c.in_ok-at.at in
    let here : position (books operator id) c.args.self.now ≡ Some at = sym c.booked_at.ensures ∙ c.in_ok-at.was in
    let periods = c.as_slice-periods.ensures.value ∙ c.self.invariant.3 ∙ ap periods_of c.self.view_is in
    subst (λ l. at < length l) (sym periods) (period_within operator id c.args.self.now at here)

pub returns-in_err-at : goal.returns-in_err-at
returns-in_err-at c =
    ap (option_map shown_booked) c.from_residual.ensures
    ∙ not_booked c.args.operator.now c.args.id.now c.args.self.now (sym c.booked_at.ensures ∙ c.in_err-at.was)

pub returns : goal.returns
returns c =
    let operator = c.args.operator.now in
    let id = c.args.id.now in
    let events = c.args.self.now in
    let at = c.in_ok-at.at in
    let here : position (books operator id) events ≡ Some at = sym c.booked_at.ensures ∙ c.in_ok-at.was in
    let event = c.index-events-at.result in
    let periods = c.as_slice-periods.ensures.value ∙ c.self.invariant.3 ∙ ap periods_of c.self.view_is in
    c.booked_in.ensures
    ∙ ap (λ l. booked_of_event event (get_or l at 0)) periods
    ∙ booked_there operator id events at here event (c.index-events-at.is ∙ ap (λ (l : List Event). get_or l at event) (c.as_slice-events.ensures.value ∙ c.self.view_is))
