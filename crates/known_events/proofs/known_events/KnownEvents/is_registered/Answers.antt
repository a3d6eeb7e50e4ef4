use Rattle.std.proofs.Common.{◌∙◌, ◌-◌, List, sym, ap, drop, length, take}
use Rattle.std.specs.List.{list_any}
use Rattle.std.proofs.lemmas.List.{take_rest}
use Rattle.plain_house.specs.Happened.{registers}
use Rattle.plain_house.specs.declared.event.Event.{Event}
use Rattle.known_events.proofs.RegisteredLemmas.{none_stored, registered_from}
use Rattle.known_events.proofs.known_events.KnownEvents.is_registered.Goals as goal

pub returns-in-Some : goal.returns-in-Some
returns-in-Some c =
    let operator = c.args.operator.now in
    let tariff = c.args.tariff.now in
    let events = c.args.self.now in
    let at = c.in-Some.at in
    c.is_registered_by_any.ensures
    ∙ ap (λ (l : List Event). list_any (registers operator tariff) (take (length l - at) (drop at l))) (c.as_slice.ensures.value ∙ c.self.view_is)
    ∙ ap (list_any (registers operator tariff)) (take_rest events at)
    ∙ registered_from c.same_tariffs_are_equal_folded.ensures operator tariff events at (sym c.stored_at.ensures ∙ c.in-Some.is)

pub returns-in-None : goal.returns-in-None
returns-in-None c =
    none_stored c.same_tariffs_are_equal_folded.ensures c.args.operator.now c.args.tariff.now c.args.self.now
    (sym c.stored_at.ensures ∙ c.in-None.is)
