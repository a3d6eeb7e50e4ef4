use Rattle.std.proofs.Common.{◌∙◌, ap}
use Rattle.std.specs.List.{position}
use Rattle.plain_house.specs.Happened.{books}
use Rattle.known_events.specs.Inner.Firsts.{adds}
use Rattle.known_events.specs.declared.keys.OwnKey.TheVariants as own
use Rattle.known_events.proofs.FirstsLemmas.{same_place}
use Rattle.known_events.proofs.KeysLemmas.{adds_cdr}
use Rattle.known_events.proofs.known_events.KnownEvents.booked_at.Goals as goal

pub returns : goal.returns
returns c =
    let operator = c.args.operator.now in
    let id = c.args.id.now in
    let events = c.self.inside.list.items in
    c.get.ensures ∙ c.self.invariant.0 (own.Cdr operator id)
    ∙ same_place (adds (own.Cdr operator id)) (books operator id) (adds_cdr operator id) events
    ∙ ap (position (books operator id)) c.self.view_is
