use Rattle.std.proofs.Common.{◌∙◌, ap}
use Rattle.std.specs.List.{position}
use Rattle.plain_house.specs.Happened.{stores}
use Rattle.known_events.specs.Inner.Firsts.{adds}
use Rattle.known_events.specs.declared.keys.OwnKey.TheVariants as own
use Rattle.known_events.proofs.FirstsLemmas.{same_place}
use Rattle.known_events.proofs.KeysLemmas.{adds_version}
use Rattle.known_events.proofs.known_events.KnownEvents.stored_at.Goals as goal

pub returns : goal.returns
returns c =
    let tariff = c.args.tariff.now in
    let events = c.self.inside.list.items in
    c.get.ensures ∙ c.self.invariant.0 (own.Version tariff.operator tariff.id tariff.last_updated)
    ∙ same_place (adds (own.Version tariff.operator tariff.id tariff.last_updated)) (stores tariff) (adds_version tariff) events
    ∙ ap (position (stores tariff)) c.self.view_is
