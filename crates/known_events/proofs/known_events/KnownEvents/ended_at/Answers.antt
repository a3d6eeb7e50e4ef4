use Rattle.std.proofs.Common.{◌∙◌, ◌||◌, List, ap, ap₂}
use Rattle.std.specs.List.{position}
use Rattle.plain_house.specs.Happened.{ends, gives}
use Rattle.plain_house.specs.declared.event.Event.{Event}
use Rattle.known_events.specs.After.{position_after}
use Rattle.known_events.specs.Inner.Firsts.{ends_by, gives_for}
use Rattle.known_events.specs.Inner.Lesser.{lesser}
use Rattle.known_events.proofs.AfterLemmas.{after_either, after_first, same_after}
use Rattle.known_events.proofs.FirstsLemmas.{same_place}
use Rattle.known_events.proofs.GivenLemmas.{gives_alike}
use Rattle.known_events.proofs.KeysLemmas.{ends_hold, release_key, use_key}
use Rattle.known_events.proofs.known_events.KnownEvents.ended_at.Goals as goal

pub returns : goal.returns
returns c release at given =
    let hold = c.args.hold.now in
    let events = c.self.inside.list.items in
    c.lesser.ensures
    ∙ ap₂ lesser (c.get-released.ensures ∙ c.self.invariant.2 (release_key hold)) (c.get-used.ensures ∙ c.self.invariant.2 (use_key hold))
    ∙ after_either (gives_for (release_key hold)) (ends_by (release_key hold)) (ends_by (use_key hold)) 0 events
    ∙ same_after (gives_for (release_key hold)) (λ (e : Event). ends_by (release_key hold) e || ends_by (use_key hold) e) (ends hold) (ends_hold hold) 0 events
    ∙ after_first (gives_for (release_key hold)) (ends hold) events at
    (same_place (gives_for (release_key hold)) (gives release) (gives_alike release hold given.keys) events ∙ ap (position (gives release)) c.self.view_is ∙ given.first)
    ∙ ap (λ (l : List Event). position_after (ends hold) at l) c.self.view_is
