use Rattle.std.proofs.Common.{◌∙◌, ap}
use Rattle.std.specs.List.{position}
use Rattle.plain_house.specs.Happened.{takes_back}
use Rattle.known_events.specs.Inner.Firsts.{credits}
use Rattle.known_events.specs.declared.keys.CreditedKey.{CreditedKey}
use Rattle.known_events.proofs.FirstsLemmas.{same_place}
use Rattle.known_events.proofs.KeysLemmas.{credits_cdr}
use Rattle.known_events.proofs.known_events.KnownEvents.credited_at.Goals as goal

pub returns : goal.returns
returns c =
    let operator = c.args.operator.now in
    let id = c.args.id.now in
    let key : CreditedKey = record { operator = operator; id = id } in
    let events = c.self.inside.list.items in
    c.get.ensures ∙ c.self.invariant.1 key
    ∙ same_place (credits key) (takes_back operator id) (credits_cdr operator id) events
    ∙ ap (position (takes_back operator id)) c.self.view_is
