use Rattle.std.proofs.Common.{rules, ◌≡◌, ◌∙◌, Some, sym, slice_get}
use Rattle.std.specs.List.{position}
use Rattle.plain_house.specs.Happened.{gives}
use Rattle.plain_house.specs.declared.event.Event.TheVariants as event
use Rattle.house_causes.proofs.UnknownLemmas.{told_by}
use Rattle.house_causes.proofs.holds.unknown_hold.Goals as goal

pub returns : goal.returns
returns c =
    let events = c.args.events.now in
    let release = c.args.release.now in
    let at = c.in-Some.at in
    let hold = c.in-Authorised.hold in
    let first : position (gives release) events ≡ Some at = sym c.authorised_at.ensures ∙ c.in-Some.is in
    let stands : slice_get events at ≡ Some (event.Authorised hold) = search rules in
    told_by events release at hold first stands c.why_not_open.result c.why_not_open.ensures
