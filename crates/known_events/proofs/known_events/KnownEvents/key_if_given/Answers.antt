use Rattle.std.proofs.Common.{◌≡◌, ◌∙◌, List, true, false, Some, None, ap, cond, is_some, sym}
use Rattle.std.specs.List.{list_any, position}
use Rattle.indexmap.specs.IndexMap.{get}
use Rattle.plain_house.specs.declared.event.Event.{Event}
use Rattle.known_events.specs.Inner.Firsts.{given_key, gives_for, same_own}
use Rattle.known_events.specs.Inner.Keys.{hold_key}
use Rattle.known_events.specs.declared.keys.OwnKey.{OwnKey}
use Rattle.known_events.proofs.AfterLemmas.{some_place}
use Rattle.known_events.proofs.known_events.KnownEvents.key_if_given.Goals as goal

pub returns-then-is_some : goal.returns-then-is_some
returns-then-is_some c =
    let key = c.in_ok-key.key in
    let events = c.args.self.now in
    let given : list_any (gives_for key) events ≡ true =
    sym (some_place (gives_for key) events) ∙ ap (λ (l : List Event). is_some (position (gives_for key) l)) (sym c.self.view_is)
    ∙ ap is_some (sym (c.self.invariant.0 (hold_key key))) ∙ sym (c.is_some.ensures ∙ ap is_some (c.get-given.ensures ∙ ap (λ (k : OwnKey). get same_own c.self.inside.own.firsts k) c.hold_key.ensures)) ∙ c.if-is_some.true in
    sym (ap (given_key events) (sym c.end_key.ensures ∙ c.in_ok-key.was) ∙ ap (λ b. cond b (Some key) None) given)

pub returns-else-is_some : goal.returns-else-is_some
returns-else-is_some c =
    let key = c.in_ok-key.key in
    let events = c.args.self.now in
    let given : list_any (gives_for key) events ≡ false =
    sym (some_place (gives_for key) events) ∙ ap (λ (l : List Event). is_some (position (gives_for key) l)) (sym c.self.view_is)
    ∙ ap is_some (sym (c.self.invariant.0 (hold_key key))) ∙ sym (c.is_some.ensures ∙ ap is_some (c.get-given.ensures ∙ ap (λ (k : OwnKey). get same_own c.self.inside.own.firsts k) c.hold_key.ensures)) ∙ c.if-is_some.false in
    sym (ap (given_key events) (sym c.end_key.ensures ∙ c.in_ok-key.was) ∙ ap (λ b. cond b (Some key) None) given)
