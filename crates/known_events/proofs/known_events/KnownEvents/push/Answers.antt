use Rattle.std.proofs.Common.{◌≡◌, ◌∙◌, List, [], ◌∷◌, ◌++◌, ap, sym, cond, is_ok, length}
use Rattle.plain_house.specs.Entries.{period_after, period_of}
use Rattle.plain_house.specs.declared.event.Event.{Event}
use Rattle.known_events.specs.Inner.Firsts.{key_if_given, same_credited, same_own}
use Rattle.known_events.specs.Inner.Keys.{credited_key, own_key}
use Rattle.known_events.proofs.FirstsLemmas.{kept, put_adds}
use Rattle.known_events.proofs.GivenLemmas.{kept_after, put_after}
use Rattle.known_events.proofs.PeriodsLemmas.{periods_added}
use Rattle.plain_house.proofs.DatedLemmas.{period_of-push}
use Rattle.known_events.specs.Inner.Periods.{periods_of}
use Rattle.known_events.proofs.known_events.KnownEvents.push.Goals as goal

pub invariant_of-self-2 : goal.invariant_of-self-2
invariant_of-self-2 c =
    let known = c.self.inside in
    let events = known.list.items in
    let event = c.args.event in
    let added = c.push-2.new.self.items in
    let place : c.len-place.result ≡ length events = c.len-place.ensures ∙ c.reserve-5.new.self.ok.0 ∙ ap length c.reserve-5.ensures.items in
    let all : added ≡ events ++ event ∷ [] =
    c.push-2.ensures.items ∙ ap (λ r. cond (is_ok r) (c.reserve-5.new.self.items ++ event ∷ []) c.reserve-5.new.self.items) c.unwrap-2.ensures
    ∙ ap (λ (l : List Event). l ++ event ∷ []) c.reserve-5.ensures.items in (
      put_adds same_own own_key c.reserve.new.self.firsts c.put.new.places.firsts events added event c.own_key.result c.len-place.result
          c.own_key.ensures place all c.put.ensures (kept same_own own_key known.own.firsts c.reserve.new.self.firsts events c.reserve.ensures.firsts c.self.invariant.0),
      put_adds same_credited credited_key c.reserve-2.new.self.firsts c.put-2.new.places.firsts events added event c.credited_key.result c.len-place.result
          c.credited_key.ensures place all c.put-2.ensures (kept same_credited credited_key known.credited.firsts c.reserve-2.new.self.firsts events c.reserve-2.ensures.firsts c.self.invariant.1),
      put_after c.reserve-3.new.self.firsts c.put-3.new.places.firsts events added event c.key_if_given-ended.result c.len-place.result
          (c.key_if_given-ended.ensures ∙ ap (λ (l : List Event). key_if_given l event) (sym c.self.view_is)) place all c.put-3.ensures
          (kept_after known.ended.firsts c.reserve-3.new.self.firsts events c.reserve-3.ensures.firsts c.self.invariant.2),
      c.push.ensures.items
          ∙ ap (λ r. cond (is_ok r) (c.reserve-4.new.self.items ++ known.period ∷ []) c.reserve-4.new.self.items) c.unwrap.ensures
          ∙ ap (λ l. l ++ known.period ∷ []) (c.reserve-4.ensures.items ∙ c.self.invariant.3)
          ∙ ap (λ n. periods_of events ++ n ∷ []) c.self.invariant.4 ∙ periods_added events event ∙ ap periods_of (sym all),
      c.period_after-self-inside.ensures.value ∙ ap (λ n. period_after n event) c.self.invariant.4 ∙ period_of-push events event ∙ ap period_of (sym all),
    )
