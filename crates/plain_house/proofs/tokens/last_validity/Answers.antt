use Rattle.std.proofs.Common.{◌++◌, ◌∷◌, [], ◌<◌, ap, sym, ◌∙◌, arith, take, length, reverse, flat_map, Bool, List, Option}
use Rattle.std.specs.Option.{option_or}
use Rattle.std.proofs.lemmas.List.{take_more}
use Rattle.ocpi_types.specs.declared.token.Token.{Token}
use Rattle.plain_house.specs.declared.event.Event.{Event}
use Rattle.plain_house.specs.Tokens.{is_token}
use Rattle.plain_house.specs.Inner.Scanned.{token_of_event}
use Rattle.plain_house.proofs.TokensLemmas.{found_valid, valid-push}
use Rattle.plain_house.proofs.tokens.last_validity.Goals as goal

pub loop-event-preserved : goal.loop-event-preserved
loop-event-preserved c =
    let events = c.args.events.now in
    let index = c.loop-event.event-index in
    let item = c.event-item.result in
    let p : Token → Bool = is_token c.args.provider.now c.args.uid.now c.args.kind in
    let within : index < length events = omega (arith, c.loop-event-test.true) in
    c.validity_after-found.ensures
    ∙ ap (λ (found : Option Bool). option_or (found_valid p (token_of_event item)) found) c.loop-event.invariant
    ∙ sym (valid-push p (take index events) item)
    ∙ ap (λ (es : List Event). found_valid p (reverse (flat_map token_of_event es)))
    (sym (take_more events index item within ∙ ap (λ (e : Event). take index events ++ e ∷ []) (sym c.event-item.is)))
