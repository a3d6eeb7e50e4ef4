-- The last token that is sought, event by event.
use Rattle.std.proofs.Common.{◌≡◌, List, [], ◌∷◌, ◌++◌, Bool, Option, None, Some, find, reverse, option_map, flat_map, refl, ap, ◌∙◌}
use Rattle.std.specs.Option.{option_or}
use Rattle.std.proofs.lemmas.List.{reverse-append}
use Rattle.std.proofs.lemmas.List.Concat.{flat_map-append}
use Rattle.std.proofs.lemmas.List.Folds.{find-append}
use Rattle.ocpi_types.specs.declared.token.Token.{Token}
use Rattle.plain_house.specs.declared.event.Event.{Event}
use Rattle.plain_house.specs.declared.event.Event.TheVariants as event
use Rattle.plain_house.specs.Inner.Scanned.{token_of_event}

-- whether the token that is found is valid
abbrev pub found_valid : (Token → Bool) → List Token → Option Bool
found_valid p found = option_map (λ token. token.valid) (find p found)

either : (a b : Option Token) → option_map (λ (token : Token). token.valid) (option_or a b) ≡ option_or (option_map (λ token. token.valid) a) (option_map (λ token. token.valid) b)
either None b = refl
either (Some token) b = refl

one_back : (p : Token → Bool) (e : Event) → find p (reverse (token_of_event e)) ≡ find p (token_of_event e)
one_back p (event.Tariff tariff) = refl
one_back p (event.Token token) = refl
one_back p (event.Authorised hold) = refl
one_back p (event.Released release) = refl
one_back p (event.Cdr cdr cost) = refl
one_back p (event.Credit cdr amount) = refl
one_back p (event.Settled settlement) = refl
one_back p (event.Closed period) = refl

-- one more event
pub valid-push : (p : Token → Bool) (events : List Event) (e : Event)
    → found_valid p (reverse (flat_map token_of_event (events ++ e ∷ []))) ≡ option_or (found_valid p (token_of_event e)) (found_valid p (reverse (flat_map token_of_event events)))
valid-push p events e =
    let before = flat_map token_of_event events in
    ap (λ l. found_valid p (reverse l)) (flat_map-append token_of_event events (e ∷ []) ∙ ap (λ l. before ++ l) (alone (token_of_event e)))
    ∙ ap (found_valid p) (reverse-append before (token_of_event e))
    ∙ ap (option_map (λ token. token.valid)) (find-append p (reverse (token_of_event e)) (reverse before))
    ∙ either (find p (reverse (token_of_event e))) (find p (reverse before))
    ∙ ap (λ o. option_or (option_map (λ token. token.valid) o) (found_valid p (reverse before))) (one_back p e)
  where
    alone : (l : List Token) → l ++ [] ≡ l
    alone [] = refl
    alone (x ∷ xs) = ap (λ r. x ∷ r) (alone xs)

pub ruleset last_token = valid-push
