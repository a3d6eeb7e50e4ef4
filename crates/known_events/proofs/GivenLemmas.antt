-- The hold that an event ends is given under the same key.
use Rattle.std.proofs.Common.{◌≡◌, ◌∙◌, ◌==◌, ℕ, ◌+◌, List, [], ◌∷◌, ◌++◌, Bool, true, false, ◌&&◌, cond, Option, Some, None, refl, sym, ap, ap₂, length, arith}
use Rattle.std.specs.Cmp.Lexicographic.{pointwise, same_text}
use Rattle.std.specs.List.{list_any}
use Rattle.std.specs.Map.{lookup}
use Rattle.std.specs.Option.{option_or}
use Rattle.indexmap.specs.IndexMap.{IndexMap, get}
use Rattle.ocpi_json.specs.Folded.{folded, same_folded}
use Rattle.ocpi_types.specs.Party.{same_party}
use Rattle.ocpi_types.specs.declared.party.Party.{Party}
use Rattle.cdr_checks.specs.declared.request.Release.{Release}
use Rattle.plain_house.specs.Happened.{gives}
use Rattle.plain_house.specs.declared.event.Event.{Event}
use Rattle.plain_house.specs.declared.event.Event.TheVariants as event
use Rattle.plain_house.specs.declared.event.Hold.{Hold}
use Rattle.plain_house.proofs.OwnEntries.{party_along}
use Rattle.known_events.specs.Inner.Firsts.{FindsFirstAfter, adds, ends_by, first_after_from, given_key, gives_for, is_key, key_if_given, same_end}
use Rattle.known_events.specs.Inner.Keys.{end_key}
use Rattle.known_events.specs.declared.keys.EndKey.{EndKey}
use Rattle.known_events.specs.declared.keys.EndKey.TheVariants as end
use Rattle.known_events.specs.declared.keys.OwnKey.TheVariants as own
use Rattle.known_events.proofs.AfterLemmas.{after_added}
use Rattle.known_events.proofs.KeysLemmas.{adds_hold, release_key}
use Rattle.operator_book.proofs.KeyLemmas.{both_are, or_false}

pub folded_along : (text a b : List ℕ) → same_folded a b ≡ true → same_folded text a ≡ same_folded text b
folded_along text a b h = ap (λ (other : List ℕ). pointwise ◌==◌ (folded text) other) (same_text (folded a) (folded b) (sym h))

hold_along : (a b : Party) (one other : List ℕ) → same_party a b ≡ true → same_folded one other ≡ true → (e : Event)
    → adds (own.Hold a one) e ≡ adds (own.Hold b other) e
hold_along a b one other h k (event.Tariff tariff) = refl
hold_along a b one other h k (event.Token token) = refl
hold_along a b one other h k (event.Authorised hold) =
    ap₂ (λ (x y : Bool). x && y) (party_along hold.provider a b h) (folded_along hold.reference one other k)
hold_along a b one other h k (event.Released release) = refl
hold_along a b one other h k (event.Cdr cdr cost) = refl
hold_along a b one other h k (event.Credit cdr amount) = refl
hold_along a b one other h k (event.Settled settlement) = refl
hold_along a b one other h k (event.Closed period) = refl

-- an equal key has the same hold
gives_along : (key asked : EndKey) → same_end key asked ≡ true → (e : Event) → gives_for key e ≡ gives_for asked e
gives_along (end.Release operator provider reference) (end.Release operator2 provider2 reference2) h =
    let rest = both_are (same_party operator operator2) (same_party provider provider2 && same_folded reference reference2) h in
    let keys = both_are (same_party provider provider2) (same_folded reference reference2) rest.1 in
    hold_along provider provider2 reference reference2 keys.0 keys.1
gives_along (end.Release operator provider reference) (end.Use operator2 provider2 currency2 reference2) h = absurd (cc)
gives_along (end.Use operator provider currency reference) (end.Release operator2 provider2 reference2) h = absurd (cc)
gives_along (end.Use operator provider currency reference) (end.Use operator2 provider2 currency2 reference2) h =
    let rest = both_are (same_party operator operator2) (same_party provider provider2 && (pointwise ◌==◌ currency currency2 && same_folded reference reference2)) h in
    let more = both_are (same_party provider provider2) (pointwise ◌==◌ currency currency2 && same_folded reference reference2) rest.1 in
    let last = both_are (pointwise ◌==◌ currency currency2) (same_folded reference reference2) more.1 in
    hold_along provider provider2 reference reference2 more.0 last.1

-- a hold of the release's provider and reference is given under the same key as the release's
pub gives_alike : (release : Release) (hold : Hold) → gives release (event.Authorised hold) ≡ true → (e : Event) → gives_for (release_key hold) e ≡ gives release e
gives_alike release hold h e =
    let keys = both_are (same_party hold.provider release.provider) (same_folded hold.reference release.reference)
    (sym (or_false (same_party hold.provider release.provider && same_folded hold.reference release.reference)) ∙ h) in
    hold_along hold.provider release.provider hold.reference release.reference keys.0 keys.1 e ∙ adds_hold release e

none_and : (a : Bool) → false ≡ (a && false)
none_and true = refl
none_and false = refl

-- a key that is put is the one that is asked for, and its hold is given
is_given : (events : List Event) (asked : EndKey) (key : Option EndKey)
    → is_key same_end asked (given_key events key) ≡ (list_any (gives_for asked) events && is_key same_end asked key)
is_given events asked None = none_and (list_any (gives_for asked) events)
is_given events asked (Some key) = by (same_end key asked) refl
  where
    same_given : same_end key asked ≡ true → list_any (gives_for key) events ≡ list_any (gives_for asked) events
    same_given h = λ i. list_any (λ e. gives_along key asked h e i) events

    of_given : (given : Bool) → is_key same_end asked (cond given (Some key) None) ≡ (given && same_end key asked)
    of_given true = refl
    of_given false = refl

    unlike : (given here : Bool) → (given && false) ≡ (here && false)
    unlike given here = sym (none_and given) ∙ none_and here

    by : (same : Bool) → same_end key asked ≡ same
        → is_key same_end asked (cond (list_any (gives_for key) events) (Some key) None) ≡ (list_any (gives_for asked) events && same_end key asked)
    by true is =
        of_given (list_any (gives_for key) events) ∙ ap (λ b. b && same_end key asked) (same_given is)
    by false is =
        of_given (list_any (gives_for key) events) ∙ ap (λ b. list_any (gives_for key) events && b) is
        ∙ unlike (list_any (gives_for key) events) (list_any (gives_for asked) events)
        ∙ ap (λ b. list_any (gives_for asked) events && b) (sym is)

module _ {S : Type 0} where
  -- a map that is given room
  pub kept_after : (old new : IndexMap EndKey ℕ S) (events : List Event) → new.entries ≡ old.entries
      → FindsFirstAfter same_end gives_for ends_by old events → FindsFirstAfter same_end gives_for ends_by new events
  kept_after old new events e finds key = ap (λ entries. lookup (same_end key) entries) e ∙ finds key

  -- a map in which the key of one event more is put, if its hold is given
  pub put_after : (old new : IndexMap EndKey ℕ S) (before after : List Event) (event : Event) (put_key : Option EndKey) (place : ℕ)
      → put_key ≡ key_if_given before event → place ≡ length before → after ≡ before ++ event ∷ []
      → ((key : EndKey) → get same_end new key ≡ option_or (get same_end old key) (cond (is_key same_end key put_key) (Some place) None))
      → FindsFirstAfter same_end gives_for ends_by old before → FindsFirstAfter same_end gives_for ends_by new after
  put_after old new before after event put_key place key_is place_is after_is put finds key =
      let place_of : length before ≡ 0 + length before = omega arith in
      put key
      ∙ ap₂ (λ (o : Option EndKey) n. option_or (get same_end old key) (cond (is_key same_end key o) (Some n) None)) key_is place_is
      ∙ ap (λ b. option_or (get same_end old key) (cond b (Some (length before)) None)) (is_given before key (end_key event))
      ∙ ap (λ o. option_or o (cond (list_any (gives_for key) before && ends_by key event) (Some (length before)) None)) (finds key)
      ∙ ap (λ n. option_or (first_after_from (gives_for key) (ends_by key) 0 before) (cond (list_any (gives_for key) before && ends_by key event) (Some n) None)) place_of
      ∙ sym (after_added (gives_for key) (ends_by key) 0 before event)
      ∙ ap (first_after_from (gives_for key) (ends_by key) 0) (sym after_is)
