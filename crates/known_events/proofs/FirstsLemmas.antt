-- Where the first event that passes a test is.
use Rattle.std.proofs.Common.{◌≡◌, ◌∙◌, ℕ, List, [], ◌∷◌, ◌++◌, Bool, cond, Option, Some, None, sym, ap, ap₂, length}
use Rattle.std.specs.List.{position}
use Rattle.std.specs.Map.{lookup}
use Rattle.std.specs.Option.{option_or}
use Rattle.std.proofs.lemmas.Iterator.Adapters.{position_from-zero}
use Rattle.indexmap.specs.IndexMap.{IndexMap, get}
use Rattle.plain_house.specs.declared.event.Event.{Event}
use Rattle.known_events.specs.Inner.Firsts.{FindsFirst, is_key}
use Rattle.operator_book.proofs.FoundLemmas.{place_after}

-- two tests that agree
pub same_place : {E : Type 0} (p q : E → Bool) → ((e : E) → p e ≡ q e) → (xs : List E) → position p xs ≡ position q xs
same_place p q same xs = λ i. position (λ e. same e i) xs

-- with one event more
place_added : {E : Type 0} (test : E → Bool) (xs : List E) (y : E) (before : Option ℕ) → before ≡ position test xs
    → option_or before (cond (test y) (Some (length xs)) None) ≡ position test (xs ++ y ∷ [])
place_added test xs y before is =
    ap (λ o. option_or o (cond (test y) (Some (length xs)) None)) (is ∙ position_from-zero test xs)
    ∙ sym (place_after test xs y) ∙ sym (position_from-zero test (xs ++ y ∷ []))

module _ {K S : Type 0} (same : K → K → Bool) (key_of : Event → Option K) where
  -- a map that is given room
  pub kept : (old new : IndexMap K ℕ S) (events : List Event) → new.entries ≡ old.entries
      → FindsFirst same (λ key event. is_key same key (key_of event)) old events → FindsFirst same (λ key event. is_key same key (key_of event)) new events
  kept old new events e finds key = ap (λ entries. lookup (same key) entries) e ∙ finds key

  -- a map in which the key of one event more is put
  pub put_adds : (old new : IndexMap K ℕ S) (before after : List Event) (event : Event) (own : Option K) (place : ℕ)
      → own ≡ key_of event → place ≡ length before → after ≡ before ++ event ∷ []
      → ((key : K) → get same new key ≡ option_or (get same old key) (cond (is_key same key own) (Some place) None))
      → FindsFirst same (λ key event. is_key same key (key_of event)) old before → FindsFirst same (λ key event. is_key same key (key_of event)) new after
  put_adds old new before after event own place own_is place_is after_is put finds key =
      put key
      ∙ ap₂ (λ (o : Option K) n. option_or (get same old key) (cond (is_key same key o) (Some n) None)) own_is place_is
      ∙ place_added (λ (e : Event). is_key same key (key_of e)) before event (get same old key) (finds key)
      ∙ ap (position (λ (e : Event). is_key same key (key_of e))) (sym after_is)
