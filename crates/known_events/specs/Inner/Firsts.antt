-- The first event of each key.
use Rattle.std.specs.Prelude.{◌≡◌, ℕ, ◌+◌, List, [], ◌∷◌, Bool, false, cond, Option, None, Some, position}
use Rattle.std.specs.List.{list_any, position_from}
use Rattle.std.specs.Option.{option_map_or}
use Rattle.indexmap.specs.IndexMap.{IndexMap, get}
use Rattle.plain_house.specs.declared.event.Event.{Event}
use Rattle.known_events.specs.Inner.Keys.{credited_key, end_key, hold_key, own_key}
use Rattle.known_events.specs.declared.keys.CreditedKey.{CreditedKey}
use Rattle.known_events.specs.declared.keys.EndKey.{EndKey}
use Rattle.known_events.specs.declared.keys.OwnKey.{OwnKey}
use Rattle.known_events.specs.contracts.keys.CreditedKeyPartialEq.TheImpl as credited_keys
use Rattle.known_events.specs.contracts.keys.EndKeyPartialEq.TheImpl as end_keys
use Rattle.known_events.specs.contracts.keys.OwnKeyPartialEq.TheImpl as own_keys

-- the key is there and is this one
abbrev pub is_key : {K : Type 0} → (K → K → Bool) → K → Option K → Bool
is_key same key other = option_map_or (λ own. same own key) other false

-- ---- the equality of the keys, as derived

abbrev pub same_own : OwnKey → OwnKey → Bool
same_own = own_keys.ghosts.eq

abbrev pub same_credited : CreditedKey → CreditedKey → Bool
same_credited = credited_keys.ghosts.eq

abbrev pub same_end : EndKey → EndKey → Bool
same_end = end_keys.ghosts.eq

-- ---- events of a key

abbrev pub adds : OwnKey → Event → Bool
adds key event = is_key same_own key (own_key event)

abbrev pub credits : CreditedKey → Event → Bool
credits key event = is_key same_credited key (credited_key event)

abbrev pub ends_by : EndKey → Event → Bool
ends_by key event = is_key same_end key (end_key event)

-- the event gives a hold of the provider and reference
abbrev pub gives_for : EndKey → Event → Bool
gives_for key event = adds (hold_key key) event

-- each key has the place of the first event that passes its test
abbrev pub FindsFirst : {K S : Type 0} → (K → K → Bool) → (K → Event → Bool) → IndexMap K ℕ S → List Event → Type 0
FindsFirst {K} same test firsts events = (key : K) → get same firsts key ≡ position (test key) events

-- ---- events after another one

-- the place, counted from a number, of the first event that passes the second test after the first event that passes the first
abbrev pub first_after_from : {E : Type 0} → (E → Bool) → (E → Bool) → ℕ → List E → Option ℕ
first_after_from before test n [] = None
first_after_from before test n (x ∷ xs) = cond (before x) (position_from test (n + 1) xs) (first_after_from before test (n + 1) xs)

-- each key has the place of the first event that passes its test after the first that passes the one before
abbrev pub FindsFirstAfter : {K S : Type 0} → (K → K → Bool) → (K → Event → Bool) → (K → Event → Bool) → IndexMap K ℕ S → List Event → Type 0
FindsFirstAfter {K} same before test firsts events = (key : K) → get same firsts key ≡ first_after_from (before key) (test key) 0 events

-- the key, if one of the events gives its hold
abbrev pub given_key : List Event → Option EndKey → Option EndKey
given_key events None = None
given_key events (Some key) = cond (list_any (gives_for key) events) (Some key) None

-- the hold that an event after these ends
abbrev pub key_if_given : List Event → Event → Option EndKey
key_if_given events event = given_key events (end_key event)
