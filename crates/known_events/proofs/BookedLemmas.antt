-- The first event that books a CDR or Credit CDR of an operator and id, and the period of that event.
use Rattle.std.proofs.Common.{◌≡◌, ◌∙◌, ◌<◌, ℕ, ◌+◌, pos, List, [], ◌∷◌, Bool, true, false, ◌&&◌, cond, Some, None, refl, sym, ap, ap₂, find, flat_map, map, length, get_or, slice_get, option_map}
use Rattle.std.specs.List.{position, position_from}
use Rattle.std.proofs.lemmas.Iterator.Adapters.{position_from-zero}
use Rattle.std.proofs.lemmas.Option.{get_or_from_slice_get, slice_get-map, slice_get_within}
use Rattle.ocpi_json.specs.Folded.{same_folded}
use Rattle.ocpi_types.specs.Party.{same_party}
use Rattle.ocpi_types.specs.declared.party.Party.{Party}
use Rattle.plain_house.specs.Booked.{Booked, booked, booked_as, booked_in, has_id}
use Rattle.plain_house.specs.Entries.{Dated, book_entries, book_entry, dated_from, period_after}
use Rattle.plain_house.specs.Happened.{books}
use Rattle.plain_house.specs.Inner.Scanned.{booked_of_event}
use Rattle.plain_house.specs.declared.event.Event.{Event}
use Rattle.plain_house.specs.declared.event.Event.TheVariants as event
use Rattle.plain_house.proofs.EntriesLemmas.{flat_map-flat_map}
use Rattle.known_events.specs.Inner.Periods.{periods_of}
use Rattle.operator_book.proofs.FoundLemmas.{Found, IsTestOf, found, none_found}
use Rattle.operator_book.proofs.KeyLemmas.{or_false}

abbrev found_in : Dated → List Booked
found_in dated = flat_map booked_in (book_entry dated.event dated.period)

abbrev books_in : Party → List ℕ → Dated → Bool
books_in operator id dated = books operator id dated.event

-- ---- one event

passes : (operator : Party) (id : List ℕ) (e : Event) (period : ℕ) → books operator id e ≡ true
    → (x : Booked) × (flat_map booked_in (book_entry e period) ≡ x ∷ []) × (has_id operator id x ≡ true)
passes operator id (event.Tariff tariff) period h = absurd (cc)
passes operator id (event.Token token) period h = absurd (cc)
passes operator id (event.Authorised hold) period h = absurd (cc)
passes operator id (event.Released release) period h = absurd (cc)
passes operator id (event.Cdr cdr cost) period h = (_, refl, sym (or_false (same_party cdr.operator operator && same_folded cdr.id id)) ∙ h)
passes operator id (event.Credit cdr amount) period h = (_, refl, sym (or_false (same_party cdr.operator operator && same_folded cdr.id id)) ∙ h)
passes operator id (event.Settled settlement) period h = absurd (cc)
passes operator id (event.Closed closed) period h = absurd (cc)

fails : (operator : Party) (id : List ℕ) (e : Event) (period : ℕ) → books operator id e ≡ false
    → find (has_id operator id) (flat_map booked_in (book_entry e period)) ≡ None
fails operator id (event.Tariff tariff) period h = refl
fails operator id (event.Token token) period h = refl
fails operator id (event.Authorised hold) period h = refl
fails operator id (event.Released release) period h = refl
fails operator id (event.Cdr cdr cost) period h =
    let it : Booked = record { cdr = cdr; amount = pos cost; period = period } in
    ap (λ b. cond b (Some it) None) (sym (or_false (has_id operator id it)) ∙ h)
fails operator id (event.Credit cdr amount) period h =
    let it : Booked = record { cdr = cdr; amount = amount; period = period } in
    ap (λ b. cond b (Some it) None) (sym (or_false (has_id operator id it)) ∙ h)
fails operator id (event.Settled settlement) period h = refl
fails operator id (event.Closed closed) period h = refl

test : (operator : Party) (id : List ℕ) → IsTestOf found_in (has_id operator id) (books_in operator id)
test operator id = record {
  passes = λ dated. passes operator id dated.event dated.period;
  fails = λ dated. fails operator id dated.event dated.period;
}

only_booked : (e : Event) (period : ℕ) (x : Booked) → flat_map booked_in (book_entry e period) ≡ x ∷ [] → booked_of_event e period ≡ Some x
only_booked (event.Tariff tariff) period x h = absurd (cc)
only_booked (event.Token token) period x h = absurd (cc)
only_booked (event.Authorised hold) period x h = absurd (cc)
only_booked (event.Released release) period x h = absurd (cc)
only_booked (event.Cdr cdr cost) period x h = cc
only_booked (event.Credit cdr amount) period x h = cc
only_booked (event.Settled settlement) period x h = absurd (cc)
only_booked (event.Closed closed) period x h = absurd (cc)

-- ---- events and their periods

position_dated : (test : Event → Bool) (period n : ℕ) (events : List Event)
    → position_from (λ dated. test dated.event) n (dated_from period events) ≡ position_from test n events
position_dated test period n [] = refl
position_dated test period n (e ∷ events) = ap (λ o. cond (test e) (Some n) o) (position_dated test (period_after period e) (n + 1) events)

events_dated : (period : ℕ) (events : List Event) → map (λ dated. dated.event) (dated_from period events) ≡ events
events_dated period [] = refl
events_dated period (e ∷ events) = ap (λ later. e ∷ later) (events_dated (period_after period e) events)

booked_dated : (events : List Event) → booked (book_entries events) ≡ flat_map found_in (dated_from 0 events)
booked_dated events = flat_map-flat_map booked_in (λ (dated : Dated). book_entry dated.event dated.period) (dated_from 0 events)

module _ (operator : Party) (id : List ℕ) (events : List Event) (at : ℕ) (here : position (books operator id) events ≡ Some at) where
  it : Found found_in (has_id operator id) (dated_from 0 events) at
  it =
      found found_in (has_id operator id) (books_in operator id) (test operator id) (dated_from 0 events) at
      (position_dated (books operator id) 0 0 events ∙ sym (position_from-zero (books operator id) events) ∙ here)

  event_there : slice_get events at ≡ Some it.item.event
  event_there =
      ap (λ (l : List Event). slice_get l at) (sym (events_dated 0 events)) ∙ slice_get-map (λ (dated : Dated). dated.event) (dated_from 0 events) at
      ∙ ap (option_map (λ (dated : Dated). dated.event)) it.stands

  period_there : slice_get (periods_of events) at ≡ Some it.item.period
  period_there =
      slice_get-map (λ (dated : Dated). dated.period) (dated_from 0 events) at ∙ ap (option_map (λ (dated : Dated). dated.period)) it.stands

  pub event_within : at < length events
  event_within = slice_get_within events at it.item.event event_there

  pub period_within : at < length (periods_of events)
  period_within = slice_get_within (periods_of events) at it.item.period period_there

  -- what that event books in that period
  pub booked_there : (e : Event) → e ≡ get_or events at e → booked_of_event e (get_or (periods_of events) at 0) ≡ booked_as operator id (book_entries events)
  booked_there e is =
      ap₂ booked_of_event (is ∙ get_or_from_slice_get events at it.item.event e event_there) (get_or_from_slice_get (periods_of events) at it.item.period 0 period_there)
      ∙ only_booked it.item.event it.item.period it.one it.only ∙ sym (ap (find (has_id operator id)) (booked_dated events) ∙ it.first)

pub not_booked : (operator : Party) (id : List ℕ) (events : List Event) → position (books operator id) events ≡ None → None ≡ booked_as operator id (book_entries events)
not_booked operator id events h =
    sym (ap (find (has_id operator id)) (booked_dated events)
    ∙ none_found found_in (has_id operator id) (books_in operator id) (test operator id) (dated_from 0 events)
    (position_dated (books operator id) 0 0 events ∙ sym (position_from-zero (books operator id) events) ∙ h))
