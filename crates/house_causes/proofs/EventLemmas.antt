-- A refusal has a cause, which names an event if and only if an event gives its reason.
use Rattle.std.proofs.Common.{◌≡◌, ◌∙◌, ℕ, List, true, Option, Some, None, refl, is_some, option_map}
use Rattle.std.specs.List.{position}
use Rattle.ocpi_types.specs.declared.party.Party.{Party}
use Rattle.plain_house.specs.Booked.{Booked, booked_as}
use Rattle.plain_house.specs.Entries.{book_entries}
use Rattle.plain_house.specs.Happened.{books}
use Rattle.plain_house.specs.declared.event.Event.{Event}
use Rattle.known_events.proofs.BookedLemmas.{not_booked}
use Rattle.house_causes.specs.First.{◌>>=◌}
use Rattle.house_causes.specs.HouseCause.{is_by_event}
use Rattle.house_causes.specs.declared.house_cause.HouseCause.{HouseCause}

abbrev pub IsCaused : Option HouseCause → Type 0
IsCaused None = ⊥
IsCaused (Some cause) = is_some cause.event ≡ is_by_event cause.reason

-- what is found of what was found is a cause if each is
pub caused_then : {A : Type 0} (o : Option A) (f : A → Option HouseCause) → is_some o ≡ true → ((x : A) → o ≡ Some x → IsCaused (f x)) → IsCaused (o >>= f)
caused_then None f given each = absurd (cc)
caused_then (Some x) f given each = each x refl

pub caused_of : {A : Type 0} (f : A → HouseCause) (o : Option A) → is_some o ≡ true → ((x : A) → is_some (f x).event ≡ is_by_event (f x).reason)
    → IsCaused (option_map f o)
caused_of f None given each = absurd (cc)
caused_of f (Some x) given each = each x

pub is_caused_there : (o : Option HouseCause) → IsCaused o → is_some o ≡ true
is_caused_there None none = absurd none
is_caused_there (Some cause) its = refl

-- a CDR that is booked is booked by an event
pub booked_by_an_event : (operator : Party) (id : List ℕ) (events : List Event) (found : Booked) → booked_as operator id (book_entries events) ≡ Some found
    → is_some (position (books operator id) events) ≡ true
booked_by_an_event operator id events found stands = by (position (books operator id) events) refl
  where
    by : (place : Option ℕ) → position (books operator id) events ≡ place → is_some place ≡ true
    by (Some at) is = refl
    by None is = absurd (let e : None ≡ Some found = not_booked operator id events is ∙ stands in cc)
