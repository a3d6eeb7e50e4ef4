-- What is stored or booked with other content differs in a member.
use Rattle.std.proofs.Common.{◌≡◌, ◌∙◌, ℕ, List, [], ◌∷◌, Bool, true, false, ◌&&◌, cond, Option, Some, None, refl, sym, ap, find, flat_map, is_none, is_some}
use Rattle.std.specs.List.{position}
use Rattle.std.specs.Ordering.{int_eq}
use Rattle.std.proofs.lemmas.Iterator.Adapters.{position_from-zero}
use Rattle.ocpi_json.specs.Folded.{same_folded}
use Rattle.ocpi_json.specs.declared.name.Name.{Name}
use Rattle.ocpi_types.specs.ContentDifference.{CdrsWithoutDifferenceAreSame, TariffsWithoutDifferenceAreSame, difference_of_cdrs, difference_of_tariffs}
use Rattle.ocpi_types.specs.Party.{same_party}
use Rattle.ocpi_types.specs.SameCdr.{same_cdr}
use Rattle.ocpi_types.specs.SameTariff.{same_tariff}
use Rattle.ocpi_types.specs.declared.cdr.Cdr.{Cdr}
use Rattle.ocpi_types.specs.declared.tariff.Tariff.{Tariff}
use Rattle.plain_house.specs.Booked.{Booked, booked, booked_as, has_id}
use Rattle.plain_house.specs.Entries.{book_entries}
use Rattle.plain_house.specs.Happened.{stores}
use Rattle.plain_house.specs.Inner.Scanned.{version_of_event}
use Rattle.plain_house.specs.Tariffs.{same_version, stored_version}
use Rattle.plain_house.specs.declared.event.Event.{Event}
use Rattle.plain_house.specs.declared.event.Event.TheVariants as event
use Rattle.plain_house.proofs.EntriesLemmas.{versions_in_events}
use Rattle.operator_book.proofs.FoundLemmas.{IsTestOf, found, none_found}
use Rattle.operator_book.proofs.KeyLemmas.{both_are, or_false}
use Rattle.house_causes.specs.First.{◌>>=◌, Numbered}
use Rattle.house_causes.specs.Bookings.{booking_conflict}
use Rattle.house_causes.specs.Versions.{stored_difference, tariff_of, version_conflict}
use Rattle.house_causes.proofs.EventLemmas.{IsCaused, booked_by_an_event, caused_then}
use Rattle.house_causes.proofs.FirstLemmas.{first_at, found_then, is_there}

pub find_passes : {A : Type 0} (test : A → Bool) (xs : List A) (x : A) → find test xs ≡ Some x → test x ≡ true
find_passes test [] x h = absurd (cc)
find_passes test (y ∷ xs) x h = by (test y) refl h (find_passes test xs x)
  where
    by : (b : Bool) → test y ≡ b → cond b (Some y) (find test xs) ≡ Some x → (find test xs ≡ Some x → test x ≡ true) → test x ≡ true
    by true good here rest = let same : y ≡ x = cc in ap test (sym same) ∙ good
    by false bad later rest = rest later

pub differs : {A : Type 0} (o : Option A) (same : Bool) → is_none o ≡ same → same ≡ false → is_some o ≡ true
differs None same h other = absurd (let e : true ≡ false = h ∙ other in cc)
differs (Some x) same h other = refl

-- ---- booked CDRs

pub booked_has_id : (cdr : Cdr) (id : List ℕ) (events : List Event) (found : Booked) → booked_as cdr.operator id (book_entries events) ≡ Some found
    → (same_party found.cdr.operator cdr.operator ≡ true) × (same_folded found.cdr.id id ≡ true)
booked_has_id cdr id events found h =
    both_are (same_party found.cdr.operator cdr.operator) (same_folded found.cdr.id id)
    (find_passes (has_id cdr.operator id) (booked (book_entries events)) found h)

pub booked_otherwise : CdrsWithoutDifferenceAreSame → (events : List Event) (cdr : Cdr) (found : Booked)
    → booked_as cdr.operator cdr.id (book_entries events) ≡ Some found → same_cdr found.cdr cdr ≡ false → IsCaused (booking_conflict events cdr)
unfolding booking_conflict
booked_otherwise law events cdr found h other =
    caused_then (booked_as cdr.operator cdr.id (book_entries events)) _ (is_there (booked_as cdr.operator cdr.id (book_entries events)) found h) (λ it is.
    let same : found ≡ it = cc in
    let keys = booked_has_id cdr cdr.id events it is in
    caused_then (difference_of_cdrs it.cdr cdr) _
    (differs (difference_of_cdrs it.cdr cdr) (same_cdr it.cdr cdr) (law it.cdr cdr keys.0 keys.1) (ap (λ (b : Booked). same_cdr b.cdr cdr) (sym same) ∙ other))
    (λ differing which. booked_by_an_event cdr.operator cdr.id events found h))

-- ---- stored versions

version_passes : (tariff : Tariff) (e : Event) → stores tariff e ≡ true
    → (x : Tariff) × (version_of_event e ≡ x ∷ []) × (same_version x tariff ≡ true)
version_passes tariff (event.Tariff version) h = (version, refl, sym (or_false (same_version version tariff)) ∙ h)
version_passes tariff (event.Token token) h = absurd (cc)
version_passes tariff (event.Authorised hold) h = absurd (cc)
version_passes tariff (event.Released release) h = absurd (cc)
version_passes tariff (event.Cdr cdr cost) h = absurd (cc)
version_passes tariff (event.Credit cdr amount) h = absurd (cc)
version_passes tariff (event.Settled settlement) h = absurd (cc)
version_passes tariff (event.Closed period) h = absurd (cc)

version_fails : (tariff : Tariff) (e : Event) → stores tariff e ≡ false → find (λ version. same_version version tariff) (version_of_event e) ≡ None
version_fails tariff (event.Tariff version) h = ap (λ b. cond b (Some version) None) (sym (or_false (same_version version tariff)) ∙ h)
version_fails tariff (event.Token token) h = refl
version_fails tariff (event.Authorised hold) h = refl
version_fails tariff (event.Released release) h = refl
version_fails tariff (event.Cdr cdr cost) h = refl
version_fails tariff (event.Credit cdr amount) h = refl
version_fails tariff (event.Settled settlement) h = refl
version_fails tariff (event.Closed period) h = refl

pub version_test : (tariff : Tariff) → IsTestOf version_of_event (λ version. same_version version tariff) (stores tariff)
version_test tariff = record { passes = version_passes tariff; fails = version_fails tariff }

pub only_version : (e : Event) (version : Tariff) → version_of_event e ≡ version ∷ [] → tariff_of e ≡ Some version
only_version (event.Tariff tariff) version h = cc
only_version (event.Token token) version h = absurd (cc)
only_version (event.Authorised hold) version h = absurd (cc)
only_version (event.Released release) version h = absurd (cc)
only_version (event.Cdr cdr cost) version h = absurd (cc)
only_version (event.Credit cdr amount) version h = absurd (cc)
only_version (event.Settled settlement) version h = absurd (cc)
only_version (event.Closed period) version h = absurd (cc)

-- the first member in which the tariff differs from one that the event of this number stores
abbrev pub difference_from : Tariff → ℕ → Tariff → Option (Name × ℕ)
difference_from tariff at stored = do
  differing ← difference_of_tariffs stored tariff
  Some (differing, at)

abbrev pub difference_by : Tariff → Numbered → Option (Name × ℕ)
difference_by tariff found = do
  stored ← tariff_of found.event
  difference_from tariff found.at stored

module _ (law : TariffsWithoutDifferenceAreSame) (events : List Event) (tariff stored : Tariff)
    (stands : stored_version tariff (book_entries events) ≡ Some stored) (other : same_tariff stored tariff ≡ false) where
  stored_in_events : find (λ version. same_version version tariff) (flat_map version_of_event events) ≡ Some stored
  stored_in_events = ap (find (λ (version : Tariff). same_version version tariff)) (sym (versions_in_events events)) ∙ stands

  has_key : same_version stored tariff ≡ true
  has_key = find_passes (λ (version : Tariff). same_version version tariff) (flat_map version_of_event events) stored stored_in_events

  differs_in_a_member : is_some (difference_of_tariffs stored tariff) ≡ true
  differs_in_a_member =
      let parts = both_are (same_party stored.operator tariff.operator && same_folded stored.id tariff.id) (int_eq stored.last_updated.nanosecond tariff.last_updated.nanosecond) has_key in
      let keys = both_are (same_party stored.operator tariff.operator) (same_folded stored.id tariff.id) parts.0 in
      differs (difference_of_tariffs stored tariff) (same_tariff stored tariff) (law stored tariff keys.0 keys.1 parts.1) other

  found_at : (at : ℕ) → position (stores tariff) events ≡ Some at → is_some (stored_difference events tariff) ≡ true
  found_at at is =
      let it = found version_of_event (λ (version : Tariff). same_version version tariff) (stores tariff) (version_test tariff) events at (sym (position_from-zero (stores tariff) events) ∙ is) in
      let same : it.one ≡ stored = (let e : Some it.one ≡ Some stored = sym it.first ∙ stored_in_events in cc) in
      let first : Numbered = record { at = at; event = it.item } in
      ap (λ (o : Option Numbered). is_some (o >>= difference_by tariff)) (first_at (stores tariff) events at it.item is it.stands)
      ∙ ap (λ (o : Option Tariff). is_some (o >>= difference_from tariff at)) (only_version it.item it.one it.only ∙ ap (λ (version : Tariff). Some version) same)
      ∙ found_then (difference_of_tariffs stored tariff) _ differs_in_a_member (λ differing which. refl)

  pub stored_otherwise : IsCaused (version_conflict events tariff)
  unfolding version_conflict
  stored_otherwise = caused_then (stored_difference events tariff) _ (by (position (stores tariff) events) refl) (λ which is. refl)
    where
      by : (place : Option ℕ) → position (stores tariff) events ≡ place → is_some (stored_difference events tariff) ≡ true
      by None is = absurd (
          let e : None ≡ Some stored = sym (none_found version_of_event (λ (version : Tariff). same_version version tariff) (stores tariff) (version_test tariff) events (sym (position_from-zero (stores tariff) events) ∙ is)) ∙ stored_in_events in
          cc)
      by (Some at) is = found_at at is
