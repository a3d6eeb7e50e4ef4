-- Why a Credit CDR that is refused takes nothing back.
use Rattle.std.proofs.Common.{◌≡◌, ◌∙◌, ◌==◌, ℕ, List, Bool, true, false, ◌&&◌, Option, Some, refl, sym, ap, ap₂, find, is_some}
use Rattle.std.specs.Cmp.Lexicographic.{pointwise, same_text}
use Rattle.std.specs.List.{list_any, position}
use Rattle.std.specs.Option.{option_map_or}
use Rattle.ocpi_json.specs.Folded.{folded, same_folded}
use Rattle.ocpi_types.specs.Party.{same_party}
use Rattle.ocpi_types.specs.declared.cdr.Cdr.{Cdr}
use Rattle.ocpi_types.specs.declared.config.Config.{Config}
use Rattle.ocpi_types.specs.declared.party.Party.{Party}
use Rattle.plain_house.specs.Booked.{Booked, booked, booked_as, is_credited}
use Rattle.plain_house.specs.Entries.{book_entries}
use Rattle.plain_house.specs.Happened.{books, takes_back}
use Rattle.plain_house.specs.Posting.{credit_difference, meets_original}
use Rattle.plain_house.specs.declared.entry.BookEntry.{BookEntry}
use Rattle.plain_house.specs.declared.event.Event.{Event}
use Rattle.plain_house.specs.declared.event.Event.TheVariants as event
use Rattle.plain_house.specs.declared.posting.CreditDifference.{CreditDifference}
use Rattle.plain_house.specs.declared.posting.CreditDifference.TheVariants.{Provider, Currency, AboveZero, Cost}
use Rattle.plain_house.proofs.EntriesLemmas.{credited_in_events}
use Rattle.plain_house.proofs.SameScope.{FoldedParty, is_party_of, same_folded_party}
use Rattle.house_causes.specs.First.{first_that}
use Rattle.house_causes.specs.Credits.{cdr_of, credit_differs, credited_already, difference_cause, of_credit}
use Rattle.house_causes.specs.HouseCause.{is_by_event}
use Rattle.house_causes.proofs.DifferenceLemmas.{booked_has_id, differs}
use Rattle.house_causes.proofs.EventLemmas.{IsCaused, booked_by_an_event, caused_then}
use Rattle.house_causes.proofs.FirstLemmas.{has_first, is_found, is_there}

differs_by_event : (credit : Cdr) (original : Booked) (difference : CreditDifference) → is_by_event (difference_cause credit original difference).reason ≡ true
differs_by_event credit original Provider = refl
differs_by_event credit original Currency = refl
differs_by_event credit original AboveZero = refl
differs_by_event credit original Cost = refl

takes_a_cdr : (operator : Party) (id : List ℕ) (e : Event) → takes_back operator id e ≡ true → is_some (cdr_of e) ≡ true
takes_a_cdr operator id (event.Tariff tariff) h = absurd (cc)
takes_a_cdr operator id (event.Token token) h = absurd (cc)
takes_a_cdr operator id (event.Authorised hold) h = absurd (cc)
takes_a_cdr operator id (event.Released release) h = absurd (cc)
takes_a_cdr operator id (event.Cdr cdr cost) h = refl
takes_a_cdr operator id (event.Credit cdr amount) h = refl
takes_a_cdr operator id (event.Settled settlement) h = absurd (cc)
takes_a_cdr operator id (event.Closed period) h = absurd (cc)

-- what credits a CDR depends on the folded texts of its operator and id alone
abbrev credited_by : FoldedParty → List ℕ → List BookEntry → Bool
credited_by operator id books =
    list_any (λ credit. is_party_of operator credit.cdr.operator && option_map_or (λ other. pointwise ◌==◌ (folded other) id) credit.cdr.credit false) (booked books)

pub credited_along : (a b : Party) (id another : List ℕ) (books : List BookEntry) → same_party a b ≡ true → same_folded id another ≡ true
    → is_credited a id books ≡ is_credited b another books
credited_along a b id another books h k =
    ap₂ (λ (operator : FoldedParty) (text : List ℕ). credited_by operator text books) (same_folded_party a b h) (same_text (folded id) (folded another) (sym k))

-- so does what is booked under an id
abbrev booked_by : FoldedParty → List ℕ → List BookEntry → Option Booked
booked_by operator id books = find (λ found. is_party_of operator found.cdr.operator && pointwise ◌==◌ (folded found.cdr.id) id) (booked books)

pub booked_along : (a b : Party) (id another : List ℕ) (books : List BookEntry) → same_party a b ≡ true → same_folded id another ≡ true
    → booked_as a id books ≡ booked_as b another books
booked_along a b id another books h k =
    ap₂ (λ (operator : FoldedParty) (text : List ℕ). booked_by operator text books) (same_folded_party a b h) (same_text (folded id) (folded another) (sym k))

module _ (config : Config) (events : List Event) (credit : Cdr) (id : List ℕ) (named : credit.credit ≡ Some id) where
  module _ (original : Booked) (stands : booked_as credit.operator id (book_entries events) ≡ Some original) where
    pub is_taken_back : is_credited original.cdr.operator original.cdr.id (book_entries events) ≡ true → list_any (takes_back credit.operator id) events ≡ true
    is_taken_back h =
        let keys = booked_has_id credit id events original stands in
        sym (credited_in_events credit.operator id events)
        ∙ sym (credited_along original.cdr.operator credit.operator original.cdr.id id (book_entries events) keys.0 keys.1) ∙ h

    pub credit_named : IsCaused (of_credit events credit)
    credit_named =
        caused_then credit.credit _ (is_there credit.credit id named) (λ it is.
        let same : id ≡ it = cc in
        ap (λ (text : List ℕ). is_some (position (books credit.operator text) events)) (sym same) ∙ booked_by_an_event credit.operator id events original stands)

    pub credited_by_an_event : is_credited original.cdr.operator original.cdr.id (book_entries events) ≡ true → IsCaused (credited_already events credit)
    unfolding credited_already
    credited_by_an_event h =
        caused_then credit.credit _ (is_there credit.credit id named) (λ it is.
        let same : id ≡ it = cc in
        let any : list_any (takes_back credit.operator it) events ≡ true = ap (λ (text : List ℕ). list_any (takes_back credit.operator text) events) (sym same) ∙ is_taken_back h in
        caused_then (first_that (takes_back credit.operator it) events) _ (has_first (takes_back credit.operator it) events any) (λ found which.
        caused_then (cdr_of found.event) _ (takes_a_cdr credit.operator it found.event (is_found (takes_back credit.operator it) events found which).passes) (λ earlier what. refl)))

    pub unlike_its_original : meets_original config credit original ≡ false → IsCaused (credit_differs config events credit)
    unfolding credit_differs
    unlike_its_original h =
        caused_then credit.credit _ (is_there credit.credit id named) (λ it is.
        let same : id ≡ it = cc in
        let booked : booked_as credit.operator it (book_entries events) ≡ Some original = ap (λ (text : List ℕ). booked_as credit.operator text (book_entries events)) (sym same) ∙ stands in
        caused_then (booked_as credit.operator it (book_entries events)) _ (is_there (booked_as credit.operator it (book_entries events)) original booked) (λ found which.
        let one : original ≡ found = cc in
        caused_then (credit_difference config credit found) _
        (differs (credit_difference config credit found) (meets_original config credit found) refl (ap (λ (b : Booked). meets_original config credit b) (sym one) ∙ h))
        (λ difference what. booked_by_an_event credit.operator it events original booked ∙ sym (differs_by_event credit found difference))))
