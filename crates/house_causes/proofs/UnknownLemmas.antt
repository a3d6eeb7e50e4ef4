-- Why a token, a tariff of a CDR or a hold is not known.
use Rattle.std.proofs.Common.{◌≡◌, ◌∙◌, ℕ, ◌+◌, suc, zero, List, [], ◌∷◌, ◌++◌, Bool, true, false, not, ◌&&◌, ◌||◌, if◌then◌else◌, cond, Option, Some, None, refl, sym, ap, ap₂, subst, find, is_some, slice_get, drop, arith}
use Rattle.std.specs.List.{list_any, position}
use Rattle.std.specs.Option.{option_or}
use Rattle.std.proofs.lemmas.Bool.{and_from}
use Rattle.std.proofs.lemmas.Cmp.{nat_list_eq_equiv}
use Rattle.std.proofs.lemmas.List.Folds.{find-append}
use Rattle.ocpi_json.specs.Folded.{folded, same_folded}
use Rattle.ocpi_json.specs.declared.name.Name.{Name}
use Rattle.ocpi_types.specs.Party.{same_party}
use Rattle.ocpi_types.specs.declared.cdr.Cdr.{Cdr}
use Rattle.ocpi_types.specs.declared.party.Party.{Party}
use Rattle.ocpi_types.specs.declared.tariff.Tariff.{Tariff}
use Rattle.cdr_checks.specs.declared.request.Authorize.{Authorize}
use Rattle.cdr_checks.specs.declared.request.Release.{Release}
use Rattle.plain_house.specs.Entries.{account_entries, book_entries}
use Rattle.plain_house.specs.Exposure.{ends_hold, released_hold}
use Rattle.plain_house.specs.Happened.{ends, gives, puts, registers}
use Rattle.plain_house.specs.Inner.Scanned.{event_open_hold, event_open_holds}
use Rattle.plain_house.specs.Tariffs.{lacks_registered}
use Rattle.plain_house.specs.declared.entry.AccountEntry.TheVariants as account
use Rattle.plain_house.specs.declared.event.Event.{Event}
use Rattle.plain_house.specs.declared.event.Event.TheVariants as event
use Rattle.plain_house.specs.declared.event.Hold.{Hold}
use Rattle.plain_house.proofs.EntriesLemmas.{open_in_events, registered_in_events}
use Rattle.operator_book.proofs.KeyLemmas.{both_are, or_false}
use Rattle.known_events.specs.After.{IsFirstGiven}
use Rattle.house_causes.specs.First.{◌>>=◌, Numbered, first_after, first_that}
use Rattle.house_causes.specs.Holds.{by_event, ended, hold_of, unknown_hold, why_ended, why_no_hold, why_not_open}
use Rattle.house_causes.specs.Tokens.{token_of, unknown_token, why_unknown}
use Rattle.house_causes.specs.HouseCause.{cause_at, is_by_event}
use Rattle.house_causes.specs.Versions.{not_registered, not_stored, stored_difference, tariff_at, why_unregistered}
use Rattle.house_causes.specs.declared.house_cause.HouseCause.{HouseCause}
use Rattle.house_causes.specs.declared.house_cause.HouseReason.{HouseReason}
use Rattle.house_causes.specs.declared.house_cause.HouseReason.TheVariants as reason
use Rattle.house_causes.proofs.EventLemmas.{IsCaused, caused_then}
use Rattle.house_causes.proofs.FirstLemmas.{first_at, has_first_after, has_place, is_found, is_found_after, is_there, passes_at, slice_get-suc}

-- ---- tokens

puts_a_token : (ask : Authorize) (e : Event) → puts ask e ≡ true → is_some (token_of e) ≡ true
puts_a_token ask (event.Tariff tariff) h = absurd (cc)
puts_a_token ask (event.Token token) h = refl
puts_a_token ask (event.Authorised hold) h = absurd (cc)
puts_a_token ask (event.Released release) h = absurd (cc)
puts_a_token ask (event.Cdr cdr cost) h = absurd (cc)
puts_a_token ask (event.Credit cdr amount) h = absurd (cc)
puts_a_token ask (event.Settled settlement) h = absurd (cc)
puts_a_token ask (event.Closed period) h = absurd (cc)

pub token_unknown : (events : List Event) (ask : Authorize) → IsCaused (unknown_token events ask)
unfolding unknown_token
token_unknown events ask = by (first_that (puts ask) events) refl
  where
    by : (found : Option Numbered) → first_that (puts ask) events ≡ found → IsCaused (why_unknown ask found)
    by None is = refl
    by (Some put) is = caused_then (token_of put.event) _ (puts_a_token ask put.event (is_found (puts ask) events put is).passes) (λ token which. refl)

-- ---- tariffs of a CDR

why_unregistered_is : (events : List Event) (cdr : Cdr) (number : ℕ) (tariff : Tariff) → IsCaused (Some (why_unregistered events cdr number tariff))
why_unregistered_is events cdr number tariff = by (same_party tariff.operator cdr.operator) (stored_difference events tariff)
  where
    by : (same : Bool) (difference : Option (Name × ℕ))
        → IsCaused (Some (if same then not_stored number tariff difference else cause_at (tariff_at number) (reason.OfAnotherOperator tariff.operator cdr.operator)))
    by true None = refl
    by true (Some found) = refl
    by false difference = refl

pub tariff_unregistered : (events : List Event) (cdr : Cdr) → lacks_registered cdr (book_entries events) ≡ true → IsCaused (not_registered events cdr)
unfolding not_registered
tariff_unregistered events cdr h =
    let test : Tariff → Bool = λ tariff. not (list_any (registers cdr.operator tariff) events) in
    let same : lacks_registered cdr (book_entries events) ≡ list_any test cdr.tariffs = λ i. list_any (λ tariff. not (registered_in_events cdr.operator events tariff i)) cdr.tariffs in
    caused_then (position test cdr.tariffs) _ (has_place test cdr.tariffs (sym same ∙ h)) (λ number is.
    let it = passes_at test cdr.tariffs number is in
    caused_then (slice_get cdr.tariffs number) _ (is_there (slice_get cdr.tariffs number) it.item it.stands) (λ tariff which. why_unregistered_is events cdr number tariff))

-- ---- holds

either : {A : Type 0} (one other : Option A) → is_some other ≡ true → is_some (option_or one other) ≡ true
either None other h = h
either (Some x) other h = refl

-- a hold that no later event ends is open
pub left_open : (test : Hold → Bool) (hold : Hold) (events : List Event) (at : ℕ) → slice_get events at ≡ Some (event.Authorised hold)
    → list_any (ends hold) (drop (at + 1) events) ≡ false → test hold ≡ true → is_some (find test (event_open_holds events)) ≡ true
left_open test hold [] at stands none good = absurd (cc)
left_open test hold (e ∷ later) zero stands none good =
    let is : e ≡ event.Authorised hold = cc in
    ap (λ (it : Event). is_some (find test (event_open_hold it later ++ event_open_holds later))) is
    ∙ ap (λ (b : Bool). is_some (find test ((if b then [] else hold ∷ []) ++ event_open_holds later))) none
    ∙ ap (λ b. is_some (cond b (Some hold) (find test (event_open_holds later)))) good
left_open test hold (e ∷ later) (suc at) stands none good =
    let further : suc (at + 1) ≡ suc at + 1 = omega arith in
    ap is_some (find-append test (event_open_hold e later) (event_open_holds later))
    ∙ either (find test (event_open_hold e later)) (find test (event_open_holds later))
    (left_open test hold later at (sym (slice_get-suc e later at) ∙ stands) (ap (λ n. list_any (ends hold) (drop n (e ∷ later))) further ∙ none) good)

ends_a_hold : (reference : List ℕ) (hold : Hold) (e : Event) → ends hold e ≡ true → is_some (why_ended reference e) ≡ true
ends_a_hold reference hold (event.Tariff tariff) h = absurd (cc)
ends_a_hold reference hold (event.Token token) h = absurd (cc)
ends_a_hold reference hold (event.Authorised another) h = absurd (cc)
ends_a_hold reference hold (event.Released release) h = refl
ends_a_hold reference hold (event.Cdr cdr cost) h = refl
ends_a_hold reference hold (event.Credit cdr amount) h = absurd (cc)
ends_a_hold reference hold (event.Settled settlement) h = absurd (cc)
ends_a_hold reference hold (event.Closed period) h = absurd (cc)

ended_by_event : (reference : List ℕ) (e : Event) (why : HouseReason) → why_ended reference e ≡ Some why → is_by_event why ≡ true
ended_by_event reference (event.Tariff tariff) why h = absurd (cc)
ended_by_event reference (event.Token token) why h = absurd (cc)
ended_by_event reference (event.Authorised another) why h = absurd (cc)
ended_by_event reference (event.Released release) why h = let same : reason.ReleasedAlready reference ≡ why = cc in ap is_by_event (sym same)
ended_by_event reference (event.Cdr cdr cost) why h = let same : reason.UsedUp reference cdr.id ≡ why = cc in ap is_by_event (sym same)
ended_by_event reference (event.Credit cdr amount) why h = absurd (cc)
ended_by_event reference (event.Settled settlement) why h = absurd (cc)
ended_by_event reference (event.Closed period) why h = absurd (cc)

-- the event gives the hold, of the release's provider and reference
pub record Given (release : Release) (e : Event) : Type 0 where
  pub hold : Hold
  pub is : e ≡ event.Authorised hold
  pub provider : same_party hold.provider release.provider ≡ true
  pub reference : same_folded hold.reference release.reference ≡ true

pub given : (release : Release) (e : Event) → gives release e ≡ true → Given release e
given release (event.Tariff tariff) h = absurd (cc)
given release (event.Token token) h = absurd (cc)
given release (event.Authorised hold) h =
    let keys = both_are (same_party hold.provider release.provider) (same_folded hold.reference release.reference)
    (sym (or_false (same_party hold.provider release.provider && same_folded hold.reference release.reference)) ∙ h) in
    record { hold = hold; is = refl; provider = keys.0; reference = keys.1 }
given release (event.Released other) h = absurd (cc)
given release (event.Cdr cdr cost) h = absurd (cc)
given release (event.Credit cdr amount) h = absurd (cc)
given release (event.Settled settlement) h = absurd (cc)
given release (event.Closed period) h = absurd (cc)

pub party_turned : (a b : Party) → same_party a b ≡ true → same_party b a ≡ true
party_turned a b h =
    ap₂ (λ (x y : Bool). x && y) (nat_list_eq_equiv.symm (folded b.country_code) (folded a.country_code)) (nat_list_eq_equiv.symm (folded b.party_id) (folded a.party_id)) ∙ h

pub folded_turned : (a b : List ℕ) → same_folded a b ≡ true → same_folded b a ≡ true
folded_turned a b h = nat_list_eq_equiv.symm (folded b) (folded a) ∙ h

module _ (events : List Event) (release : Release) (unknown : released_hold (account_entries events) release ≡ None) where
  module _ (at : ℕ) (hold : Hold) (stands : slice_get events at ≡ Some (event.Authorised hold))
      (provider : same_party hold.provider release.provider ≡ true) (reference : same_folded hold.reference release.reference ≡ true) where
    ends_it : same_party hold.operator release.operator ≡ true → ends_hold hold (account.Release release) ≡ true
    ends_it operator =
        and_from (same_party release.operator hold.operator && same_party release.provider hold.provider) (same_folded release.reference hold.reference)
        (and_from (same_party release.operator hold.operator) (same_party release.provider hold.provider) (party_turned hold.operator release.operator operator) (party_turned hold.provider release.provider provider))
        (folded_turned hold.reference release.reference reference)

    is_ended : same_party hold.operator release.operator ≡ true → list_any (ends hold) (drop (at + 1) events) ≡ true
    is_ended operator = by (list_any (ends hold) (drop (at + 1) events)) refl
      where
        by : (b : Bool) → list_any (ends hold) (drop (at + 1) events) ≡ b → b ≡ true
        by true is = refl
        by false is =
            let is_open : is_some (find (λ held. ends_hold held (account.Release release)) (event_open_holds events)) ≡ true =
            left_open (λ held. ends_hold held (account.Release release)) hold events at stands is (ends_it operator) in
            let none : find (λ held. ends_hold held (account.Release release)) (event_open_holds events) ≡ None =
            ap (find (λ held. ends_hold held (account.Release release))) (sym (open_in_events 0 events)) ∙ unknown in
            sym (ap is_some none) ∙ is_open

    why_given : IsCaused (why_not_open events release at hold)
    why_given = by (same_party hold.operator release.operator) refl
      where
        by : (same : Bool) → same_party hold.operator release.operator ≡ same
            → IsCaused (if same then ended events release at hold else Some (by_event (reason.GivenToAnother release.reference hold.operator) at))
        by true is =
            caused_then (first_after at (ends hold) events) _ (has_first_after (ends hold) events at (is_ended is))
            (λ it which. caused_then (why_ended release.reference it.event) _ (ends_a_hold release.reference hold it.event (is_found_after (ends hold) events at it which).passes) (λ why what. sym (ended_by_event release.reference it.event why what)))
        by false is = refl

  pub hold_unknown : IsCaused (unknown_hold events release)
  unfolding unknown_hold
  hold_unknown = by (first_that (gives release) events) refl
    where
      by : (found : Option Numbered) → first_that (gives release) events ≡ found → IsCaused (why_no_hold events release found)
      by None is = refl
      by (Some first) is =
          let there = is_found (gives release) events first is in
          let it = given release first.event there.passes in
          subst (λ (e : Event). IsCaused (hold_of e >>= λ hold. why_not_open events release first.at hold)) (sym it.is)
          (why_given first.at it.hold (there.stands ∙ ap (λ (e : Event). Some e) it.is) it.provider it.reference)

-- the cause of a release by the hold that the first event of its provider and reference gives
pub told_by : (events : List Event) (release : Release) (at : ℕ) (hold : Hold) → position (gives release) events ≡ Some at
    → slice_get events at ≡ Some (event.Authorised hold) → (told : Option HouseCause) → (IsFirstGiven events release at hold → told ≡ why_not_open events release at hold)
    → told ≡ unknown_hold events release
unfolding unknown_hold
told_by events release at hold first stands told is =
    let it = passes_at (gives release) events at first in
    let item : Some it.item ≡ Some (event.Authorised hold) = sym it.stands ∙ stands in
    let same : it.item ≡ event.Authorised hold = cc in
    is (record { keys = ap (gives release) (sym same) ∙ it.passes; first = first })
    ∙ sym (ap (why_no_hold events release) (first_at (gives release) events at (event.Authorised hold) first stands))
