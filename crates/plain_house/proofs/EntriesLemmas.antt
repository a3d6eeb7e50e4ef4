-- What is found in the entries of events is found in the events themselves.
use Rattle.std.proofs.Common.{◌≡◌, ℕ, ◌+◌, List, [], ◌∷◌, ◌++◌, Bool, true, false, ◌||◌, ◌&&◌, if◌then◌else◌, cond, refl, sym, ap, ap₂, ◌∙◌, flat_map, count_by}
use Rattle.std.specs.List.{list_any}
use Rattle.std.proofs.lemmas.List.Concat.{flat_map-append}
use Rattle.std.proofs.lemmas.List.Folds.{list_any-append}
use Rattle.std.proofs.lemmas.List.Sums.{sum_by-append}
use Rattle.ocpi_types.specs.declared.party.Party.{Party}
use Rattle.ocpi_types.specs.declared.tariff.Tariff.{Tariff}
use Rattle.ocpi_types.specs.Party.{same_party}
use Rattle.ocpi_types.specs.SameTariff.{same_tariff}
use Rattle.plain_house.specs.declared.event.Event.{Event}
use Rattle.plain_house.specs.declared.event.Event.TheVariants as event
use Rattle.plain_house.specs.declared.event.Hold.{Hold}
use Rattle.plain_house.specs.declared.entry.Charge.{Charge}
use Rattle.plain_house.specs.Booked.{booked_in, credits, is_credited}
use Rattle.plain_house.specs.Entries.{Dated, dated_from, period_after, book_entry, account_entry, book_entries, account_entries_from, account_entries}
use Rattle.plain_house.specs.Exposure.{ends_debt, ends_hold, open_holds}
use Rattle.plain_house.specs.House.{is_hold_of}
use Rattle.cdr_checks.specs.declared.request.Settlement.{Settlement}
use Rattle.plain_house.specs.Settlements.{is_settled, settles_same}
use Rattle.plain_house.specs.Full.{is_cdr_of, is_entry_of, is_version_of}
use Rattle.plain_house.specs.Tariffs.{version_in, tariff_versions, is_registered}
use Rattle.plain_house.specs.Tokens.{token_in, tokens}
use Rattle.plain_house.specs.Happened.{ends, registers, settles, takes_back}
use Rattle.plain_house.specs.Inner.Scanned.{version_of_event, event_is_version_of, event_is_cdr_of, event_is_entry_of, event_is_hold_of, token_of_event, event_ends_debt, event_open_holds}

pub or-false : (b : Bool) → (b || false) ≡ b
or-false true = refl
or-false false = refl

-- an event has one entry at most
pub ruleset one_entry = or-false

-- ---- in general

pub flat_map-flat_map : {A B C : Type 0} (g : B → List C) (f : A → List B) (xs : List A) → flat_map g (flat_map f xs) ≡ flat_map (λ x. flat_map g (f x)) xs
flat_map-flat_map g f [] = refl
flat_map-flat_map g f (x ∷ xs) = flat_map-append g (f x) (flat_map f xs) ∙ ap (λ l. flat_map g (f x) ++ l) (flat_map-flat_map g f xs)

pub any_dated : {E : Type 0} (f : Event → ℕ → List E) (p : E → Bool) (q : Event → Bool) → ((e : Event) (n : ℕ) → list_any p (f e n) ≡ q e)
    → (n : ℕ) (es : List Event) → list_any p (flat_map (λ d. f d.event d.period) (dated_from n es)) ≡ list_any q es
any_dated f p q same n [] = refl
any_dated f p q same n (e ∷ es) =
    let rest = flat_map (λ (d : Dated). f d.event d.period) (dated_from (period_after n e) es) in
    list_any-append p (f e n) rest ∙ ap (λ b. b || list_any p rest) (same e n) ∙ ap (λ b. q e || b) (any_dated f p q same (period_after n e) es)

pub count_dated : {E : Type 0} (f : Event → ℕ → List E) (p : E → Bool) (q : Event → Bool) → ((e : Event) (n : ℕ) → count_by p (f e n) ≡ count_by q (e ∷ []))
    → (n : ℕ) (es : List Event) → count_by p (flat_map (λ d. f d.event d.period) (dated_from n es)) ≡ count_by q es
count_dated f p q same n [] = refl
count_dated f p q same n (e ∷ es) =
    let rest = flat_map (λ (d : Dated). f d.event d.period) (dated_from (period_after n e) es) in
    sum_by-append (λ x. cond (p x) 1 0) (f e n) rest ∙ ap₂ (λ a b. a + b) (same e n) (count_dated f p q same (period_after n e) es)
    ∙ sym (sum_by-append (λ x. cond (q x) 1 0) (e ∷ []) es)

pub flat_dated : {E : Type 0} (f : Event → ℕ → List E) (g : Event → List E) → ((e : Event) (n : ℕ) → f e n ≡ g e)
    → (n : ℕ) (es : List Event) → flat_map (λ d. f d.event d.period) (dated_from n es) ≡ flat_map g es
flat_dated f g same n [] = refl
flat_dated f g same n (e ∷ es) = ap₂ (λ a b. a ++ b) (same e n) (flat_dated f g same (period_after n e) es)

-- ---- books

credits_one : (operator : Party) (id : List ℕ) (e : Event) (n : ℕ) → list_any (credits operator id) (flat_map booked_in (book_entry e n)) ≡ takes_back operator id e
credits_one operator id (event.Tariff tariff) n = refl
credits_one operator id (event.Token token) n = refl
credits_one operator id (event.Authorised hold) n = refl
credits_one operator id (event.Released release) n = refl
credits_one operator id (event.Cdr cdr cost) n = refl
credits_one operator id (event.Credit cdr amount) n = refl
credits_one operator id (event.Settled settlement) n = refl
credits_one operator id (event.Closed period) n = refl

pub credited_in_events : (operator : Party) (id : List ℕ) (es : List Event) → is_credited operator id (book_entries es) ≡ list_any (takes_back operator id) es
credited_in_events operator id es =
    ap (list_any (credits operator id)) (flat_map-flat_map booked_in (λ (d : Dated). book_entry d.event d.period) (dated_from 0 es))
    ∙ any_dated (λ e n. flat_map booked_in (book_entry e n)) (credits operator id) (takes_back operator id) (credits_one operator id) 0 es

pub version_one : (e : Event) (n : ℕ) → flat_map version_in (book_entry e n) ≡ version_of_event e
version_one (event.Tariff tariff) n = refl
version_one (event.Token token) n = refl
version_one (event.Authorised hold) n = refl
version_one (event.Released release) n = refl
version_one (event.Cdr cdr cost) n = refl
version_one (event.Credit cdr amount) n = refl
version_one (event.Settled settlement) n = refl
version_one (event.Closed period) n = refl

pub versions_in_events : (es : List Event) → tariff_versions (book_entries es) ≡ flat_map version_of_event es
versions_in_events es =
    flat_map-flat_map version_in (λ (d : Dated). book_entry d.event d.period) (dated_from 0 es)
    ∙ flat_dated (λ e n. flat_map version_in (book_entry e n)) version_of_event version_one 0 es

registers_one : (operator : Party) (tariff : Tariff) (e : Event) (n : ℕ)
    → list_any (λ version. same_party version.operator operator && same_tariff version tariff) (flat_map version_in (book_entry e n)) ≡ registers operator tariff e
registers_one operator tariff (event.Tariff version) n = refl
registers_one operator tariff (event.Token token) n = refl
registers_one operator tariff (event.Authorised hold) n = refl
registers_one operator tariff (event.Released release) n = refl
registers_one operator tariff (event.Cdr cdr cost) n = refl
registers_one operator tariff (event.Credit cdr amount) n = refl
registers_one operator tariff (event.Settled settlement) n = refl
registers_one operator tariff (event.Closed period) n = refl

pub registered_in_events : (operator : Party) (es : List Event) (tariff : Tariff) → is_registered operator (book_entries es) tariff ≡ list_any (registers operator tariff) es
registered_in_events operator es tariff =
    let p : Tariff → Bool = λ version. same_party version.operator operator && same_tariff version tariff in
    ap (list_any p) (flat_map-flat_map version_in (λ (d : Dated). book_entry d.event d.period) (dated_from 0 es))
    ∙ any_dated (λ e n. flat_map version_in (book_entry e n)) p (registers operator tariff) (registers_one operator tariff) 0 es

cdr_one : (operator : Party) (e : Event) (n : ℕ) → count_by (is_cdr_of operator) (book_entry e n) ≡ count_by (event_is_cdr_of operator) (e ∷ [])
cdr_one operator (event.Tariff tariff) n = refl
cdr_one operator (event.Token token) n = refl
cdr_one operator (event.Authorised hold) n = refl
cdr_one operator (event.Released release) n = refl
cdr_one operator (event.Cdr cdr cost) n = refl
cdr_one operator (event.Credit cdr amount) n = refl
cdr_one operator (event.Settled settlement) n = refl
cdr_one operator (event.Closed period) n = refl

pub cdrs_in_events : (operator : Party) (es : List Event) → count_by (is_cdr_of operator) (book_entries es) ≡ count_by (event_is_cdr_of operator) es
cdrs_in_events operator es = count_dated book_entry (is_cdr_of operator) (event_is_cdr_of operator) (cdr_one operator) 0 es

version_of_one : (operator : Party) (e : Event) (n : ℕ) → count_by (is_version_of operator) (book_entry e n) ≡ count_by (event_is_version_of operator) (e ∷ [])
version_of_one operator (event.Tariff tariff) n = refl
version_of_one operator (event.Token token) n = refl
version_of_one operator (event.Authorised hold) n = refl
version_of_one operator (event.Released release) n = refl
version_of_one operator (event.Cdr cdr cost) n = refl
version_of_one operator (event.Credit cdr amount) n = refl
version_of_one operator (event.Settled settlement) n = refl
version_of_one operator (event.Closed period) n = refl

pub versions_of_in_events : (operator : Party) (es : List Event) → count_by (is_version_of operator) (book_entries es) ≡ count_by (event_is_version_of operator) es
versions_of_in_events operator es =
    count_dated book_entry (is_version_of operator) (event_is_version_of operator) (version_of_one operator) 0 es

-- ---- accounts

entry_of_one : (provider : Party) (e : Event) (n : ℕ) → count_by (is_entry_of provider) (account_entry e n) ≡ count_by (event_is_entry_of provider) (e ∷ [])
entry_of_one provider (event.Tariff tariff) n = refl
entry_of_one provider (event.Token token) n = refl
entry_of_one provider (event.Authorised hold) n = refl
entry_of_one provider (event.Released release) n = refl
entry_of_one provider (event.Cdr cdr cost) n = refl
entry_of_one provider (event.Credit cdr amount) n = refl
entry_of_one provider (event.Settled settlement) n = refl
entry_of_one provider (event.Closed period) n = refl

pub entries_of_in_events : (provider : Party) (es : List Event) → count_by (is_entry_of provider) (account_entries es) ≡ count_by (event_is_entry_of provider) es
entries_of_in_events provider es =
    count_dated account_entry (is_entry_of provider) (event_is_entry_of provider) (entry_of_one provider) 0 es

hold_of_one : (provider : Party) (e : Event) (n : ℕ) → count_by (is_hold_of provider) (account_entry e n) ≡ count_by (event_is_hold_of provider) (e ∷ [])
hold_of_one provider (event.Tariff tariff) n = refl
hold_of_one provider (event.Token token) n = refl
hold_of_one provider (event.Authorised hold) n = refl
hold_of_one provider (event.Released release) n = refl
hold_of_one provider (event.Cdr cdr cost) n = refl
hold_of_one provider (event.Credit cdr amount) n = refl
hold_of_one provider (event.Settled settlement) n = refl
hold_of_one provider (event.Closed period) n = refl

pub holds_of_in_events : (provider : Party) (es : List Event) → count_by (is_hold_of provider) (account_entries es) ≡ count_by (event_is_hold_of provider) es
holds_of_in_events provider es =
    count_dated account_entry (is_hold_of provider) (event_is_hold_of provider) (hold_of_one provider) 0 es

token_one : (e : Event) (n : ℕ) → flat_map token_in (account_entry e n) ≡ token_of_event e
token_one (event.Tariff tariff) n = refl
token_one (event.Token token) n = refl
token_one (event.Authorised hold) n = refl
token_one (event.Released release) n = refl
token_one (event.Cdr cdr cost) n = refl
token_one (event.Credit cdr amount) n = refl
token_one (event.Settled settlement) n = refl
token_one (event.Closed period) n = refl

pub tokens_in_events : (es : List Event) → tokens (account_entries es) ≡ flat_map token_of_event es
tokens_in_events es =
    flat_map-flat_map token_in (λ (d : Dated). account_entry d.event d.period) (dated_from 0 es)
    ∙ flat_dated (λ e n. flat_map token_in (account_entry e n)) token_of_event token_one 0 es

ends_hold_one : (hold : Hold) (e : Event) (n : ℕ) → list_any (ends_hold hold) (account_entry e n) ≡ ends hold e
ends_hold_one hold (event.Tariff tariff) n = refl
ends_hold_one hold (event.Token token) n = refl
ends_hold_one hold (event.Authorised another) n = refl
ends_hold_one hold (event.Released release) n = refl
ends_hold_one hold (event.Cdr cdr cost) n = refl
ends_hold_one hold (event.Credit cdr amount) n = refl
ends_hold_one hold (event.Settled settlement) n = refl
ends_hold_one hold (event.Closed period) n = refl

pub ended_in_events : (hold : Hold) (n : ℕ) (es : List Event) → list_any (ends_hold hold) (account_entries_from n es) ≡ list_any (ends hold) es
ended_in_events hold n es = any_dated account_entry (ends_hold hold) (ends hold) (ends_hold_one hold) n es

ends_debt_one : (charge : Charge) (e : Event) (n : ℕ) → list_any (ends_debt charge) (account_entry e n) ≡ event_ends_debt charge e
ends_debt_one charge (event.Tariff tariff) n = refl
ends_debt_one charge (event.Token token) n = refl
ends_debt_one charge (event.Authorised hold) n = refl
ends_debt_one charge (event.Released release) n = refl
ends_debt_one charge (event.Cdr cdr cost) n = refl
ends_debt_one charge (event.Credit cdr amount) n = or-false _
ends_debt_one charge (event.Settled settlement) n = or-false _
ends_debt_one charge (event.Closed period) n = refl

pub paid_in_events : (charge : Charge) (es : List Event) → list_any (ends_debt charge) (account_entries es) ≡ list_any (event_ends_debt charge) es
paid_in_events charge es = any_dated account_entry (ends_debt charge) (event_ends_debt charge) (ends_debt_one charge) 0 es

settles_one : (settlement : Settlement) (e : Event) (n : ℕ) → list_any (settles_same settlement) (account_entry e n) ≡ settles settlement e
settles_one settlement (event.Tariff tariff) n = refl
settles_one settlement (event.Token token) n = refl
settles_one settlement (event.Authorised hold) n = refl
settles_one settlement (event.Released release) n = refl
settles_one settlement (event.Cdr cdr cost) n = refl
settles_one settlement (event.Credit cdr amount) n = refl
settles_one settlement (event.Settled other) n = refl
settles_one settlement (event.Closed period) n = refl

pub settled_in_events : (settlement : Settlement) (es : List Event) → is_settled settlement (account_entries es) ≡ list_any (settles settlement) es
settled_in_events settlement es = any_dated account_entry (settles_same settlement) (settles settlement) (settles_one settlement) 0 es

pub open_in_events : (n : ℕ) (es : List Event) → open_holds (account_entries_from n es) ≡ event_open_holds es
open_in_events n [] = refl
open_in_events n (event.Tariff tariff ∷ es) = open_in_events n es
open_in_events n (event.Token token ∷ es) = open_in_events n es
open_in_events n (event.Authorised hold ∷ es) =
    ap₂ (λ (b : Bool) (l : List Hold). (if b then [] else hold ∷ []) ++ l) (ended_in_events hold n es) (open_in_events n es)
open_in_events n (event.Released release ∷ es) = open_in_events n es
open_in_events n (event.Cdr cdr cost ∷ es) = open_in_events n es
open_in_events n (event.Credit cdr amount ∷ es) = open_in_events n es
open_in_events n (event.Settled settlement ∷ es) = open_in_events n es
open_in_events n (event.Closed period ∷ es) = open_in_events (n + 1) es
