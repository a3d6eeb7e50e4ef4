-- On a legal list a verdict is decided by the entries of the command's own operator and provider.
use Rattle.std.proofs.Common.{◌≡◌, ℕ, ℤ, pos, length, List, [], ◌∷◌, Bool, refl, ap, ap₂, ◌∙◌, Option, None, Some, Result, Ok, Err}
use Rattle.ocpi_types.specs.declared.cdr.Cdr.{Cdr}
use Rattle.ocpi_types.specs.declared.config.Config.{Config}
use Rattle.ocpi_types.specs.declared.refusal.Refusal.{Refusal}
use Rattle.ocpi_types.specs.declared.refusal.Store.TheVariants as store
use Rattle.cdr_checks.specs.declared.request.Release.{Release}
use Rattle.cdr_checks.specs.declared.request.Settlement.{Settlement}
use Rattle.cdr_checks.specs.declared.request.Command.TheVariants as command
use Rattle.plain_house.specs.declared.answer.Answer.TheVariants as answer
use Rattle.plain_house.specs.declared.event.Event.{Event}
use Rattle.plain_house.specs.declared.event.Event.TheVariants as event
use Rattle.plain_house.specs.declared.event.Hold.{Hold}
use Rattle.plain_house.specs.declared.over_limit.OverLimit.{OverLimit}
use Rattle.plain_house.specs.Booked.{Booked, booked_as}
use Rattle.plain_house.specs.Entries.{account_entries, book_entries, period_of}
use Rattle.plain_house.specs.Exposure.{released_hold}
use Rattle.plain_house.specs.House.{allows, cdr_posted, credit_posted, credit_taken, found_of, hold_for, over_credit, post_of, release_of, stored_already, unless_covered, unless_open, unless_settled, unless_valid}
use Rattle.plain_house.specs.Known.{Known, known}
use Rattle.plain_house.specs.Own.{AccountsAreOfOwnEntries, BooksAreOfOwnEntries, IsOfOwnAccount, IsOfOwnBook, VerdictsAreOfOwnEntries, own_account, own_book, own_known}
use Rattle.plain_house.specs.Posting.{booked_already, credited_amount, unless_registered}
use Rattle.plain_house.specs.Full.{first_full, is_account_full, is_order_full}
use Rattle.plain_house.specs.Settlements.{is_settled, settled_debt}
use Rattle.plain_house.specs.Tokens.{validity}
use Rattle.plain_house.specs.Verdict.{Case, Verdict, accepts, refused_at, refused_for, replies, unless}
use Rattle.plain_house.proofs.BookedOnce.{party_itself}

-- refused where the provider's account or the order is full
abbrev room_at : Config → ℕ → Bool → Case
room_at config point is_full = refused_at (first_full ((store.Account, is_full) ∷ (store.Order, is_order_full config point) ∷ []))

-- ---- posts

-- refused where a CDR finds no room
abbrev cdr_room_at : Config → ℕ → Bool → Bool → Case
cdr_room_at config point cdrs account =
    refused_at (first_full ((store.Cdrs, cdrs) ∷ (store.Account, account) ∷ (store.Order, is_order_full config point) ∷ []))

module _ (config : Config) (events : List Event) (cdr : Cdr) (books : IsOfOwnBook cdr.operator (book_entries events)) (accounts : IsOfOwnAccount config events cdr.cdr_token.provider) where
  abbrev own : Known
  own = record {
    book = own_book cdr.operator (book_entries events);
    account = own_account cdr.cdr_token.provider events;
    point = length events;
    period = period_of events;
  }

  abbrev cdr_by : ℕ → Option Booked → Bool → Bool → Bool → Option Refusal → Verdict
  cdr_by cost found lacks cdrs account over =
      unless
      (booked_already cdr found ∷ unless_registered lacks ∷ cdr_room_at config (length events) cdrs account ∷ refused_for over ∷ [])
      (accepts (answer.Accepted (pos cost) (period_of events)) (event.Cdr cdr cost))

  its_booking : booked_as cdr.operator cdr.id own.book ≡ booked_as cdr.operator cdr.id (book_entries events)
  its_booking = books.booked cdr.id

  -- a limit is asked of a CDR whose id is not booked
  same_over : (cost : ℕ) (lacks cdrs account : Bool) (one other : Option Refusal) (found : Option Booked) → (found ≡ None → one ≡ other)
      → cdr_by cost found lacks cdrs account one ≡ cdr_by cost found lacks cdrs account other
  same_over cost lacks cdrs account one other None same = ap (cdr_by cost None lacks cdrs account) (same refl)
  same_over cost lacks cdrs account one other (Some found) same = refl

  same_cdr : (cost : ℕ) → cdr_posted config own cdr cost ≡ cdr_posted config (known events) cdr cost
  same_cdr cost =
      rw (its_booking, books.registered cdr (party_itself cdr.operator), books.cdrs_full config, accounts.full cdr.cdr_token.provider (party_itself cdr.cdr_token.provider))
      (same_over cost _ _ _ _ _ (booked_as cdr.operator cdr.id (book_entries events)) (accounts.charge cdr cost (party_itself cdr.cdr_token.provider)))

  same_credit : credit_posted config own cdr ≡ credit_posted config (known events) cdr
  same_credit =
      rw (its_booking, books.taken config (period_of events) cdr (party_itself cdr.operator)) (same_taken (credited_amount config (period_of events) cdr (book_entries events)))
    where
      same_taken : (taken : Result ℤ Refusal) → unless (booked_already cdr (booked_as cdr.operator cdr.id (book_entries events)) ∷ []) (credit_taken config own cdr taken)
          ≡ unless (booked_already cdr (booked_as cdr.operator cdr.id (book_entries events)) ∷ []) (credit_taken config (known events) cdr taken)
      same_taken (Err why) = refl
      same_taken (Ok amount) = rw (books.cdrs_full config, accounts.full cdr.cdr_token.provider (party_itself cdr.cdr_token.provider)) refl

  same_post : (cost : Option ℕ) → post_of config own cdr cost ≡ post_of config (known events) cdr cost
  same_post None = same_credit
  same_post (Some cost) = same_cdr cost

-- ---- commands

-- an authorisation by what the account says
abbrev authorized_by : Config → ℕ → Option Bool → Bool → Option OverLimit → Hold → Verdict
authorized_by config point valid is_full over hold =
    unless (unless_valid valid ∷ room_at config point is_full ∷ unless_covered over ∷ []) (allows hold)

-- by the hold that a release ends
same_release : (config : Config) (events : List Event) (release : Release) → IsOfOwnAccount config events release.provider → (hold : Option Hold)
    → release_of config (own_known (command.Release release) (known events)) release hold ≡ release_of config (known events) release hold
same_release config events release account None = refl
same_release config events release account (Some hold) =
    ap (λ is_full. unless (room_at config (length events) is_full ∷ []) (accepts (answer.Released (pos hold.amount)) (event.Released release)))
    (account.full release.provider (party_itself release.provider))

-- a settlement by what the account says
abbrev settled_by : Config → List Event → Settlement → Bool → Bool → ℕ → Verdict
settled_by config events settlement is_settled is_full debt =
    unless (unless_open settlement.period (period_of events) ∷ unless_settled is_settled ∷ room_at config (length events) is_full ∷ [])
    (accepts (answer.Settled (pos debt)) (event.Settled settlement))

pub verdicts_of_own : BooksAreOfOwnEntries → AccountsAreOfOwnEntries → VerdictsAreOfOwnEntries
verdicts_of_own books accounts config events (command.PutTariff tariff) legal =
    let own = books tariff.operator (book_entries events) in
    ap₂ (λ stored is_full.
    unless (stored_already tariff stored ∷ refused_at (first_full ((store.Tariffs, is_full) ∷ (store.Order, is_order_full config (length events)) ∷ [])) ∷ [])
    (accepts answer.Stored (event.Tariff tariff)))
    (own.version tariff (party_itself tariff.operator)) (own.versions_full config)
verdicts_of_own books accounts config events (command.PutToken token) legal =
    let own = accounts config events token.provider legal in
    ap (λ is_full. unless (room_at config (length events) is_full ∷ []) (accepts answer.Stored (event.Token token))) (own.full token.provider (party_itself token.provider))
verdicts_of_own books accounts config events (command.Authorize ask) legal =
    let own = accounts config events ask.provider legal in
    let itself = party_itself ask.provider in
    let by = authorized_by config (length events) in
    ap₂ (λ valid is_full. by valid is_full (over_credit config ask (own_account ask.provider events)) (hold_for config ask (own_account ask.provider events)))
    (own.valid ask.provider ask.uid ask.kind itself) (own.full ask.provider itself)
    ∙ ap₂ (λ over hold. by (validity ask.provider ask.uid ask.kind (account_entries events)) (is_account_full config ask.provider (account_entries events)) over hold)
    (own.credit ask itself) (own.hold ask itself)
verdicts_of_own books accounts config events (command.Release release) legal =
    let own = accounts config events release.provider legal in
    ap (release_of config (own_known (command.Release release) (known events)) release) (own.released release (party_itself release.provider))
    ∙ same_release config events release own (released_hold (account_entries events) release)
verdicts_of_own books accounts config events (command.Post checked) legal =
    same_post config events checked.cdr (books checked.cdr.operator (book_entries events)) (accounts config events checked.cdr.cdr_token.provider legal) checked.cost
verdicts_of_own books accounts config events (command.Close close) legal = refl
verdicts_of_own books accounts config events (command.Settle settlement) legal =
    let own = accounts config events settlement.provider legal in
    let itself = party_itself settlement.provider in
    let by = settled_by config events settlement in
    ap₂ (λ is_settled is_full. by is_settled is_full (settled_debt settlement (own_account settlement.provider events))) (own.settled settlement itself) (own.full settlement.provider itself)
    ∙ ap (λ debt. by (is_settled settlement (account_entries events)) (is_account_full config settlement.provider (account_entries events)) debt) (own.debt settlement itself)
verdicts_of_own books accounts config events (command.Exposure ask) legal =
    ap (λ told. replies (Ok told)) ((accounts config events ask.provider legal).exposure ask (party_itself ask.provider))
verdicts_of_own books accounts config events (command.Find find) legal =
    let own = books find.operator (book_entries events) in
    by (booked_as find.operator find.id (book_entries events)) (own.booked find.id)
  where
    by : (found : Option Booked) → booked_as find.operator find.id (own_book find.operator (book_entries events)) ≡ found
        → found_of find (own_book find.operator (book_entries events)) (booked_as find.operator find.id (own_book find.operator (book_entries events))) ≡ found_of find (book_entries events) found
    by None same = rw (same)
    by (Some found) same = rw (same, (books find.operator (book_entries events)).credited find.id)
verdicts_of_own books accounts config events (command.Statement ask) legal = refl
