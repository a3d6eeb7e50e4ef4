-- A verdict under any configuration on a list that is legal: the entries of the command's own operator and provider decide it.
use Rattle.std.proofs.Common.{◌≡◌, ℕ, ℤ, ◌+◌, pos, length, List, [], ◌∷◌, ◌++◌, Bool, true, false, cond, refl, sym, ap, ap₂, ◌∙◌, Option, None, Some, Result, Ok, Err, nat_le}
use Rattle.std.specs.Option.{option_or}
use Rattle.std.proofs.lemmas.List.Elements.{filter-append}
use Rattle.ocpi_types.specs.declared.cdr.Cdr.{Cdr}
use Rattle.ocpi_types.specs.declared.config.Config.{Config}
use Rattle.ocpi_types.specs.declared.party.Party.{Party}
use Rattle.ocpi_types.specs.declared.refusal.Refusal.{Refusal}
use Rattle.ocpi_types.specs.declared.refusal.Store.TheVariants as store
use Rattle.ocpi_types.specs.Config.{hold_of, limit_of, pair_limit_of}
use Rattle.cdr_checks.specs.declared.request.Authorize.{Authorize}
use Rattle.cdr_checks.specs.declared.request.Command.{Command}
use Rattle.cdr_checks.specs.declared.request.Command.TheVariants as command
use Rattle.cdr_checks.specs.declared.request.ExposureOf.{ExposureOf}
use Rattle.cdr_checks.specs.declared.request.Find.{Find}
use Rattle.cdr_checks.specs.declared.request.Release.{Release}
use Rattle.cdr_checks.specs.declared.request.Settlement.{Settlement}
use Rattle.plain_house.specs.declared.answer.Answer.TheVariants as answer
use Rattle.plain_house.specs.declared.entry.AccountEntry.{AccountEntry}
use Rattle.plain_house.specs.declared.entry.AccountEntry.TheVariants as account
use Rattle.plain_house.specs.declared.entry.Charge.{Charge}
use Rattle.plain_house.specs.declared.event.Event.{Event}
use Rattle.plain_house.specs.declared.event.Event.TheVariants as event
use Rattle.plain_house.specs.declared.event.Hold.{Hold}
use Rattle.plain_house.specs.declared.over_limit.OverLimit.{OverLimit}
use Rattle.plain_house.specs.declared.scope.Scope.{Scope}
use Rattle.plain_house.specs.Booked.{Booked, booked_as}
use Rattle.plain_house.specs.Entries.{account_entries, book_entries, charge_of, period_of}
use Rattle.plain_house.specs.Exposure.{exposure_of, of_pair, of_provider, released_hold}
use Rattle.plain_house.specs.Full.{first_full, is_account_full, is_entry_of, is_order_full, own_entries}
use Rattle.plain_house.specs.House.{allows, credit_posted, credit_taken, exposed, found_of, hold_for, is_hold_of, over_credit, post_of, provider_as_configured, reference_text, release_of, stored_already, unless_covered, unless_open, unless_settled, unless_valid, verdict}
use Rattle.plain_house.specs.Known.{Known, known}
use Rattle.plain_house.specs.Legal.{IsLegal}
use Rattle.plain_house.specs.Own.{AccountsAreOfOwnEntries, BooksAreOfOwnEntries, ExposureIsOfOwnEntries, ExposureWithChargeIsOfOwnEntries, IsOfOwnAccount, IsOfOwnBook, own_account, own_book, own_known}
use Rattle.plain_house.specs.OverLimit.{over, over_if_any}
use Rattle.plain_house.specs.Posting.{above, above_if_any, booked_already, credited_amount, over_limit, unless_registered}
use Rattle.plain_house.specs.Settlements.{is_settled, settled_debt}
use Rattle.plain_house.specs.Tokens.{validity}
use Rattle.plain_house.specs.Verdict.{Case, Verdict, accepts, refused_at, refused_for, replies, unless}
use Rattle.plain_house.proofs.KeptLemmas.{count_kept}
use Rattle.period_order.specs.Judging.{JudgedByOwnEntries}
use Rattle.period_order.proofs.PartyLemmas.{party_itself}

hold_is_entry : (provider : Party) (entry : AccountEntry) → is_hold_of provider entry ≡ true → is_entry_of provider entry ≡ true
hold_is_entry provider (account.Token token) h = absurd (cc)
hold_is_entry provider (account.Hold hold) h = h
hold_is_entry provider (account.Release release) h = absurd (cc)
hold_is_entry provider (account.Charge charge) h = absurd (cc)
hold_is_entry provider (account.Credit credit) h = absurd (cc)
hold_is_entry provider (account.Settlement settlement) h = absurd (cc)

module _ (books : BooksAreOfOwnEntries) (accounts : AccountsAreOfOwnEntries) (exposures : ExposureIsOfOwnEntries) (charges : ExposureWithChargeIsOfOwnEntries)
    (config base : Config) (events : List Event) (legal : IsLegal base events) where
  its : (provider : Party) → IsOfOwnAccount base events provider
  its provider = accounts base events provider legal

  -- refused where the provider's account or the order is full
  abbrev room_at : Bool → Case
  room_at is_full = refused_at (first_full ((store.Account, is_full) ∷ (store.Order, is_order_full config (length events)) ∷ []))

  full : (provider : Party) → is_account_full config provider (own_account provider events) ≡ is_account_full config provider (account_entries events)
  full provider =
      ap (nat_le config.limits.entries) (count_kept (is_entry_of provider) (is_entry_of provider) (λ entry h. h) (account_entries events))

  -- ---- authorisations and exposures

  credit : (ask : Authorize) → over_credit config ask (own_account ask.provider events) ≡ over_credit config ask (account_entries events)
  credit ask =
      ap₂ (λ exposure pair.
      option_or (over (limit_of config ask.provider ask.currency) (exposure + hold_of config ask.provider ask.currency) false)
      (over_if_any (pair_limit_of config ask.operator ask.provider ask.currency) (pair + hold_of config ask.provider ask.currency)))
      (exposures base events (of_provider ask.provider ask.currency) legal).exposure (exposures base events (of_pair ask.operator ask.provider ask.currency) legal).exposure

  holds : (ask : Authorize) → hold_for config ask (own_account ask.provider events) ≡ hold_for config ask (account_entries events)
  holds ask =
      let hold : List ℕ → Hold = λ reference. record { operator = ask.operator; provider = ask.provider; currency = ask.currency; amount = hold_of config ask.provider ask.currency; reference = reference } in
      ap (λ n. hold (reference_text (provider_as_configured config ask.provider) (n + 1)))
      (count_kept (is_hold_of ask.provider) (is_entry_of ask.provider) (hold_is_entry ask.provider) (account_entries events))

  abbrev authorized_by : Option Bool → Bool → Option OverLimit → Hold → Verdict
  authorized_by valid is_full over hold =
      unless (unless_valid valid ∷ room_at is_full ∷ unless_covered over ∷ []) (allows hold)

  exposes : (ask : ExposureOf) → exposed config ask (own_account ask.provider events) ≡ exposed config ask (account_entries events)
  exposes ask =
      let own = exposures base events (of_provider ask.provider ask.currency) legal in
      ap₂ (λ holds debts. answer.Exposure (pos holds) (pos debts) (pos (limit_of config ask.provider ask.currency))) own.holds own.debts

  -- ---- posts

  -- a limit is asked of a CDR whose id is not booked
  module _ (cdr : Cdr) (cost : ℕ) (unknown : booked_as cdr.operator cdr.id (book_entries events) ≡ None) where
    abbrev added : Charge
    added = charge_of cdr cost (period_of events)

    charge_behind : own_entries added.provider (account_entries events ++ account.Charge added ∷ []) ≡ own_entries added.provider (account_entries events) ++ account.Charge added ∷ []
    charge_behind =
        filter-append (is_entry_of added.provider) (account_entries events) (account.Charge added ∷ [])
        ∙ ap (λ (b : Bool). own_entries added.provider (account_entries events) ++ cond b (account.Charge added ∷ []) []) (party_itself added.provider)

    exposure_with : (scope : Scope) → scope.provider ≡ added.provider
        → exposure_of scope (own_entries added.provider (account_entries events) ++ account.Charge added ∷ []) ≡ exposure_of scope (account_entries events ++ account.Charge added ∷ [])
    exposure_with scope same =
        ap (exposure_of scope) (sym charge_behind ∙ ap (λ (p : Party). own_entries p (account_entries events ++ account.Charge added ∷ [])) (sym same))
        ∙ (charges base events scope cdr cost legal unknown).exposure

    over_of_own : over_limit config added (own_entries added.provider (account_entries events)) ≡ over_limit config added (account_entries events)
    over_of_own =
        ap₂ (λ exposure pair.
        option_or (above (limit_of config added.provider added.currency) exposure false)
        (above_if_any (pair_limit_of config added.operator added.provider added.currency) pair))
        (exposure_with (of_provider added.provider added.currency) refl) (exposure_with (of_pair added.operator added.provider added.currency) refl)

  module _ (cdr : Cdr) where
    abbrev own : Known
    own = record {
      book = own_book cdr.operator (book_entries events);
      account = own_account cdr.cdr_token.provider events;
      point = length events;
      period = period_of events;
    }

    book : IsOfOwnBook cdr.operator (book_entries events)
    book = books cdr.operator (book_entries events)

    abbrev cdr_by : ℕ → Option Booked → Bool → Bool → Bool → Option Refusal → Verdict
    cdr_by cost found lacks cdrs account over =
        unless
        (booked_already cdr found ∷ unless_registered lacks
        ∷ refused_at (first_full ((store.Cdrs, cdrs) ∷ (store.Account, account) ∷ (store.Order, is_order_full config (length events)) ∷ []))
        ∷ refused_for over ∷ [])
        (accepts (answer.Accepted (pos cost) (period_of events)) (event.Cdr cdr cost))

    same_over : (cost : ℕ) (lacks cdrs account : Bool) (one other : Option Refusal) (found : Option Booked) → (found ≡ None → one ≡ other)
        → cdr_by cost found lacks cdrs account one ≡ cdr_by cost found lacks cdrs account other
    same_over cost lacks cdrs account one other None same = ap (cdr_by cost None lacks cdrs account) (same refl)
    same_over cost lacks cdrs account one other (Some found) same = refl

    same_credit : credit_posted config own cdr ≡ credit_posted config (known events) cdr
    same_credit =
        rw (book.booked cdr.id, book.taken config (period_of events) cdr (party_itself cdr.operator)) (same_taken (credited_amount config (period_of events) cdr (book_entries events)))
      where
        same_taken : (taken : Result ℤ Refusal) → unless (booked_already cdr (booked_as cdr.operator cdr.id (book_entries events)) ∷ []) (credit_taken config own cdr taken)
            ≡ unless (booked_already cdr (booked_as cdr.operator cdr.id (book_entries events)) ∷ []) (credit_taken config (known events) cdr taken)
        same_taken (Err why) = refl
        same_taken (Ok amount) = rw (book.cdrs_full config, full cdr.cdr_token.provider) refl

    same_post : (cost : Option ℕ) → post_of config own cdr cost ≡ post_of config (known events) cdr cost
    same_post None = same_credit
    same_post (Some cost) =
        rw (book.booked cdr.id, book.registered cdr (party_itself cdr.operator), book.cdrs_full config, full cdr.cdr_token.provider)
        (same_over cost _ _ _ _ _ (booked_as cdr.operator cdr.id (book_entries events)) (λ unknown. over_of_own cdr cost unknown))

  -- ---- the other commands

  releases : (release : Release) (hold : Option Hold)
      → release_of config (own_known (command.Release release) (known events)) release hold ≡ release_of config (known events) release hold
  releases release None = refl
  releases release (Some hold) =
      ap (λ is_full. unless (room_at is_full ∷ []) (accepts (answer.Released (pos hold.amount)) (event.Released release))) (full release.provider)

  abbrev settled_by : Settlement → Bool → Bool → ℕ → Verdict
  settled_by settlement is_settled is_full debt =
      unless (unless_open settlement.period (period_of events) ∷ unless_settled is_settled ∷ room_at is_full ∷ [])
      (accepts (answer.Settled (pos debt)) (event.Settled settlement))

  finds : (find : Find) (found : Option Booked) → booked_as find.operator find.id (own_book find.operator (book_entries events)) ≡ found
      → found_of find (own_book find.operator (book_entries events)) (booked_as find.operator find.id (own_book find.operator (book_entries events))) ≡ found_of find (book_entries events) found
  finds find None same = rw (same)
  finds find (Some found) same = rw (same, (books find.operator (book_entries events)).credited find.id)

  by_own : (command : Command) → verdict config (own_known command (known events)) command ≡ verdict config (known events) command
  by_own (command.PutTariff tariff) =
      let own = books tariff.operator (book_entries events) in
      ap₂ (λ stored is_full.
      unless (stored_already tariff stored ∷ refused_at (first_full ((store.Tariffs, is_full) ∷ (store.Order, is_order_full config (length events)) ∷ [])) ∷ [])
      (accepts answer.Stored (event.Tariff tariff)))
      (own.version tariff (party_itself tariff.operator)) (own.versions_full config)
  by_own (command.PutToken token) =
      ap (λ is_full. unless (room_at is_full ∷ []) (accepts answer.Stored (event.Token token))) (full token.provider)
  by_own (command.Authorize ask) =
      ap₂ (λ valid is_full. authorized_by valid is_full (over_credit config ask (own_account ask.provider events)) (hold_for config ask (own_account ask.provider events)))
      ((its ask.provider).valid ask.provider ask.uid ask.kind (party_itself ask.provider)) (full ask.provider)
      ∙ ap₂ (λ over hold. authorized_by (validity ask.provider ask.uid ask.kind (account_entries events)) (is_account_full config ask.provider (account_entries events)) over hold)
      (credit ask) (holds ask)
  by_own (command.Release release) =
      ap (release_of config (own_known (command.Release release) (known events)) release) ((its release.provider).released release (party_itself release.provider))
      ∙ releases release (released_hold (account_entries events) release)
  by_own (command.Post checked) = same_post checked.cdr checked.cost
  by_own (command.Close close) = refl
  by_own (command.Settle settlement) =
      let own = its settlement.provider in
      let itself = party_itself settlement.provider in
      ap₂ (λ is_settled is_full. settled_by settlement is_settled is_full (settled_debt settlement (own_account settlement.provider events))) (own.settled settlement itself) (full settlement.provider)
      ∙ ap (λ debt. settled_by settlement (is_settled settlement (account_entries events)) (is_account_full config settlement.provider (account_entries events)) debt) (own.debt settlement itself)
  by_own (command.Exposure ask) = ap (λ told. replies (Ok told)) (exposes ask)
  by_own (command.Find find) = finds find (booked_as find.operator find.id (book_entries events)) ((books find.operator (book_entries events)).booked find.id)
  by_own (command.Statement ask) = refl

pub judged_by_own : BooksAreOfOwnEntries → AccountsAreOfOwnEntries → ExposureIsOfOwnEntries → ExposureWithChargeIsOfOwnEntries → JudgedByOwnEntries
judged_by_own books accounts exposures charges config base events command legal = by_own books accounts exposures charges config base events legal command
