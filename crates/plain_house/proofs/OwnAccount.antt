-- What the entries of a legal list say of a provider is what its own account says.
use Rattle.std.proofs.Common.{◌≡◌, ℕ, ◌+◌, ◌==◌, List, [], ◌∷◌, ◌++◌, Bool, true, false, cond, pos, refl, sym, ap, ap₂, ◌∙◌, None, option_map, filter, find, reverse, nat_le}
use Rattle.std.specs.Option.{option_or}
use Rattle.std.proofs.lemmas.List.Elements.{filter-append, filter_agree}
use Rattle.std.proofs.lemmas.Map.Views.{any-filter_same}
use Rattle.ocpi_json.specs.Folded.{same_folded}
use Rattle.ocpi_types.specs.declared.cdr.Cdr.{Cdr}
use Rattle.ocpi_types.specs.declared.config.Config.{Config}
use Rattle.ocpi_types.specs.declared.party.Party.{Party}
use Rattle.ocpi_types.specs.declared.token.Token.{Token}
use Rattle.ocpi_types.specs.declared.token.TokenKind.{TokenKind}
use Rattle.ocpi_types.specs.Config.{hold_of, limit_of, pair_limit_of}
use Rattle.ocpi_types.specs.Currency.{same_currency}
use Rattle.ocpi_types.specs.Party.{same_party}
use Rattle.ocpi_types.specs.TokenKind.{same_token_kind}
use Rattle.cdr_checks.specs.declared.request.Authorize.{Authorize}
use Rattle.cdr_checks.specs.declared.request.ExposureOf.{ExposureOf}
use Rattle.cdr_checks.specs.declared.request.Release.{Release}
use Rattle.cdr_checks.specs.declared.request.Settlement.{Settlement}
use Rattle.plain_house.specs.declared.answer.Answer.TheVariants as answer
use Rattle.plain_house.specs.declared.event.Event.{Event}
use Rattle.plain_house.specs.declared.event.Hold.{Hold}
use Rattle.plain_house.specs.declared.entry.AccountEntry.{AccountEntry}
use Rattle.plain_house.specs.declared.entry.AccountEntry.TheVariants as account
use Rattle.plain_house.specs.declared.entry.Charge.{Charge}
use Rattle.plain_house.specs.declared.scope.Scope.{Scope}
use Rattle.plain_house.specs.Booked.{booked_as}
use Rattle.plain_house.specs.Entries.{account_entries, book_entries, charge_of, period_of}
use Rattle.plain_house.specs.Exposure.{ends_debt, ends_hold, exposure_of, of_pair, of_provider, open_holds, released_hold}
use Rattle.plain_house.specs.House.{provider_as_configured, exposed, hold_for, is_hold_of, over_credit, reference_text}
use Rattle.plain_house.specs.Legal.{IsLegal}
use Rattle.plain_house.specs.LegalLists.{LegalCdrsAreCharged, LegalCreditsAreTakenBack}
use Rattle.plain_house.specs.Own.{AccountsAreOfOwnEntries, IsOfOwnEntries, own_account}
use Rattle.plain_house.specs.OverLimit.{over, over_if_any}
use Rattle.plain_house.specs.Posting.{above, above_if_any, over_limit}
use Rattle.plain_house.specs.Full.{is_account_full, is_entry_of, own_entries}
use Rattle.plain_house.specs.Settlements.{is_settled, settled_debt, settles_same}
use Rattle.plain_house.specs.Tokens.{is_token, token_in, tokens, validity}
use Rattle.plain_house.proofs.BookedOnce.{are_ended_by_own, first_of_three, party_itself}
use Rattle.plain_house.proofs.KeptLemmas.{count_kept, find_kept, find_last_kept, flat_kept, none_of}
use Rattle.plain_house.proofs.OwnEntries.{charged_of_own, entry_along, is_hold_by, own_holds, party_along, second}
use Rattle.plain_house.proofs.OwnExposure.{exposure_of_own, exposure_with_charge_of_own, legal_bookable}

party_back : (a b : Party) → same_party a b ≡ true → same_party b a ≡ true
party_back a b h = party_along b a b h ∙ party_itself b

-- ---- tokens

abbrev is_token_of : Party → Token → Bool
is_token_of provider token = same_party token.provider provider

own_tokens : (provider : Party) (entries : List AccountEntry) → tokens (own_entries provider entries) ≡ filter (is_token_of provider) (tokens entries)
own_tokens provider entries = flat_kept token_in (is_entry_of provider) (is_token_of provider) one entries
  where
    one : (entry : AccountEntry) → filter (is_token_of provider) (token_in entry) ≡ cond (is_entry_of provider entry) (token_in entry) []
    one (account.Token token) = refl
    one (account.Hold hold) = none_of (same_party hold.provider provider)
    one (account.Release release) = none_of (same_party release.provider provider)
    one (account.Charge charge) = none_of (same_party charge.provider provider)
    one (account.Credit credit) = none_of (same_party credit.provider provider)
    one (account.Settlement settlement) = none_of (same_party settlement.provider provider)

valid_of_own : (provider : Party) (uid : List ℕ) (kind : TokenKind) (entries : List AccountEntry) → validity provider uid kind (own_entries provider entries) ≡ validity provider uid kind entries
valid_of_own provider uid kind entries =
    ap (λ l. option_map (λ token. token.valid) (find (is_token provider uid kind) (reverse l))) (own_tokens provider entries)
    ∙ ap (option_map (λ token. token.valid))
    (find_last_kept (is_token provider uid kind) (is_token_of provider)
    (λ token h. first_of_three (same_party token.provider provider) (same_folded token.uid uid) (same_token_kind token.kind kind) h) (tokens entries))

-- ---- holds

hold_is_entry : (provider : Party) (entry : AccountEntry) → is_hold_of provider entry ≡ true → is_entry_of provider entry ≡ true
hold_is_entry provider (account.Token token) h = absurd (cc)
hold_is_entry provider (account.Hold hold) h = h
hold_is_entry provider (account.Release release) h = absurd (cc)
hold_is_entry provider (account.Charge charge) h = absurd (cc)
hold_is_entry provider (account.Credit credit) h = absurd (cc)
hold_is_entry provider (account.Settlement settlement) h = absurd (cc)

hold_of_own : (config : Config) (ask : Authorize) (entries : List AccountEntry) → hold_for config ask (own_entries ask.provider entries) ≡ hold_for config ask entries
hold_of_own config ask entries =
    let hold : List ℕ → Hold = λ reference. record { operator = ask.operator; provider = ask.provider; currency = ask.currency; amount = hold_of config ask.provider ask.currency; reference = reference } in
    ap (λ n. hold (reference_text (provider_as_configured config ask.provider) (n + 1)))
    (count_kept (is_hold_of ask.provider) (is_entry_of ask.provider) (hold_is_entry ask.provider) entries)

released_of_own : (release : Release) (entries : List AccountEntry) → released_hold (own_entries release.provider entries) release ≡ released_hold entries release
released_of_own release entries =
    ap (find (λ hold. ends_hold hold (account.Release release))) (own_holds release.provider entries)
    ∙ find_kept (λ hold. ends_hold hold (account.Release release)) (is_hold_by release.provider)
    (λ hold h.
    party_back release.provider hold.provider
    (second (same_party release.operator hold.operator) (same_party release.provider hold.provider) (same_folded release.reference hold.reference) h))
    (open_holds entries)

-- ---- settlements

settles_own : (settlement : Settlement) (entry : AccountEntry) → settles_same settlement entry ≡ true → is_entry_of settlement.provider entry ≡ true
settles_own settlement (account.Token token) h = absurd (cc)
settles_own settlement (account.Hold hold) h = absurd (cc)
settles_own settlement (account.Release release) h = absurd (cc)
settles_own settlement (account.Charge charge) h = absurd (cc)
settles_own settlement (account.Credit credit) h = absurd (cc)
settles_own settlement (account.Settlement other) h =
    first_of_three (same_party other.provider settlement.provider) (same_currency other.currency settlement.currency) (other.period == settlement.period) h

settled_of_own : (settlement : Settlement) (entries : List AccountEntry) → is_settled settlement (own_entries settlement.provider entries) ≡ is_settled settlement entries
settled_of_own settlement entries = any-filter_same (settles_same settlement) (is_entry_of settlement.provider) true (settles_own settlement) entries

-- ---- on a legal list

module _ (charged : LegalCdrsAreCharged) (taken : LegalCreditsAreTakenBack) (config : Config) (events : List Event) (legal : IsLegal config events) where
  debt_of_own : (settlement : Settlement) → settled_debt settlement (own_entries settlement.provider (account_entries events)) ≡ settled_debt settlement (account_entries events)
  debt_of_own settlement =
      charged_of_own settlement.provider (λ charge. ends_debt charge (account.Settlement settlement))
      (λ charge h.
      party_back settlement.provider charge.provider
      (first_of_three (same_party settlement.provider charge.provider) (same_currency settlement.currency charge.currency) (settlement.period == charge.period) h))
      (account_entries events) (are_ended_by_own events (legal_bookable charged taken config events legal))

  its_exposure : (scope : Scope) → IsOfOwnEntries scope (account_entries events)
  its_exposure scope = exposure_of_own charged taken config events scope legal

  credit_of_own : (ask : Authorize) → over_credit config ask (own_entries ask.provider (account_entries events)) ≡ over_credit config ask (account_entries events)
  credit_of_own ask =
      ap₂ (λ exposure pair.
      option_or (over (limit_of config ask.provider ask.currency) (exposure + hold_of config ask.provider ask.currency) false)
      (over_if_any (pair_limit_of config ask.operator ask.provider ask.currency) (pair + hold_of config ask.provider ask.currency)))
      (its_exposure (of_provider ask.provider ask.currency)).exposure (its_exposure (of_pair ask.operator ask.provider ask.currency)).exposure

  exposed_of_own : (ask : ExposureOf) → exposed config ask (own_entries ask.provider (account_entries events)) ≡ exposed config ask (account_entries events)
  exposed_of_own ask =
      ap₂ (λ holds debts. answer.Exposure (pos holds) (pos debts) (pos (limit_of config ask.provider ask.currency)))
      (its_exposure (of_provider ask.provider ask.currency)).holds (its_exposure (of_provider ask.provider ask.currency)).debts

  module _ (cdr : Cdr) (cost : ℕ) (unknown : booked_as cdr.operator cdr.id (book_entries events) ≡ None) where
    abbrev added : Charge
    added = charge_of cdr cost (period_of events)

    -- the charge is an entry of the account
    charge_behind : own_entries added.provider (account_entries events ++ account.Charge added ∷ []) ≡ own_entries added.provider (account_entries events) ++ account.Charge added ∷ []
    charge_behind =
        filter-append (is_entry_of added.provider) (account_entries events) (account.Charge added ∷ [])
        ∙ ap (λ (b : Bool). own_entries added.provider (account_entries events) ++ cond b (account.Charge added ∷ []) []) (party_itself added.provider)

    exposure_with : (scope : Scope) → scope.provider ≡ added.provider
        → exposure_of scope (own_entries added.provider (account_entries events) ++ account.Charge added ∷ []) ≡ exposure_of scope (account_entries events ++ account.Charge added ∷ [])
    exposure_with scope same =
        ap (exposure_of scope) (sym charge_behind ∙ ap (λ (p : Party). own_entries p (account_entries events ++ account.Charge added ∷ [])) (sym same))
        ∙ (exposure_with_charge_of_own charged taken config events scope cdr cost legal unknown).exposure

    over_of_own : over_limit config added (own_entries added.provider (account_entries events)) ≡ over_limit config added (account_entries events)
    over_of_own =
        ap₂ (λ exposure pair.
        option_or (above (limit_of config added.provider added.currency) exposure false)
        (above_if_any (pair_limit_of config added.operator added.provider added.currency) pair))
        (exposure_with (of_provider added.provider added.currency) refl) (exposure_with (of_pair added.operator added.provider added.currency) refl)

-- ---- in each spelling of the provider

own_in_spelling : (events : List Event) (provider party : Party) → same_party party provider ≡ true → own_account provider events ≡ own_account party events
own_in_spelling events provider party same =
    sym (filter_agree (is_entry_of party) (is_entry_of provider) (λ entry. entry_along party provider entry same) (account_entries events))

pub accounts_of_own : LegalCdrsAreCharged → LegalCreditsAreTakenBack → AccountsAreOfOwnEntries
accounts_of_own charged taken config events provider legal = record {
  valid = λ party uid kind same. ap (validity party uid kind) (own_in_spelling events provider party same) ∙ valid_of_own party uid kind (account_entries events);
  full = λ party same.
      ap (is_account_full config party) (own_in_spelling events provider party same)
      ∙ ap (nat_le config.limits.entries) (count_kept (is_entry_of party) (is_entry_of party) (λ entry h. h) (account_entries events));
  credit = λ ask same. ap (over_credit config ask) (own_in_spelling events provider ask.provider same) ∙ credit_of_own charged taken config events legal ask;
  hold = λ ask same. ap (hold_for config ask) (own_in_spelling events provider ask.provider same) ∙ hold_of_own config ask (account_entries events);
  released = λ release same. ap (λ entries. released_hold entries release) (own_in_spelling events provider release.provider same) ∙ released_of_own release (account_entries events);
  settled = λ settlement same. ap (is_settled settlement) (own_in_spelling events provider settlement.provider same) ∙ settled_of_own settlement (account_entries events);
  debt = λ settlement same. ap (settled_debt settlement) (own_in_spelling events provider settlement.provider same) ∙ debt_of_own charged taken config events legal settlement;
  exposure = λ ask same. ap (exposed config ask) (own_in_spelling events provider ask.provider same) ∙ exposed_of_own charged taken config events legal ask;
  charge = λ cdr cost same unknown.
      ap (over_limit config (charge_of cdr cost (period_of events))) (own_in_spelling events provider cdr.cdr_token.provider same)
      ∙ over_of_own charged taken config events legal cdr cost unknown;
}
