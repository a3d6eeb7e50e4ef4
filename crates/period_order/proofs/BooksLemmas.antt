-- The books and accounts of a list of events, by the number of their party, and with one event more.
use Rattle.std.proofs.Common.{◌≡◌, List, [], ◌∷◌, ◌++◌, Bool, true, false, cond, refl, ap, ◌∙◌, append-nil, Some, map, slice_get, slice_set}
use Rattle.ocpi_types.specs.declared.config.Config.{Config}
use Rattle.ocpi_types.specs.declared.party.Party.{Party}
use Rattle.ocpi_types.specs.Config.{alike_operators, alike_providers, is_operator, is_provider}
use Rattle.ocpi_types.specs.Different.{all_different}
use Rattle.ocpi_types.specs.Party.{same_party}
use Rattle.plain_house.specs.declared.event.Event.{Event}
use Rattle.plain_house.specs.declared.entry.AccountEntry.{AccountEntry}
use Rattle.plain_house.specs.declared.entry.AccountEntry.TheVariants as account
use Rattle.plain_house.specs.declared.entry.BookEntry.{BookEntry}
use Rattle.plain_house.specs.declared.entry.BookEntry.TheVariants as book
use Rattle.plain_house.specs.Entries.{account_entries, account_entry, book_entries, book_entry, period_of}
use Rattle.plain_house.specs.Own.{is_in_book_of, own_account, own_book}
use Rattle.plain_house.specs.Full.{is_entry_of, own_entries}
use Rattle.period_order.specs.Places.{operator_number, provider_number}
use Rattle.period_order.specs.Resolved.{accounts_of, books_of}
use Rattle.period_order.proofs.EntriesLemmas.{account_along, account_entries_push, accounts_push, book_along, book_entries_push, books_push}
use Rattle.period_order.proofs.NumberLemmas.{at_number, set_at_number}
use Rattle.period_order.proofs.PartyLemmas.{party_itself, party_symmetric}

-- ---- books

-- at the number of a configured operator stands its own book
pub book_at : (config : Config) (events : List Event) (operator : Party) → is_operator config operator ≡ true
    → slice_get (books_of config events) (operator_number config operator) ≡ Some (own_book operator (book_entries events))
book_at config events operator known =
    at_number (λ operator. operator.party) operator (λ party. own_book party (book_entries events))
    (λ party h. book_along party operator (book_entries events) h) config.operators known

-- the operator whose book has the entry
abbrev pub operator_of_entry : BookEntry → Party
operator_of_entry (book.Tariff tariff) = tariff.operator
operator_of_entry (book.Cdr cdr cost period) = cdr.operator
operator_of_entry (book.Credit cdr amount period) = cdr.operator

in_its_book : (operator : Party) (entry : BookEntry) → is_in_book_of operator entry ≡ same_party (operator_of_entry entry) operator
in_its_book operator (book.Tariff tariff) = refl
in_its_book operator (book.Cdr cdr cost period) = refl
in_its_book operator (book.Credit cdr amount period) = refl

-- an event with an entry makes that book longer
pub books_with : (config : Config) (events : List Event) (e : Event) (entry : BookEntry) → book_entry e (period_of events) ≡ entry ∷ []
    → all_different alike_operators config.operators ≡ true
    → books_of config (events ++ e ∷ [])
    ≡ slice_set (books_of config events) (operator_number config (operator_of_entry entry)) (own_book (operator_of_entry entry) (book_entries events) ++ entry ∷ [])
books_with config events e entry one different =
    set_at_number (λ operator. operator.party) operator
    (λ party. own_book party (book_entries events)) (λ party. own_book party (book_entries (events ++ e ∷ [])))
    (λ party h. book_along party operator (book_entries (events ++ e ∷ [])) h) (λ party h. other party h) config.operators different
    ∙ ap (slice_set (books_of config events) (operator_number config operator)) (longer operator true (party_itself operator))
  where
    operator : Party
    operator = operator_of_entry entry

    longer : (party : Party) (own : Bool) → same_party operator party ≡ own
        → own_book party (book_entries (events ++ e ∷ [])) ≡ own_book party (book_entries events) ++ cond own (entry ∷ []) []
    longer party own h =
        books_push party events e
        ∙ ap (λ l. own_book party (book_entries events) ++ own_book party l) one
        ∙ ap (λ (b : Bool). own_book party (book_entries events) ++ cond b (entry ∷ []) []) (in_its_book party entry ∙ h)

    other : (party : Party) → same_party party operator ≡ false → own_book party (book_entries (events ++ e ∷ [])) ≡ own_book party (book_entries events)
    other party h = longer party false (party_symmetric operator party ∙ h) ∙ append-nil (own_book party (book_entries events))

-- an event without one changes no book
pub books_without : (config : Config) (events : List Event) (e : Event) → book_entry e (period_of events) ≡ [] → books_of config (events ++ e ∷ []) ≡ books_of config events
books_without config events e none =
    ap (λ entries. map (λ operator. own_book operator.party entries) config.operators)
    (book_entries_push events e ∙ ap (λ l. book_entries events ++ l) none ∙ append-nil (book_entries events))

-- ---- accounts

-- at the number of a configured provider stands its own account
pub account_at : (config : Config) (events : List Event) (provider : Party) → is_provider config provider ≡ true
    → slice_get (accounts_of config events) (provider_number config provider) ≡ Some (own_account provider events)
account_at config events provider known =
    at_number (λ provider. provider.party) provider (λ party. own_account party events)
    (λ party h. account_along party provider events h) config.providers known

-- the provider whose account has the entry
abbrev pub provider_of_entry : AccountEntry → Party
provider_of_entry (account.Token token) = token.provider
provider_of_entry (account.Hold hold) = hold.provider
provider_of_entry (account.Release release) = release.provider
provider_of_entry (account.Charge charge) = charge.provider
provider_of_entry (account.Credit credit) = credit.provider
provider_of_entry (account.Settlement settlement) = settlement.provider

in_its_account : (provider : Party) (entry : AccountEntry) → is_entry_of provider entry ≡ same_party (provider_of_entry entry) provider
in_its_account provider (account.Token token) = refl
in_its_account provider (account.Hold hold) = refl
in_its_account provider (account.Release release) = refl
in_its_account provider (account.Charge charge) = refl
in_its_account provider (account.Credit credit) = refl
in_its_account provider (account.Settlement settlement) = refl

-- an event with an entry makes that account longer
pub accounts_with : (config : Config) (events : List Event) (e : Event) (entry : AccountEntry) → account_entry e (period_of events) ≡ entry ∷ []
    → all_different alike_providers config.providers ≡ true
    → accounts_of config (events ++ e ∷ [])
    ≡ slice_set (accounts_of config events) (provider_number config (provider_of_entry entry)) (own_account (provider_of_entry entry) events ++ entry ∷ [])
accounts_with config events e entry one different =
    set_at_number (λ provider. provider.party) provider
    (λ party. own_account party events) (λ party. own_account party (events ++ e ∷ []))
    (λ party h. account_along party provider (events ++ e ∷ []) h) (λ party h. other party h) config.providers different
    ∙ ap (slice_set (accounts_of config events) (provider_number config provider)) (longer provider true (party_itself provider))
  where
    provider : Party
    provider = provider_of_entry entry

    longer : (party : Party) (own : Bool) → same_party provider party ≡ own
        → own_account party (events ++ e ∷ []) ≡ own_account party events ++ cond own (entry ∷ []) []
    longer party own h =
        accounts_push party events e
        ∙ ap (λ l. own_account party events ++ own_entries party l) one
        ∙ ap (λ (b : Bool). own_account party events ++ cond b (entry ∷ []) []) (in_its_account party entry ∙ h)

    other : (party : Party) → same_party party provider ≡ false → own_account party (events ++ e ∷ []) ≡ own_account party events
    other party h = longer party false (party_symmetric provider party ∙ h) ∙ append-nil (own_account party events)

-- an event without one changes no account
pub accounts_without : (config : Config) (events : List Event) (e : Event) → account_entry e (period_of events) ≡ [] → accounts_of config (events ++ e ∷ []) ≡ accounts_of config events
accounts_without config events e none =
    ap (λ entries. map (λ provider. own_entries provider.party entries) config.providers)
    (account_entries_push events e ∙ ap (λ l. account_entries events ++ l) none ∙ append-nil (account_entries events))
