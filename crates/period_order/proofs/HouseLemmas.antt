-- What a house of books and accounts keeps once a command has its place in the order.
use Rattle.std.proofs.Common.{◌≡◌, ℕ, List, [], ◌∷◌, ◌++◌, true, refl, sym, ap, ap₂, ◌∙◌, length, slice_get, slice_set, Option, None, Some, option_map, unwrap_or}
use Rattle.ocpi_types.specs.declared.config.Config.{Config}
use Rattle.ocpi_types.specs.declared.party.Party.{Party}
use Rattle.ocpi_types.specs.Config.{alike_operators, alike_providers}
use Rattle.ocpi_types.specs.Different.{all_different}
use Rattle.cdr_checks.specs.declared.request.Command.{Command}
use Rattle.cdr_checks.specs.Parties.{HasParties, operator_of_command, provider_of_command}
use Rattle.plain_house.specs.declared.entry.AccountEntry.{AccountEntry}
use Rattle.plain_house.specs.declared.entry.AccountEntry.TheVariants as account
use Rattle.plain_house.specs.declared.entry.BookEntry.{BookEntry}
use Rattle.plain_house.specs.declared.entry.BookEntry.TheVariants as book
use Rattle.plain_house.specs.declared.event.Event.{Event}
use Rattle.plain_house.specs.declared.event.Event.TheVariants as event
use Rattle.plain_house.specs.Entries.{account_entry, book_entries, book_entry, charge_of, credit_of, period_of}
use Rattle.plain_house.specs.Own.{IsOfCommand, own_account, own_book}
use Rattle.period_order.specs.Kept.{account_number, book_number, with_added}
use Rattle.period_order.specs.Places.{account_size, book_size, operator_number, order_entry, provider_number}
use Rattle.period_order.specs.Resolved.{accounts_of, books_of}
use Rattle.period_order.proofs.BooksLemmas.{account_at, accounts_with, accounts_without, book_at, books_with, books_without}

-- ---- one entry more

-- the list at that number is known
added_at : {X : Type 0} (lists : List (List X)) (number : ℕ) (own added : List X) → slice_get lists number ≡ Some own
    → with_added lists (Some number) added ≡ slice_set lists number (own ++ added)
added_at lists number own added h = ap (λ found. slice_set lists number (unwrap_or found [] ++ added)) h

module _ (config : Config) (events : List Event) (told : Command) (parties : HasParties config told) where
  -- ---- books

  module _ (different : all_different alike_operators config.operators ≡ true) where
    -- the command's book with the event's entry
    in_book : (operator : Party) (e : Event) (entry : BookEntry) → operator_of_command told ≡ Some operator → book_entry e (period_of events) ≡ entry ∷ []
        → books_of config (events ++ e ∷ []) ≡ slice_set (books_of config events) (operator_number config operator) (own_book operator (book_entries events) ++ entry ∷ [])
        → with_added (books_of config events) (book_number config told) (book_entry e (period_of events)) ≡ books_of config (events ++ e ∷ [])
    in_book operator e entry own one pushed =
        ap₂ (λ (o : Option Party) (l : List BookEntry). with_added (books_of config events) (option_map (operator_number config) o) l) own one
        ∙ added_at (books_of config events) (operator_number config operator) (own_book operator (book_entries events)) (entry ∷ []) (book_at config events operator (parties.operator operator own))
        ∙ sym pushed

    in_no_book : (e : Event) → operator_of_command told ≡ None → book_entry e (period_of events) ≡ []
        → with_added (books_of config events) (book_number config told) (book_entry e (period_of events)) ≡ books_of config (events ++ e ∷ [])
    in_no_book e none empty =
        ap (λ (o : Option Party). with_added (books_of config events) (option_map (operator_number config) o) (book_entry e (period_of events))) none
        ∙ sym (books_without config events e empty)

    pub books_added : (e : Event) → IsOfCommand told e
        → with_added (books_of config events) (book_number config told) (book_entry e (period_of events)) ≡ books_of config (events ++ e ∷ [])
    books_added (event.Tariff tariff) own =
        in_book tariff.operator (event.Tariff tariff) (book.Tariff tariff) own.0 refl (books_with config events (event.Tariff tariff) (book.Tariff tariff) refl different)
    books_added (event.Token token) own = in_no_book (event.Token token) own.0 refl
    books_added (event.Authorised hold) own = in_no_book (event.Authorised hold) own.0 refl
    books_added (event.Released release) own = in_no_book (event.Released release) own.0 refl
    books_added (event.Cdr cdr cost) own =
        in_book cdr.operator (event.Cdr cdr cost) (book.Cdr cdr cost (period_of events)) own.0 refl
        (books_with config events (event.Cdr cdr cost) (book.Cdr cdr cost (period_of events)) refl different)
    books_added (event.Credit cdr amount) own =
        in_book cdr.operator (event.Credit cdr amount) (book.Credit cdr amount (period_of events)) own.0 refl
        (books_with config events (event.Credit cdr amount) (book.Credit cdr amount (period_of events)) refl different)
    books_added (event.Settled settlement) own = in_no_book (event.Settled settlement) own.0 refl
    books_added (event.Closed period) own = in_no_book (event.Closed period) own.0 refl

  -- ---- accounts

  module _ (different : all_different alike_providers config.providers ≡ true) where
    in_account : (provider : Party) (e : Event) (entry : AccountEntry) → provider_of_command told ≡ Some provider → account_entry e (period_of events) ≡ entry ∷ []
        → accounts_of config (events ++ e ∷ []) ≡ slice_set (accounts_of config events) (provider_number config provider) (own_account provider events ++ entry ∷ [])
        → with_added (accounts_of config events) (account_number config told) (account_entry e (period_of events)) ≡ accounts_of config (events ++ e ∷ [])
    in_account provider e entry own one pushed =
        ap₂ (λ (o : Option Party) (l : List AccountEntry). with_added (accounts_of config events) (option_map (provider_number config) o) l) own one
        ∙ added_at (accounts_of config events) (provider_number config provider) (own_account provider events) (entry ∷ []) (account_at config events provider (parties.provider provider own))
        ∙ sym pushed

    in_no_account : (e : Event) → provider_of_command told ≡ None → account_entry e (period_of events) ≡ []
        → with_added (accounts_of config events) (account_number config told) (account_entry e (period_of events)) ≡ accounts_of config (events ++ e ∷ [])
    in_no_account e none empty =
        ap (λ (o : Option Party). with_added (accounts_of config events) (option_map (provider_number config) o) (account_entry e (period_of events))) none
        ∙ sym (accounts_without config events e empty)

    pub accounts_added : (e : Event) → IsOfCommand told e
        → with_added (accounts_of config events) (account_number config told) (account_entry e (period_of events)) ≡ accounts_of config (events ++ e ∷ [])
    accounts_added (event.Tariff tariff) own = in_no_account (event.Tariff tariff) own.1 refl
    accounts_added (event.Token token) own =
        in_account token.provider (event.Token token) (account.Token token) own.1 refl (accounts_with config events (event.Token token) (account.Token token) refl different)
    accounts_added (event.Authorised hold) own =
        in_account hold.provider (event.Authorised hold) (account.Hold hold) own.1 refl (accounts_with config events (event.Authorised hold) (account.Hold hold) refl different)
    accounts_added (event.Released release) own =
        in_account release.provider (event.Released release) (account.Release release) own.1 refl (accounts_with config events (event.Released release) (account.Release release) refl different)
    accounts_added (event.Cdr cdr cost) own =
        in_account cdr.cdr_token.provider (event.Cdr cdr cost) (account.Charge (charge_of cdr cost (period_of events))) own.1 refl
        (accounts_with config events (event.Cdr cdr cost) (account.Charge (charge_of cdr cost (period_of events))) refl different)
    accounts_added (event.Credit cdr amount) own =
        in_account cdr.cdr_token.provider (event.Credit cdr amount) (account.Credit (credit_of cdr amount (period_of events))) own.1 refl
        (accounts_with config events (event.Credit cdr amount) (account.Credit (credit_of cdr amount (period_of events))) refl different)
    accounts_added (event.Settled settlement) own =
        in_account settlement.provider (event.Settled settlement) (account.Settlement settlement) own.1 refl
        (accounts_with config events (event.Settled settlement) (account.Settlement settlement) refl different)
    accounts_added (event.Closed period) own = in_no_account (event.Closed period) own.1 refl

  -- ---- what the order keeps

  -- with the lengths of the command's own book and account
  pub entry_is : (book account : ℕ) (e : Event) → IsOfCommand told e
      → ((operator : Party) → operator_of_command told ≡ Some operator → book ≡ length (own_book operator (book_entries events)))
      → ((provider : Party) → provider_of_command told ≡ Some provider → account ≡ length (own_account provider events))
      → order_entry config book account e ≡ order_entry config (book_size events e) (account_size events e) e
  entry_is book account (event.Tariff tariff) own books accounts =
      ap (λ n. order_entry config n 0 (event.Tariff tariff)) (books tariff.operator own.0)
  entry_is book account (event.Token token) own books accounts =
      ap (λ n. order_entry config 0 n (event.Token token)) (accounts token.provider own.1)
  entry_is book account (event.Authorised hold) own books accounts =
      ap (λ n. order_entry config 0 n (event.Authorised hold)) (accounts hold.provider own.1)
  entry_is book account (event.Released release) own books accounts =
      ap (λ n. order_entry config 0 n (event.Released release)) (accounts release.provider own.1)
  entry_is book account (event.Cdr cdr cost) own books accounts =
      ap₂ (λ n m. order_entry config n m (event.Cdr cdr cost)) (books cdr.operator own.0) (accounts cdr.cdr_token.provider own.1)
  entry_is book account (event.Credit cdr amount) own books accounts =
      ap₂ (λ n m. order_entry config n m (event.Credit cdr amount)) (books cdr.operator own.0) (accounts cdr.cdr_token.provider own.1)
  entry_is book account (event.Settled settlement) own books accounts =
      ap (λ n. order_entry config 0 n (event.Settled settlement)) (accounts settlement.provider own.1)
  entry_is book account (event.Closed period) own books accounts = refl
