-- What stands at the numbers of parties, where there is a book for each operator and an account for each provider.
use Rattle.std.proofs.Common.{◌≡◌, ◌<◌, ℕ, List, [], ◌∷◌, ◌++◌, true, refl, sym, ap, subst, ◌∙◌, length, map, slice_get, Option, None, Some, is_some, option_map, unwrap_or, IfSome, arith}
use Rattle.std.specs.Option.{option_and_then}
use Rattle.std.proofs.lemmas.List.{length-map, length-set}
use Rattle.std.proofs.lemmas.Option.{slice_get-get_or, slice_get-map, slice_get_within}
use Rattle.ocpi_types.specs.declared.config.Config.{Config}
use Rattle.ocpi_types.specs.declared.party.Party.{Party}
use Rattle.ocpi_types.specs.Config.{is_operator, is_provider}
use Rattle.cdr_checks.specs.declared.request.Command.{Command}
use Rattle.cdr_checks.specs.Parties.{HasParties, operator_of_command, provider_of_command}
use Rattle.plain_house.specs.declared.event.Event.{Event}
use Rattle.plain_house.specs.Entries.{book_entries}
use Rattle.plain_house.specs.Own.{own_account, own_book}
use Rattle.operator_book.specs.State.{PlainBook}
use Rattle.provider_account.specs.State.{PlainAccount}
use Rattle.period_order.specs.Decided.{AccountTakes, BookTakes}
use Rattle.period_order.specs.Inner.Kept.{AccountTakesAt, BookTakesAt, OneEach, with_event_added}
use Rattle.period_order.specs.Kept.{Keeps, account_number, book_number, with_added}
use Rattle.period_order.specs.Order.{PlainOrder}
use Rattle.period_order.specs.Places.{operator_number, provider_number}
use Rattle.period_order.specs.Resolved.{accounts_of, books_of, entries_of_accounts, entries_of_books}
use Rattle.period_order.proofs.BooksLemmas.{account_at, book_at}
use Rattle.period_order.proofs.PerformLemmas.{given_at}

-- ---- numbers

-- a number within has something
there : {X : Type 0} (items : List X) (number : ℕ) → number < length items → is_some (slice_get items number) ≡ true
there [] number h = absurd (omega (arith, h))
there (x ∷ items) number h = ap is_some (slice_get-get_or (x ∷ items) number x h)

given_within : {X : Type 0} (items : List X) (number : Option ℕ) → IfSome number (λ n. n < length items)
    → is_some (option_and_then (slice_get items) number) ≡ is_some number
given_within items None h = refl
given_within items (Some number) h = there items number h

numbered : (party : Option Party) (number : Party → ℕ) → is_some (option_map number party) ≡ is_some party
numbered None number = refl
numbered (Some party) number = refl

pub operator_within : (config : Config) (operator : Party) → is_operator config operator ≡ true → operator_number config operator < length config.operators
operator_within config operator known =
    subst (λ n. operator_number config operator < n) (length-map config.operators (λ operator. own_book operator.party (book_entries [])))
    (slice_get_within (books_of config []) (operator_number config operator) (own_book operator (book_entries [])) (book_at config [] operator known))

pub provider_within : (config : Config) (provider : Party) → is_provider config provider ≡ true → provider_number config provider < length config.providers
provider_within config provider known =
    subst (λ n. provider_number config provider < n) (length-map config.providers (λ provider. own_account provider.party []))
    (slice_get_within (accounts_of config []) (provider_number config provider) (own_account provider []) (account_at config [] provider known))

-- ---- a command's

module _ (config : Config) (told : Command) (parties : HasParties config told) where
  module _ (books : List PlainBook) (each : length (entries_of_books books) ≡ length config.operators) where
    pub book_within : IfSome (book_number config told) (λ n. n < length books)
    book_within = by (operator_of_command told) refl
      where
        by : (o : Option Party) → operator_of_command told ≡ o → IfSome (option_map (operator_number config) o) (λ n. n < length books)
        by None e = tt
        by (Some operator) e =
            subst (λ n. operator_number config operator < n) (sym each ∙ length-map books (λ book. book.entries))
            (operator_within config operator (parties.operator operator e))

    pub is_given_book : is_some (option_and_then (slice_get books) (book_number config told)) ≡ is_some (operator_of_command told)
    is_given_book = given_within books (book_number config told) book_within ∙ numbered (operator_of_command told) (operator_number config)

  module _ (accounts : List PlainAccount) (each : length (entries_of_accounts accounts) ≡ length config.providers) where
    pub account_within : IfSome (account_number config told) (λ n. n < length accounts)
    account_within = by (provider_of_command told) refl
      where
        by : (o : Option Party) → provider_of_command told ≡ o → IfSome (option_map (provider_number config) o) (λ n. n < length accounts)
        by None e = tt
        by (Some provider) e =
            subst (λ n. provider_number config provider < n) (sym each ∙ length-map accounts (λ account. account.entries))
            (provider_within config provider (parties.provider provider e))

    pub is_given_account : is_some (option_and_then (slice_get accounts) (account_number config told)) ≡ is_some (provider_of_command told)
    is_given_account = given_within accounts (account_number config told) account_within ∙ numbered (provider_of_command told) (provider_number config)

-- ---- the same number of them

-- of a list that is kept
pub each_kept : (config : Config) (books : List PlainBook) (accounts : List PlainAccount) (order : PlainOrder) (events : List Event)
    → Keeps config (entries_of_books books) (entries_of_accounts accounts) order.entries events
    → OneEach config (entries_of_books books) (entries_of_accounts accounts)
each_kept config books accounts order events keeps = record {
  of_operators = ap length keeps.books_are ∙ length-map config.operators (λ operator. own_book operator.party (book_entries events));
  of_providers = ap length keeps.accounts_are ∙ length-map config.providers (λ provider. own_account provider.party events);
}

pub length_added : {X : Type 0} (lists : List (List X)) (number : Option ℕ) (added : List X) → length (with_added lists number added) ≡ length lists
length_added lists None added = refl
length_added lists (Some number) added = length-set lists number (unwrap_or (slice_get lists number) [] ++ added)

pub length_event_added : {X : Type 0} (lists : List (List X)) (number : Option ℕ) (added : Event → List X) (event : Option Event)
    → length (with_event_added lists number added event) ≡ length lists
length_event_added lists number added None = refl
length_event_added lists number added (Some event) = length_added lists number (added event)

-- ---- room made for one more entry

-- the numbers stay within
pub still_within : {X Y : Type 0} (f : X → Y) (items now : List X) (number : Option ℕ) → map f now ≡ map f items
    → IfSome number (λ n. n < length items) → IfSome number (λ n. n < length now)
still_within f items now None same h = tt
still_within f items now (Some number) same h =
    subst (λ n. number < n) (sym (length-map items f) ∙ ap length (sym same) ∙ length-map now f) h

-- and what is taken is taken
pub book_still_takes : (books now : List PlainBook) (number : Option ℕ) (e : Event) → entries_of_books now ≡ entries_of_books books
    → BookTakesAt books number e → BookTakesAt now number e
book_still_takes books now None e same takes = tt
book_still_takes books now (Some number) e same takes = λ book found.
    let given = given_at (λ book. book.entries) books number book.entries
    (ap (λ l. slice_get l number) (sym same) ∙ slice_get-map (λ book. book.entries) now number ∙ ap (option_map (λ book. book.entries)) found) in
    subst (λ l. BookTakes l e) (sym given.2) (takes given.0 given.1)

pub account_still_takes : (accounts now : List PlainAccount) (number : Option ℕ) (period : ℕ) (e : Event) → entries_of_accounts now ≡ entries_of_accounts accounts
    → AccountTakesAt accounts number period e → AccountTakesAt now number period e
account_still_takes accounts now None period e same takes = tt
account_still_takes accounts now (Some number) period e same takes = λ account found.
    let given = given_at (λ account. account.entries) accounts number account.entries
    (ap (λ l. slice_get l number) (sym same) ∙ slice_get-map (λ account. account.entries) now number ∙ ap (option_map (λ account. account.entries)) found) in
    subst (λ l. AccountTakes l period e) (sym given.2) (takes given.0 given.1)
