-- An event put as it is given, and a command decided, behind a list that is kept.
use Rattle.std.proofs.Common.{◌≡◌, List, [], ◌∷◌, ◌++◌, refl, subst, ◌∙◌, slice_get, Option, option_map}
use Rattle.std.specs.Option.{option_and_then}
use Rattle.ocpi_types.specs.declared.config.Config.{Config}
use Rattle.ocpi_types.specs.declared.party.Party.{Party}
use Rattle.cdr_checks.specs.declared.request.Command.{Command}
use Rattle.cdr_checks.specs.Parties.{CommandsHaveParties, operator_of_command, provider_of_command}
use Rattle.operator_book.specs.State.{PlainBook}
use Rattle.provider_account.specs.State.{PlainAccount}
use Rattle.plain_house.specs.declared.entry.AccountEntry.{AccountEntry}
use Rattle.plain_house.specs.declared.entry.BookEntry.{BookEntry}
use Rattle.plain_house.specs.declared.event.Event.{Event}
use Rattle.plain_house.specs.declared.event.Event.TheVariants as event
use Rattle.plain_house.specs.Entries.{account_entry, book_entry}
use Rattle.plain_house.specs.Legal.{IsGiven, IsLegal}
use Rattle.plain_house.specs.Own.{EventsAreOfTheirCommand, IsOfCommand}
use Rattle.plain_house.specs.Known.{known}
use Rattle.period_order.specs.declared.order_entry.OrderEntry.{OrderEntry}
use Rattle.period_order.specs.Decided.{account_length, book_length}
use Rattle.period_order.specs.Inner.EventParties.{account_of_event, book_of_event, operator_of_event, provider_of_event}
use Rattle.period_order.specs.Kept.{AreDistinct, EventsAreKept, Keeps, with_added}
use Rattle.period_order.specs.Order.{PlainOrder, current_of}
use Rattle.period_order.specs.Places.{operator_number, order_entry, provider_number}
use Rattle.period_order.specs.Resolved.{entries_of_accounts, entries_of_books}
use Rattle.period_order.proofs.PerformLemmas.{account_size_is, book_size_is}

-- the last event of a legal list is given on those before it
pub last_given : (config : Config) (events : List Event) (e : Event) → IsLegal config (events ++ e ∷ []) → IsGiven config events e
unfolding IsLegal
last_given config events e legal = legal events e [] refl

-- ---- the parties of an event are those of its command

pub same_operator : (told : Command) (e : Event) → IsOfCommand told e → operator_of_command told ≡ operator_of_event e
same_operator told (event.Tariff tariff) own = own.0
same_operator told (event.Token token) own = own.0
same_operator told (event.Authorised hold) own = own.0
same_operator told (event.Released release) own = own.0
same_operator told (event.Cdr cdr cost) own = own.0
same_operator told (event.Credit cdr amount) own = own.0
same_operator told (event.Settled settlement) own = own.0
same_operator told (event.Closed period) own = own.0

pub same_provider : (told : Command) (e : Event) → IsOfCommand told e → provider_of_command told ≡ provider_of_event e
same_provider told (event.Tariff tariff) own = own.1
same_provider told (event.Token token) own = own.1
same_provider told (event.Authorised hold) own = own.1
same_provider told (event.Released release) own = own.1
same_provider told (event.Cdr cdr cost) own = own.1
same_provider told (event.Credit cdr amount) own = own.1
same_provider told (event.Settled settlement) own = own.1
same_provider told (event.Closed period) own = own.1

-- ---- the event put

module _ (config : Config) (books : List PlainBook) (accounts : List PlainAccount) (order : PlainOrder) (events : List Event)
    (keeps : Keeps config (entries_of_books books) (entries_of_accounts accounts) order.entries events) (e : Event) where
  -- books, accounts and order with the event of this operator and this provider keep it
  abbrev KeepsWith : Option Party → Option Party → Type 0
  KeepsWith operator provider =
      Keeps config
      (with_added (entries_of_books books) (option_map (operator_number config) operator) (book_entry e (current_of order)))
      (with_added (entries_of_accounts accounts) (option_map (provider_number config) provider) (account_entry e (current_of order)))
      (order.entries ++ order_entry config (book_length (option_and_then (slice_get books) (option_map (operator_number config) operator)))
      (account_length (option_and_then (slice_get accounts) (option_map (provider_number config) provider))) e ∷ [])
      (events ++ e ∷ [])

  with_parties : CommandsHaveParties → EventsAreOfTheirCommand → EventsAreKept → AreDistinct config → IsGiven config events e
      → KeepsWith (operator_of_event e) (provider_of_event e)
  with_parties have their law distinct given =
      let told : Command = given.0 in
      let admitted = given.1 in
      let added = given.2 in
      let parties = have config told admitted in
      let own : IsOfCommand told e = their config (known events) told e added in
      let of_command : KeepsWith (operator_of_command told) (provider_of_command told) =
      law config (entries_of_books books) (entries_of_accounts accounts) order.entries events told e _ _ distinct keeps admitted added
      (record { book = book_size_is config books accounts order events keeps told parties; account = account_size_is config books accounts order events keeps told parties }) in
      subst (λ (o : Option Party). KeepsWith o (provider_of_event e)) (same_operator told e own)
      (subst (λ (o : Option Party). KeepsWith (operator_of_command told) o) (same_provider told e own) of_command)

  pub keeps_given : CommandsHaveParties → EventsAreOfTheirCommand → EventsAreKept → AreDistinct config → IsLegal config (events ++ e ∷ [])
      → (now_books : List (List BookEntry)) (now_accounts : List (List AccountEntry)) (now : List OrderEntry)
      → now_books ≡ with_added (entries_of_books books) (book_of_event config e) (book_entry e (current_of order))
      → now_accounts ≡ with_added (entries_of_accounts accounts) (account_of_event config e) (account_entry e (current_of order))
      → now ≡ order.entries ++ order_entry config (book_length (option_and_then (slice_get books) (book_of_event config e)))
      (account_length (option_and_then (slice_get accounts) (account_of_event config e))) e ∷ []
      → Keeps config now_books now_accounts now (events ++ e ∷ [])
  keeps_given have their law distinct legal now_books now_accounts now b a o =
      let kept = with_parties have their law distinct (last_given config events e legal) in
      record { legal = kept.legal; books_are = b ∙ kept.books_are; accounts_are = a ∙ kept.accounts_are; order_is = o ∙ kept.order_is }
