-- The books and accounts of a legal list are legal by their own entries, and what follows for the list.
use Rattle.std.proofs.Common.{◌≡◌, List, [], ◌∷◌, ◌++◌, Bool, true, false, cond, refl, sym, ap, ◌∙◌, subst, append-nil, Option, Some}
use Rattle.std.proofs.lemmas.List.Elements.{filter-append, filter_agree}
use Rattle.ocpi_types.specs.declared.config.Config.{Config}
use Rattle.ocpi_types.specs.declared.party.Party.{Party}
use Rattle.ocpi_types.specs.Party.{same_party}
use Rattle.cdr_checks.specs.Law.{PostsAreChecked}
use Rattle.cdr_checks.specs.Parties.{operator_of_command, provider_of_command}
use Rattle.cdr_checks.specs.declared.request.Command.{Command}
use Rattle.plain_house.specs.declared.entry.AccountEntry.{AccountEntry}
use Rattle.plain_house.specs.declared.entry.AccountEntry.TheVariants as account
use Rattle.plain_house.specs.declared.entry.BookEntry.{BookEntry}
use Rattle.plain_house.specs.declared.entry.BookEntry.TheVariants as book
use Rattle.plain_house.specs.declared.event.Event.{Event}
use Rattle.plain_house.specs.declared.event.Event.TheVariants as event
use Rattle.plain_house.specs.Entries.{account_entries, account_entry, book_entries, book_entry, charge_of, credit_of, period_of}
use Rattle.plain_house.specs.Known.{known}
use Rattle.plain_house.specs.Legal.{IsGiven, IsLegal}
use Rattle.plain_house.specs.LegalEntries.{IsLegalAccount, IsLegalBook, LegalListsHaveLegalEntries}
use Rattle.plain_house.specs.LegalLists.{KeepsLimits, LegalListsCanBeNetted, LegalListsKeepLimits}
use Rattle.plain_house.specs.Own.{BooksAreOfOwnEntries, EventsAreOfTheirCommand, IsOfCommand, VerdictsAreOfOwnEntries, is_in_book_of, of_account, of_operator, own_account, own_book, own_known}
use Rattle.plain_house.specs.Full.{is_entry_of, own_entries}
use Rattle.plain_house.specs.Verdict.{Verdict}
use Rattle.plain_house.proofs.DatedLemmas.{are_dated}
use Rattle.plain_house.proofs.ExposureLater.{entries_push}
use Rattle.plain_house.proofs.GrownLemmas.{grown}
use Rattle.plain_house.proofs.LegalEntryLemmas.{account_after, account_as_is, account_keeps, account_push, book_after, book_as_is, book_push, book_sound, empty_legal}
use Rattle.plain_house.proofs.LegalLemmas.{legal_before, legal_empty, legal_push}
use Rattle.plain_house.proofs.NettingLemmas.{can_be_netted}
use Rattle.plain_house.proofs.OwnEntries.{entry_along}
use Rattle.plain_house.proofs.SoundLemmas.{AreSound}

books_push : (events : List Event) (e : Event) → book_entries (events ++ e ∷ []) ≡ book_entries events ++ book_entry e (period_of events)
books_push events e = (are_dated events e []).in_books ∙ ap (λ l. book_entries events ++ l) (append-nil (book_entry e (period_of events)))

-- ---- all books, and all accounts

pub all_books : (config : Config) (events : List Event) → IsLegal config events → IsLegalBook config (book_entries events)
unfolding IsLegal
all_books config events legal =
    grown (IsGiven config) (λ (events : List Event). IsLegalBook config (book_entries events))
    (λ before e given is. subst (IsLegalBook config) (sym (books_push before e)) (book_after config (known before) e is given)) (empty_legal config).in_book events legal

pub all_accounts : (config : Config) (events : List Event) → IsLegal config events → IsLegalAccount config (account_entries events)
unfolding IsLegal
all_accounts config events legal =
    grown (IsGiven config) (λ (events : List Event). IsLegalAccount config (account_entries events))
    (λ before e given is. subst (IsLegalAccount config) (sym (entries_push before e)) (account_after config (known before) e is given)) (empty_legal config).in_account events legal

-- ---- what follows for the list

pub legal_keeps : (config : Config) (events : List Event) → IsLegal config events → KeepsLimits config (account_entries events)
legal_keeps config events legal = account_keeps config (account_entries events) (all_accounts config events legal)

pub lists_keep : LegalListsKeepLimits
lists_keep config before later legal = legal_keeps config before (legal_before config before later legal)

pub legal_sound : PostsAreChecked → (config : Config) (events : List Event) → IsLegal config events → AreSound config (book_entries events)
legal_sound law config events legal = book_sound law config (book_entries events) (all_books config events legal)

pub lists_can_be_netted : PostsAreChecked → LegalListsCanBeNetted
lists_can_be_netted law config events operators cdrs legal = can_be_netted config (book_entries events) operators cdrs (legal_sound law config events legal)

-- ---- one operator's book

module _ (own_verdicts : VerdictsAreOfOwnEntries) (their : EventsAreOfTheirCommand) (config : Config) where
  module _ (books : BooksAreOfOwnEntries) (operator : Party) where
    abbrev HasLegalBook : List Event → Type 0
    HasLegalBook events = IsLegal config events × IsLegalBook config (own_book operator (book_entries events))

    module _ (events : List Event) (legal : IsLegal config events) (is : IsLegalBook config (own_book operator (book_entries events))) where
      abbrev own : List BookEntry
      own = own_book operator (book_entries events)

      -- an event that is this entry of some operator's book
      with_entry : (e : Event) (x : BookEntry) (its : Party) → book_entry e (period_of events) ≡ x ∷ [] → is_in_book_of operator x ≡ same_party its operator
          → IsGiven config events e → ((told : Command) → IsOfCommand told e → operator_of_command told ≡ Some its) → IsLegalBook config (own ++ own_book operator (x ∷ []))
      with_entry e x its kept in_book given named = by (is_in_book_of operator x) refl
        where
          by : (b : Bool) → is_in_book_of operator x ≡ b → IsLegalBook config (own ++ cond b (x ∷ []) [])
          by false other = book_as_is config own is
          by true its_own =
              let told = given.0 in
              let mine : operator_of_command told ≡ Some its = named told (their config (known events) told e given.2) in
              let same : same_party its operator ≡ true = sym in_book ∙ its_own in
              book_push config own x is (record {
                known = own_known told (known events);
                event = e;
                book_is = ap (λ (p : Option Party). of_operator p (book_entries events)) mine ∙ (books operator (book_entries events)).spelling its same;
                given = (told, given.1, ap (λ (v : Verdict). v.event) (own_verdicts config events told legal) ∙ given.2);
                kept = kept;
              })

      own_book_after : (e : Event) → IsGiven config events e → IsLegalBook config (own ++ own_book operator (book_entry e (period_of events)))
      own_book_after (event.Tariff tariff) given = with_entry (event.Tariff tariff) (book.Tariff tariff) tariff.operator refl refl given (λ told mine. mine.0)
      own_book_after (event.Token token) given = book_as_is config own is
      own_book_after (event.Authorised hold) given = book_as_is config own is
      own_book_after (event.Released release) given = book_as_is config own is
      own_book_after (event.Cdr cdr cost) given =
          with_entry (event.Cdr cdr cost) (book.Cdr cdr cost (period_of events)) cdr.operator refl refl given (λ told mine. mine.0)
      own_book_after (event.Credit cdr amount) given =
          with_entry (event.Credit cdr amount) (book.Credit cdr amount (period_of events)) cdr.operator refl refl given (λ told mine. mine.0)
      own_book_after (event.Settled settlement) given = book_as_is config own is
      own_book_after (event.Closed period) given = book_as_is config own is

    own_book_step : (before : List Event) (e : Event) → IsGiven config before e → HasLegalBook before → HasLegalBook (before ++ e ∷ [])
    own_book_step before e given has =
        let joined : own_book operator (book_entries (before ++ e ∷ [])) ≡ own_book operator (book_entries before) ++ own_book operator (book_entry e (period_of before)) =
        ap (own_book operator) (books_push before e) ∙ filter-append (is_in_book_of operator) (book_entries before) (book_entry e (period_of before)) in
        (legal_push config before e has.0 given, subst (IsLegalBook config) (sym joined) (own_book_after before has.0 has.1 e given))

    own_books : (events : List Event) → IsLegal config events → IsLegalBook config (own_book operator (book_entries events))
    unfolding IsLegal
    own_books events legal = (grown (IsGiven config) HasLegalBook own_book_step (legal_empty config, (empty_legal config).in_book) events legal).1

  -- ---- one provider's account

  module _ (provider : Party) where
    abbrev HasLegalAccount : List Event → Type 0
    HasLegalAccount events = IsLegal config events × IsLegalAccount config (own_account provider events)

    module _ (events : List Event) (legal : IsLegal config events) (is : IsLegalAccount config (own_account provider events)) where
      spelling : (party : Party) → same_party party provider ≡ true → own_entries party (account_entries events) ≡ own_account provider events
      spelling party same = filter_agree (is_entry_of party) (is_entry_of provider) (λ entry. entry_along party provider entry same) (account_entries events)

      with_account_entry : (e : Event) (x : AccountEntry) (its : Party) → account_entry e (period_of events) ≡ x ∷ [] → is_entry_of provider x ≡ same_party its provider
          → IsGiven config events e → ((told : Command) → IsOfCommand told e → provider_of_command told ≡ Some its)
          → IsLegalAccount config (own_account provider events ++ own_entries provider (x ∷ []))
      with_account_entry e x its kept in_account given named = by (is_entry_of provider x) refl
        where
          by : (b : Bool) → is_entry_of provider x ≡ b → IsLegalAccount config (own_account provider events ++ cond b (x ∷ []) [])
          by false other = account_as_is config (own_account provider events) is
          by true its_own =
              let told = given.0 in
              let mine : provider_of_command told ≡ Some its = named told (their config (known events) told e given.2) in
              let same : same_party its provider ≡ true = sym in_account ∙ its_own in
              account_push config (own_account provider events) x is (record {
                known = own_known told (known events);
                event = e;
                account_is = ap (λ (p : Option Party). of_account p (account_entries events)) mine ∙ spelling its same;
                given = (told, given.1, ap (λ (v : Verdict). v.event) (own_verdicts config events told legal) ∙ given.2);
                kept = kept;
              })

      own_account_after : (e : Event) → IsGiven config events e → IsLegalAccount config (own_account provider events ++ own_entries provider (account_entry e (period_of events)))
      own_account_after (event.Tariff tariff) given = account_as_is config (own_account provider events) is
      own_account_after (event.Token token) given = with_account_entry (event.Token token) (account.Token token) token.provider refl refl given (λ told mine. mine.1)
      own_account_after (event.Authorised hold) given = with_account_entry (event.Authorised hold) (account.Hold hold) hold.provider refl refl given (λ told mine. mine.1)
      own_account_after (event.Released release) given = with_account_entry (event.Released release) (account.Release release) release.provider refl refl given (λ told mine. mine.1)
      own_account_after (event.Cdr cdr cost) given =
          with_account_entry (event.Cdr cdr cost) (account.Charge (charge_of cdr cost (period_of events))) cdr.cdr_token.provider refl refl given (λ told mine. mine.1)
      own_account_after (event.Credit cdr amount) given =
          with_account_entry (event.Credit cdr amount) (account.Credit (credit_of cdr amount (period_of events))) cdr.cdr_token.provider refl refl given (λ told mine. mine.1)
      own_account_after (event.Settled settlement) given =
          with_account_entry (event.Settled settlement) (account.Settlement settlement) settlement.provider refl refl given (λ told mine. mine.1)
      own_account_after (event.Closed period) given = account_as_is config (own_account provider events) is

    own_account_step : (before : List Event) (e : Event) → IsGiven config before e → HasLegalAccount before → HasLegalAccount (before ++ e ∷ [])
    own_account_step before e given has =
        let joined : own_account provider (before ++ e ∷ []) ≡ own_account provider before ++ own_entries provider (account_entry e (period_of before)) =
        ap (own_entries provider) (entries_push before e) ∙ filter-append (is_entry_of provider) (account_entries before) (account_entry e (period_of before)) in
        (legal_push config before e has.0 given, subst (IsLegalAccount config) (sym joined) (own_account_after before has.0 has.1 e given))

    own_accounts : (events : List Event) → IsLegal config events → IsLegalAccount config (own_account provider events)
    unfolding IsLegal
    own_accounts events legal = (grown (IsGiven config) HasLegalAccount own_account_step (legal_empty config, (empty_legal config).in_account) events legal).1

pub lists_have_entries : VerdictsAreOfOwnEntries → EventsAreOfTheirCommand → BooksAreOfOwnEntries → LegalListsHaveLegalEntries
lists_have_entries own_verdicts their books config events legal = record {
  in_book = λ operator. own_books own_verdicts their config books operator events legal;
  in_account = λ provider. own_accounts own_verdicts their config provider events legal;
  in_books = all_books config events legal;
  in_accounts = all_accounts config events legal;
}
