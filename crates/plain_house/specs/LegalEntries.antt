-- The entries that an operator's book and a provider's account can hold, said of one book and of one account alone.
use Rattle.std.specs.Prelude.{◌≡◌, ◌≤◌, ℕ, ℤ, length, count_by, List, [], ◌∷◌, ◌++◌}
use Rattle.ocpi_types.specs.declared.cdr.Cdr.{Cdr}
use Rattle.ocpi_types.specs.declared.config.Config.{Config}
use Rattle.ocpi_types.specs.declared.party.Party.{Party}
use Rattle.plain_house.specs.declared.entry.AccountEntry.{AccountEntry}
use Rattle.plain_house.specs.declared.entry.BookEntry.{BookEntry}
use Rattle.plain_house.specs.declared.entry.BookEntry.TheVariants as book
use Rattle.plain_house.specs.declared.event.Event.{Event}
use Rattle.plain_house.specs.Entries.{account_entries, account_entry, book_entries, book_entry}
use Rattle.plain_house.specs.Known.{Known}
use Rattle.plain_house.specs.Legal.{IsGivenBy, IsLegal}
use Rattle.plain_house.specs.LegalLists.{CanBeNetted, IsCharged, IsTakenBack, KeepsLimits}
use Rattle.plain_house.specs.Own.{own_account, own_book}
use Rattle.plain_house.specs.Full.{is_cdr_of, is_entry_of, is_version_of}

-- ---- books

-- what is put next in a book that has these entries: what it keeps of the event that some admitted command adds, where these
-- are what is known of the book, and the rest of what is known is anything
pub record IsGivenToBook (config : Config) (before : List BookEntry) (entry : BookEntry) : Type 0 where
  pub known : Known
  pub event : Event
  pub book_is : known.book ≡ before
  pub given : IsGivenBy config known event
  pub kept : book_entry event known.period ≡ entry ∷ []

-- each entry is given to those before it
unfoldable pub IsLegalBook : Config → List BookEntry → Type 0
IsLegalBook config entries =
    (before : List BookEntry) (entry : BookEntry) (later : List BookEntry) → entries ≡ before ++ entry ∷ later → IsGivenToBook config before entry

-- ---- accounts

-- what is put next in an account that has these entries, in the same way
pub record IsGivenToAccount (config : Config) (before : List AccountEntry) (entry : AccountEntry) : Type 0 where
  pub known : Known
  pub event : Event
  pub account_is : known.account ≡ before
  pub given : IsGivenBy config known event
  pub kept : account_entry event known.period ≡ entry ∷ []

unfoldable pub IsLegalAccount : Config → List AccountEntry → Type 0
IsLegalAccount config entries =
    (before : List AccountEntry) (entry : AccountEntry) (later : List AccountEntry) → entries ≡ before ++ entry ∷ later → IsGivenToAccount config before entry

-- ---- how they grow

-- a book without entries and an account without entries are legal
pub record AreLegalEmpty (config : Config) : Type 0 where
  pub in_book : IsLegalBook config []
  pub in_account : IsLegalAccount config []

abbrev pub EmptyEntriesAreLegal : Type 0
EmptyEntriesAreLegal = (config : Config) → AreLegalEmpty config

-- what stands before an entry of a legal book is a legal book
abbrev pub LegalBooksBeginLegally : Type 0
LegalBooksBeginLegally = (config : Config) (before later : List BookEntry) → IsLegalBook config (before ++ later) → IsLegalBook config before

abbrev pub LegalAccountsBeginLegally : Type 0
LegalAccountsBeginLegally =
    (config : Config) (before later : List AccountEntry) → IsLegalAccount config (before ++ later) → IsLegalAccount config before

-- where a book is what is known of it, what it keeps of the event that an admitted command adds makes a legal book of it
abbrev pub EventsKeepBooksLegal : Type 0
EventsKeepBooksLegal =
    (config : Config) (known : Known) (event : Event) → IsLegalBook config known.book → IsGivenBy config known event →
    IsLegalBook config (known.book ++ book_entry event known.period)

abbrev pub EventsKeepAccountsLegal : Type 0
EventsKeepAccountsLegal =
    (config : Config) (known : Known) (event : Event) → IsLegalAccount config known.account → IsGivenBy config known event →
    IsLegalAccount config (known.account ++ account_entry event known.period)

-- ---- those of a legal list

-- each operator's book and each provider's account is legal by its own entries; so are the entries of all books, and those
-- of all accounts, as if they were of one
pub record HasLegalEntries (config : Config) (events : List Event) : Type 0 where
  pub in_book : (operator : Party) → IsLegalBook config (own_book operator (book_entries events))
  pub in_account : (provider : Party) → IsLegalAccount config (own_account provider events)
  pub in_books : IsLegalBook config (book_entries events)
  pub in_accounts : IsLegalAccount config (account_entries events)

abbrev pub LegalListsHaveLegalEntries : Type 0
LegalListsHaveLegalEntries = (config : Config) (events : List Event) → IsLegal config events → HasLegalEntries config events

-- ---- what is true of legal entries

-- a legal account keeps the limits on each of its beginnings
abbrev pub LegalAccountsKeepLimits : Type 0
LegalAccountsKeepLimits =
    (config : Config) (before later : List AccountEntry) → IsLegalAccount config (before ++ later) → KeepsLimits config before

-- no account has more entries than may be
abbrev pub LegalAccountsHaveRoom : Type 0
LegalAccountsHaveRoom =
    (config : Config) (entries : List AccountEntry) (provider : Party) → IsLegalAccount config entries →
    count_by (is_entry_of provider) entries ≤ config.limits.entries

-- no operator has more CDRs, nor more tariff versions, than may be
pub record HasBookRoom (config : Config) (entries : List BookEntry) (operator : Party) : Type 0 where
  pub cdrs : count_by (is_cdr_of operator) entries ≤ config.limits.cdrs
  pub versions : count_by (is_version_of operator) entries ≤ config.limits.tariffs

abbrev pub LegalBooksHaveRoom : Type 0
LegalBooksHaveRoom =
    (config : Config) (entries : List BookEntry) (operator : Party) → IsLegalBook config entries → HasBookRoom config entries operator

abbrev pub LegalBooksAreCharged : Type 0
LegalBooksAreCharged =
    (config : Config) (before later : List BookEntry) (cdr : Cdr) (cost period : ℕ) → IsLegalBook config (before ++ book.Cdr cdr cost period ∷ later) →
    IsCharged config before cdr cost

abbrev pub LegalBooksAreTakenBack : Type 0
LegalBooksAreTakenBack =
    (config : Config) (before later : List BookEntry) (credit : Cdr) (amount : ℤ) (period : ℕ) →
    IsLegalBook config (before ++ book.Credit credit amount period ∷ later) → IsTakenBack config before period credit amount

-- with up to 64 operators of up to 100,000 CDRs each
abbrev pub LegalBooksCanBeNetted : Type 0
LegalBooksCanBeNetted =
    (config : Config) (entries : List BookEntry) → length config.operators ≤ 64 → config.limits.cdrs ≤ 100_000 → IsLegalBook config entries →
    CanBeNetted config entries
