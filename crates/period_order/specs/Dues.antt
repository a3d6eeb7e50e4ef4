-- What all operators are owed of a period, book by book.
use Rattle.std.specs.Prelude.{◌≡◌, ◌≤◌, ◌<◌, ◌^◌, ℕ, true, List, [], ◌∷◌, ◌++◌, length}
use Rattle.std.specs.List.{list_all}
use Rattle.ocpi_types.specs.declared.config.Config.{Config}
use Rattle.ocpi_types.specs.declared.config.Operator.{Operator}
use Rattle.ocpi_types.specs.declared.party.Party.{Party}
use Rattle.ocpi_types.specs.Config.{alike_operators, alike_providers}
use Rattle.ocpi_types.specs.Currency.{same_currency}
use Rattle.ocpi_types.specs.Different.{all_different}
use Rattle.netting_positions.specs.declared.obligation.Obligation.{Obligation}
use Rattle.netting_positions.specs.Netting.{is_configured, parties, total_size}
use Rattle.netting_positions.specs.SameSums.{OweAlike}
use Rattle.operator_book.specs.Due.{due, is_of_provider}
use Rattle.operator_book.specs.Together.{owed_by_all}
use Rattle.plain_house.specs.declared.entry.BookEntry.{BookEntry}
use Rattle.plain_house.specs.declared.event.Event.{Event}
use Rattle.plain_house.specs.Entries.{book_entries}
use Rattle.plain_house.specs.Legal.{IsLegal}
use Rattle.plain_house.specs.Obligations.{obligations}
use Rattle.plain_house.specs.Own.{own_book}
use Rattle.period_order.specs.Resolved.{books_of}

-- what each of these operators is owed by its own book
abbrev pub dues : List Operator → ℕ → List (List BookEntry) → List Obligation
dues [] period books = []
dues (operator ∷ operators) period [] = []
dues (operator ∷ operators) period (book ∷ books) = due operator.party period book ++ dues operators period books

-- the same with one obligation for each provider and currency of the configuration
abbrev pub sums : Config → List Operator → ℕ → List (List BookEntry) → List Obligation
sums config [] period books = []
sums config (operator ∷ operators) period [] = []
sums config (operator ∷ operators) period (book ∷ books) =
    owed_by_all operator.party (due operator.party period book) config.currencies config.providers ++ sums config operators period books

-- what all operators are owed of a period, as it is collected from their books
abbrev pub collected : Config → ℕ → List (List BookEntry) → List Obligation
collected config period books = sums config config.operators period books

-- an operator is owed the same by its own book as by all entries
abbrev pub DuesAreOfOwnBooks : Type 0
DuesAreOfOwnBooks =
    (operator : Party) (period : ℕ) (entries : List BookEntry) → due operator period (own_book operator entries) ≡ due operator period entries

-- providers of the configuration owe it, to parties and in currencies of the configuration
pub record AreOfProviders (config : Config) (owed : List Obligation) : Type 0 where
  pub providers : list_all (is_of_provider config) owed ≡ true
  pub configured : list_all (is_configured (parties config) config.currencies) owed ≡ true

-- and all of it together fits in 63 bits
pub record CanBeCollected (config : Config) (owed : List Obligation) : Type 0 where
  pub known : AreOfProviders config owed
  pub fits : total_size owed < 2 ^ 63

-- where no two currencies and no two providers of a configuration are the same, what is collected from books owes alike with what
-- the operators are owed
abbrev pub CollectedOwesAlike : Type 0
CollectedOwesAlike =
    (config : Config) (period : ℕ) (books : List (List BookEntry)) →
    all_different same_currency config.currencies ≡ true → all_different alike_providers config.providers ≡ true →
    CanBeCollected config (dues config.operators period books) → OweAlike (collected config period books) (dues config.operators period books)

-- of each period the books can be collected, and owe alike with what the events oblige to
pub record AreCollectable (config : Config) (books : List (List BookEntry)) (events : List Event) : Type 0 where
  pub can_be : (period : ℕ) → CanBeCollected config (dues config.operators period books)
  pub alike : (period : ℕ) → OweAlike (dues config.operators period books) (obligations period (book_entries events))

-- so are the books of a legal list, with up to 64 operators, of which no two are the same, of up to 100,000 CDRs each
abbrev pub BooksAreCollectable : Type 0
BooksAreCollectable =
    (config : Config) (events : List Event) → length config.operators ≤ 64 → config.limits.cdrs ≤ 100_000 →
    all_different alike_operators config.operators ≡ true → IsLegal config events → AreCollectable config (books_of config events) events
