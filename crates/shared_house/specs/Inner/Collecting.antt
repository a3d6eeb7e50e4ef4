-- What a close or a statement collects from all books.
use Rattle.std.specs.Prelude.{All, ◌≡◌, ◌≤◌, ◌^◌, ℕ, List, length}
use Rattle.ocpi_types.specs.declared.config.Config.{Config}
use Rattle.ocpi_types.specs.declared.config.Operator.{Operator}
use Rattle.ocpi_types.specs.declared.party.Party.{Party}
use Rattle.cdr_checks.specs.declared.request.StatementOf.{StatementOf}
use Rattle.netting_positions.specs.declared.obligation.Obligation.{Obligation}
use Rattle.netting_positions.specs.declared.positions.NetPosition.{NetPosition}
use Rattle.netting_positions.specs.declared.row.StatementRow.{StatementRow}
use Rattle.netting_positions.specs.Netting.{total_size}
use Rattle.netting_positions.specs.SameSums.{OweAlike, SumsDecideNetPositions, SumsDecideStatements}
use Rattle.netting_positions.specs.Statement.{statement_rows}
use Rattle.operator_book.specs.Due.{due}
use Rattle.operator_book.specs.Laws.{SumsAreNoLarger}
use Rattle.plain_house.specs.declared.entry.BookEntry.{BookEntry}
use Rattle.plain_house.specs.House.{positions_in}
use Rattle.plain_house.specs.LegalEntries.{EmptyEntriesAreLegal, IsLegalBook, LegalBooksCanBeNetted}
use Rattle.plain_house.specs.Obligations.{obligations}
use Rattle.period_order.specs.Dues.{CollectedOwesAlike, DuesAreOfOwnBooks, sums}
use Rattle.shared_house.specs.Calls.{AreRead}

-- legal books of these operators were read, one of each: what they are owed of the period was added, by provider and currency
pub record IsCollecting (config : Config) (period : ℕ) (operators : List Operator) (owed : List Obligation) : Type 0 where
  pub books : List (List BookEntry)
  pub legal : All (IsLegalBook config) books
  pub one_each : length books ≡ length operators
  pub sums_are : owed ≡ sums config operators period books

-- what was collected owes alike with what the entries that were read oblige to
pub record IsCollected (config : Config) (period : ℕ) (owed : List Obligation) : Type 0 where
  pub entries : List BookEntry
  pub read : AreRead config entries
  pub alike : OweAlike owed (obligations period entries)

-- the net positions of entries that were read
pub record IsNetted (config : Config) (period : ℕ) (positions : List NetPosition) : Type 0 where
  pub entries : List BookEntry
  pub read : AreRead config entries
  pub positions_are : positions ≡ positions_in config entries period

-- the statement of entries that were read
pub record IsStated (config : Config) (ask : StatementOf) (rows : List StatementRow) : Type 0 where
  pub entries : List BookEntry
  pub read : AreRead config entries
  pub rows_are : rows ≡ statement_rows ask.party (obligations ask.period entries)

-- ---- laws

-- what a legal book owes an operator of a period is at most 10^17: 100,000 CDRs of 10^12
abbrev pub DuesAreBounded : Type 0
DuesAreBounded =
    (config : Config) (operator : Party) (period : ℕ) (entries : List BookEntry) → config.limits.cdrs ≤ 100_000 → IsLegalBook config entries →
    total_size (due operator period entries) ≤ 10 ^ 17

-- the laws that collecting stands on
pub record CollectingLaws : Type 0 where
  pub empty : EmptyEntriesAreLegal
  pub netted : LegalBooksCanBeNetted
  pub bounded : DuesAreBounded
  pub no_larger : SumsAreNoLarger
  pub own : DuesAreOfOwnBooks
  pub alike : CollectedOwesAlike
  pub positions : SumsDecideNetPositions
  pub statements : SumsDecideStatements
