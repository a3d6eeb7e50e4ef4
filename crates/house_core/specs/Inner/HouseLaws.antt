-- The laws of lists, books and the order that the steps stand on.
use Rattle.cdr_checks.specs.Parties.{CommandsHaveParties}
use Rattle.netting_positions.specs.SameSums.{SumsDecideNetPositions, SumsDecideStatements}
use Rattle.operator_book.specs.Laws.{SumsAreNoLarger}
use Rattle.period_order.specs.Dues.{BooksAreCollectable, CollectedOwesAlike, DuesAreOfOwnBooks}
use Rattle.period_order.specs.Kept.{EventsAreKept}
use Rattle.period_order.specs.Places.{OrdersAreCounted}
use Rattle.period_order.specs.Resolved.{OrdersAreResolved, PartiesStandAtTheirNumbers}
use Rattle.period_order.specs.Resolves.{OrdersResolve}
use Rattle.plain_house.specs.Entries.{EntriesAreDated}
use Rattle.plain_house.specs.Legal.{CommandsKeepListsLegal}
use Rattle.plain_house.specs.Obligations.{ClosedPeriodsStay}
use Rattle.plain_house.specs.Own.{VerdictsAreOfOwnEntries}

pub record HouseLaws : Type 0 where
  pub own : VerdictsAreOfOwnEntries
  pub legal : CommandsKeepListsLegal
  pub parties : CommandsHaveParties
  pub counted : OrdersAreCounted
  pub standing : PartiesStandAtTheirNumbers
  pub kept : EventsAreKept
  pub resolved : OrdersAreResolved
  pub resolve : OrdersResolve
  pub own_dues : DuesAreOfOwnBooks
  pub collectable : BooksAreCollectable
  pub collected : CollectedOwesAlike
  pub stay : ClosedPeriodsStay
  pub dated : EntriesAreDated
  pub net : SumsDecideNetPositions
  pub stated : SumsDecideStatements
  pub no_larger : SumsAreNoLarger
