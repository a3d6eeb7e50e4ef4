-- The laws of commands, verdicts and entries that the house stands on.
use Rattle.period_order.specs.Decided.{OutcomesAreVerdicts}
use Rattle.plain_house.specs.Laws.{RepliesTellEvents, VerdictsAreTold}
use Rattle.plain_house.specs.LegalEntries.{EmptyEntriesAreLegal, EventsKeepAccountsLegal, EventsKeepBooksLegal}
use Rattle.plain_house.specs.Own.{EventsAreOfTheirCommand}

pub record HouseLaws : Type 0 where
  pub told : VerdictsAreTold
  pub tell : RepliesTellEvents
  pub outcomes : OutcomesAreVerdicts
  pub their : EventsAreOfTheirCommand
  pub empty : EmptyEntriesAreLegal
  pub books : EventsKeepBooksLegal
  pub accounts : EventsKeepAccountsLegal
