-- The laws that are said of this crate's words.
use Rattle.std.proofs.Common.{refl, ap, subst}
use Rattle.cdr_checks.specs.Parties.{CommandsHaveParties}
use Rattle.netting_positions.specs.SameSums.{OperatorsOweAlike}
use Rattle.plain_house.specs.Known.{known}
use Rattle.plain_house.specs.Legal.{CommandsKeepListsLegal, IsLegal}
use Rattle.plain_house.specs.LegalLists.{LegalListsCanBeNetted}
use Rattle.plain_house.specs.Own.{EventsAreOfTheirCommand}
use Rattle.plain_house.specs.Replies.{with_event}
use Rattle.period_order.specs.Dues.{BooksAreCollectable}
use Rattle.period_order.specs.Kept.{EventsAreKept}
use Rattle.period_order.specs.Places.{OrdersAreCounted}
use Rattle.period_order.specs.Resolved.{PartiesStandAtTheirNumbers, books_of}
use Rattle.period_order.proofs.BooksLemmas.{account_at, book_at}
use Rattle.period_order.proofs.DuesLemmas.{are_collectable}
use Rattle.period_order.proofs.OrderLemmas.{accounts_named, books_named, current_is, point_is}
use Rattle.period_order.proofs.PerformLemmas.{keeps_event}

pub are_counted : OrdersAreCounted
are_counted config events = record {
  entries = point_is config events;
  closes = current_is config events;
  in_books = books_named config events;
  in_accounts = accounts_named config events;
}

pub stand_at_numbers : PartiesStandAtTheirNumbers
stand_at_numbers config events = record { operator = book_at config events; provider = account_at config events }

pub are_kept : CommandsHaveParties → CommandsKeepListsLegal → EventsAreOfTheirCommand → EventsAreKept
are_kept have keep their config books accounts order events told e in_book in_account distinct keeps admitted added lengths =
    keeps_event config books accounts order events keeps told (have config told admitted) e in_book in_account
    (subst (IsLegal config) (ap (with_event events) added) (keep config events told keeps.legal admitted)) (their config (known events) told e added)
    distinct.operators distinct.providers lengths.book lengths.account

pub collectable : LegalListsCanBeNetted → OperatorsOweAlike → BooksAreCollectable
collectable netted alike config events operators cdrs different legal =
    are_collectable config events different (netted config events operators cdrs legal) alike (books_of config events) refl
