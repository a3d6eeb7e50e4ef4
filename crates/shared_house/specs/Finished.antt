-- What the end of a house says.
use Rattle.std.specs.Prelude.{All, ◌≡◌, ◌≤◌, ◌*◌, ◌^◌, ℕ, List, [], count_by, length, sum_by}
use Rattle.ocpi_types.specs.declared.config.Config.{Config}
use Rattle.period_order.specs.declared.order_entry.OrderEntry.{OrderEntry}
use Rattle.period_order.specs.Order.{names_account, names_book}
use Rattle.plain_house.specs.declared.entry.AccountEntry.{AccountEntry}
use Rattle.plain_house.specs.declared.entry.BookEntry.{BookEntry}
use Rattle.plain_house.specs.declared.event.Event.{Event}
use Rattle.plain_house.specs.LegalEntries.{IsLegalAccount, IsLegalBook}
use Rattle.shared_house.specs.declared.call.Call.{Call}
use Rattle.shared_house.specs.Calls.{call_adds_event}
use Rattle.shared_house.specs.Certified.{IsCertified, IsTornFirst}
use Rattle.shared_house.specs.Counts.{total_of_account, total_of_book}
use Rattle.shared_house.specs.History.{IsOneHistory}
use Rattle.shared_house.specs.Points.{AreAllAdmitted}

-- what the locks and these passes held: a legal book of each operator and a legal account of each provider, of which the order names
-- as many entries as they have, with one amount over the books and over the accounts; and an entry of the order for each call of the
-- passes that added an event, and no other
pub record AreHeld (config : Config) (passes : List (List Call)) (books : List (List BookEntry)) (accounts : List (List AccountEntry)) (order : List OrderEntry) : Type 0 where
  pub each_operator : length books ≡ length config.operators
  pub each_provider : length accounts ≡ length config.providers
  pub legal_books : All (IsLegalBook config) books
  pub legal_accounts : All (IsLegalAccount config) accounts
  pub books_counted : count_by names_book order ≡ sum_by length books
  pub accounts_counted : count_by names_account order ≡ sum_by length accounts
  pub one_amount : sum_by total_of_book books ≡ sum_by total_of_account accounts
  pub events_counted : length order ≡ sum_by (λ calls. count_by call_adds_event calls) passes
  -- in ten-thousandths, at most 10^12 for each entry of the order
  pub bounded : sum_by total_of_book books ≤ 10 ^ 12 * length order
  pub admitted : AreAllAdmitted config passes

-- the events are those that the order named in what the locks held, and they and the calls of all passes are one history
pub record IsFinished (config : Config) (passes : List (List Call)) (events : List Event) : Type 0 where
  pub books : List (List BookEntry)
  pub accounts : List (List AccountEntry)
  pub order : List OrderEntry
  pub held : AreHeld config passes books accounts order
  pub certified : IsCertified config books accounts order passes events

-- what the locks held and the calls of all passes are torn at this number, and at no smaller one
pub record IsTornInEnd (config : Config) (passes : List (List Call)) (number : ℕ) : Type 0 where
  pub books : List (List BookEntry)
  pub accounts : List (List AccountEntry)
  pub order : List OrderEntry
  pub held : AreHeld config passes books accounts order
  pub torn : IsTornFirst config books accounts order passes number

-- calls that are one history without an event are torn nowhere, whatever the locks are said to have held
abbrev pub NothingIsTornWithoutEvents : Type 0
NothingIsTornWithoutEvents = (config : Config) (passes : List (List Call)) (number : ℕ) → IsOneHistory config [] passes → IsTornInEnd config passes number → ⊥
