-- What is so of each one history.
use Rattle.std.specs.Prelude.{◌≡◌, ℕ, ℤ, pos, true, List, ◌∷◌, ◌++◌, map}
use Rattle.ocpi_types.specs.declared.cdr.Cdr.{Cdr}
use Rattle.ocpi_types.specs.declared.config.Config.{Config}
use Rattle.ocpi_types.specs.Config.{alike_operators, alike_providers}
use Rattle.ocpi_types.specs.Different.{all_different}
use Rattle.netting_positions.specs.Netting.{net_position, parties, total}
use Rattle.plain_house.specs.declared.event.Event.{Event}
use Rattle.plain_house.specs.declared.event.Event.TheVariants as event
use Rattle.plain_house.specs.Entries.{account_entries, book_entries, period_of}
use Rattle.plain_house.specs.LegalLists.{IsCharged, IsTakenBack, KeepsLimits}
use Rattle.plain_house.specs.Obligations.{obligations}
use Rattle.shared_house.specs.declared.call.Call.{Call}
use Rattle.shared_house.specs.History.{IsOneHistory}

-- the events keep what is promised of a house
pub record KeepsPromises (config : Config) (events : List Event) : Type 0 where
  -- no exposure is above its limit, at any time
  pub limits : (before later : List Event) → events ≡ before ++ later → KeepsLimits config (account_entries before)
  -- each CDR costs its price, by registered tariffs, and has an id of its own
  pub charged : (before later : List Event) (cdr : Cdr) (cost : ℕ) → events ≡ before ++ event.Cdr cdr cost ∷ later → IsCharged config (book_entries before) cdr cost
  -- each Credit CDR takes back one CDR, once, in the window
  pub taken_back : (before later : List Event) (credit : Cdr) (amount : ℤ) → events ≡ before ++ event.Credit credit amount ∷ later → IsTakenBack config (book_entries before) (period_of before) credit amount
  -- in each period and currency the net positions of all parties add up to 0
  pub balanced :
      (period : ℕ) (currency : List ℕ) → all_different alike_operators config.operators ≡ true → all_different alike_providers config.providers ≡ true →
      total (map (λ party. net_position party currency (obligations period (book_entries events))) (parties config)) ≡ pos 0

abbrev pub HistoriesKeepPromises : Type 0
HistoriesKeepPromises = (config : Config) (events : List Event) (passes : List (List Call)) → IsOneHistory config events passes → KeepsPromises config events
