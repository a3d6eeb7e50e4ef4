-- What an event that a line adds keeps to: limits, credit window and tolerance of the configuration in force at the line.
use Rattle.std.specs.Prelude.{◌≡◌, ◌≤◌, ◌⊎◌, ℕ, pos, true, List, [], ◌∷◌, ◌++◌, Some}
use Rattle.ocpi_types.specs.declared.config.Config.{Config}
use Rattle.ocpi_types.specs.declared.party.Party.{Party}
use Rattle.ocpi_types.specs.Config.{limit_of, pair_limit_of}
use Rattle.cdr_checks.specs.CdrConditions.{is_within_tolerance}
use Rattle.plain_house.specs.declared.entry.AccountEntry.{AccountEntry}
use Rattle.plain_house.specs.declared.event.Event.{Event}
use Rattle.plain_house.specs.declared.event.Event.TheVariants as event
use Rattle.plain_house.specs.Entries.{account_entries, book_entries, period_of}
use Rattle.plain_house.specs.Exposure.{exposure_of, of_pair, of_provider}
use Rattle.plain_house.specs.LegalLists.{IsCharged, IsTakenBack}
use Rattle.line_streams.specs.State.{StreamState}

-- ---- exposures

-- an exposure is at most its limit, or no higher than it was
abbrev pub IsCovered : ℕ → ℕ → ℕ → Type 0
IsCovered limit before after = (after ≤ limit) ⊎ (after ≤ before)

-- so is each exposure of a provider, and of a provider with one operator
pub record AreCovered (config : Config) (before after : List AccountEntry) : Type 0 where
  pub provider : (provider : Party) (currency : List ℕ) →
      IsCovered (limit_of config provider currency) (exposure_of (of_provider provider currency) before) (exposure_of (of_provider provider currency) after)
  pub pair : (operator provider : Party) (currency : List ℕ) (limit : ℕ) → pair_limit_of config operator provider currency ≡ Some limit →
      IsCovered limit (exposure_of (of_pair operator provider currency) before) (exposure_of (of_pair operator provider currency) after)

-- ---- what is booked

-- a CDR is charged its price, and declares that within the tolerance; a Credit CDR takes back the CDR that it names, in the credit
-- window and within the tolerance
abbrev pub IsBookedUnder : Config → List Event → Event → Type 0
IsBookedUnder config before (event.Tariff tariff) = Unit {0}
IsBookedUnder config before (event.Token token) = Unit {0}
IsBookedUnder config before (event.Authorised hold) = Unit {0}
IsBookedUnder config before (event.Released release) = Unit {0}
IsBookedUnder config before (event.Cdr cdr cost) =
    IsCharged config (book_entries before) cdr cost × (is_within_tolerance config.tolerance cdr.total_cost (pos cost) ≡ true)
IsBookedUnder config before (event.Credit credit amount) = IsTakenBack config (book_entries before) (period_of before) credit amount
IsBookedUnder config before (event.Settled settlement) = Unit {0}
IsBookedUnder config before (event.Closed period) = Unit {0}

-- ---- one event, and one line

-- the event after these keeps to the configuration
pub record KeepsTo (config : Config) (before : List Event) (event : Event) : Type 0 where
  pub covered : AreCovered config (account_entries before) (account_entries (before ++ event ∷ []))
  pub booked : IsBookedUnder config before event

-- no event is added, or one that keeps to the configuration in force before
abbrev pub AddsInForce : StreamState → StreamState → Type 0
AddsInForce state now =
    (now.house.events ≡ state.house.events)
    ⊎ ((event : Event) × (now.house.events ≡ state.house.events ++ event ∷ []) × KeepsTo state.house.config state.house.events event)
