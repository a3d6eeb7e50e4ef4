-- What each provider owes each operator, period by period and currency by currency.
use Rattle.std.specs.Prelude.{ℕ, zero, suc, ◌==◌, ℤ, ◌-ℤ◌, List, [], ◌∷◌, ◌++◌, Bool, ◌&&◌, filter, flat_map, map}
use Rattle.ocpi_types.specs.Config.{as_configured}
use Rattle.ocpi_types.specs.Currency.{same_currency}
use Rattle.ocpi_types.specs.Party.{same_party}
use Rattle.ocpi_types.specs.declared.config.Config.{Config}
use Rattle.ocpi_types.specs.declared.party.Party.{Party}
use Rattle.cdr_checks.specs.declared.request.Settlement.{Settlement}
use Rattle.netting_positions.specs.Netting.{total}
use Rattle.plain_house.specs.declared.event.Event.{Event}
use Rattle.plain_house.specs.Entries.{period_of}
use Rattle.house_reports.specs.balances.Bookings.{bookings, is_settled, settlements}
use Rattle.house_reports.specs.declared.balances.booking.Booking.{Booking}
use Rattle.house_reports.specs.declared.balances.row.RowKey.{RowKey}
use Rattle.house_reports.specs.declared.balances.row.Row.{Row}

-- ---- sums

-- CDRs less Credit CDRs
abbrev pub owed : List Booking → ℤ
owed bookings = total (map (λ booking. booking.amount) bookings)

-- what of it is settled
abbrev pub settled : List Settlement → List Booking → ℤ
settled settlements bookings = owed (filter (is_settled settlements) bookings)

abbrev pub sums_of : List Settlement → RowKey → List Booking → Row
sums_of settlements key bookings = record {
  key = key;
  owed = owed bookings;
  settled = settled settlements bookings;
  outstanding = owed bookings -ℤ settled settlements bookings;
}

-- ---- rows

-- no row where nothing is booked
abbrev pub row_of : List Settlement → RowKey → List Booking → List Row
row_of settlements key [] = []
row_of settlements key (booking ∷ more) = sums_of settlements key (booking ∷ more) ∷ []

abbrev pub is_of : RowKey → Booking → Bool
is_of key booking =
    (booking.period == key.period) && same_currency booking.currency key.currency
    && same_party booking.operator key.operator && same_party booking.provider key.provider

-- the row of what is booked by the key
abbrev pub row_at : List Settlement → List Booking → RowKey → List Row
row_at settlements bookings key = row_of settlements key (filter (is_of key) bookings)

abbrev pub operators : Config → List Party
operators config = map (λ operator. operator.party) config.operators

-- a party that is an operator too is spelled as the operator
abbrev pub providers : Config → List Party
providers config = map (λ provider. as_configured config provider.party) config.providers

abbrev pub key_of : ℕ → List ℕ → Party → Party → RowKey
key_of period currency operator provider =
    record { period = period; currency = currency; operator = operator; provider = provider }

-- by currency, operator and provider, each in the order of the configuration
abbrev pub row_keys_in : Config → ℕ → List RowKey
row_keys_in config period =
    flat_map (λ currency. flat_map (λ operator. map (key_of period currency operator) (providers config)) (operators config)) config.currencies

-- those of so many periods, from 0
abbrev pub row_keys : Config → ℕ → List RowKey
row_keys config zero = []
row_keys config (suc period) = row_keys config period ++ row_keys_in config period

-- a row for each key by which something is booked, up to the current period
abbrev pub rows : Config → List Event → List Row
rows config events = flat_map (row_at (settlements events) (bookings events)) (row_keys config (suc (period_of events)))
