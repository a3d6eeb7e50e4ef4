-- Bookings narrowed to a period, a currency, an operator and a provider, one after another, and the rows of what is left.
use Rattle.std.specs.Prelude.{ℕ, List, filter, flat_map, sum_by, unsigned_abs}
use Rattle.ocpi_types.specs.Currency.{same_currency}
use Rattle.ocpi_types.specs.Party.{same_party}
use Rattle.ocpi_types.specs.declared.party.Party.{Party}
use Rattle.cdr_checks.specs.declared.request.Settlement.{Settlement}
use Rattle.house_reports.specs.balances.Balances.{key_of, row_of}
use Rattle.house_reports.specs.balances.Laws.{is_in}
use Rattle.house_reports.specs.declared.balances.booking.Booking.{Booking}
use Rattle.house_reports.specs.declared.balances.row.Row.{Row}

-- how much is booked, on either side of 0
abbrev pub size : List Booking → ℕ
size bookings = sum_by (λ booking. unsigned_abs booking.amount) bookings

abbrev pub of_period : ℕ → List Booking → List Booking
of_period period bookings = filter (is_in period) bookings

abbrev pub of_currency : List ℕ → List Booking → List Booking
of_currency currency bookings = filter (λ booking. same_currency booking.currency currency) bookings

abbrev pub of_operator : Party → List Booking → List Booking
of_operator operator bookings = filter (λ booking. same_party booking.operator operator) bookings

abbrev pub of_provider : Party → List Booking → List Booking
of_provider provider bookings = filter (λ booking. same_party booking.provider provider) bookings

-- of bookings of one period, currency and operator: a row for each of these providers
abbrev pub rows_of_operator : List Settlement → ℕ → List ℕ → Party → List Party → List Booking → List Row
rows_of_operator settlements period currency operator providers bookings =
    flat_map (λ provider. row_of settlements (key_of period currency operator provider) (of_provider provider bookings)) providers

-- of bookings of one period and currency
abbrev pub rows_of_currency : List Settlement → ℕ → List ℕ → List Party → List Party → List Booking → List Row
rows_of_currency settlements period currency operators providers bookings =
    flat_map (λ operator. rows_of_operator settlements period currency operator providers (of_operator operator bookings)) operators

-- of bookings of one period
abbrev pub rows_of_period : List Settlement → ℕ → List (List ℕ) → List Party → List Party → List Booking → List Row
rows_of_period settlements period currencies operators providers bookings =
    flat_map (λ currency. rows_of_currency settlements period currency operators providers (of_currency currency bookings)) currencies
