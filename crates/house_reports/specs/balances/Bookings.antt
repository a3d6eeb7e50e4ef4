-- What is booked of a list of events, and which of it is settled.
use Rattle.std.specs.Prelude.{ℕ, ◌==◌, ℤ, pos, List, [], ◌∷◌, Bool, ◌&&◌, flat_map}
use Rattle.std.specs.List.{list_any}
use Rattle.ocpi_types.specs.Currency.{same_currency}
use Rattle.ocpi_types.specs.Party.{same_party}
use Rattle.ocpi_types.specs.declared.cdr.Cdr.{Cdr}
use Rattle.cdr_checks.specs.declared.request.Settlement.{Settlement}
use Rattle.plain_house.specs.declared.event.Event.{Event}
use Rattle.plain_house.specs.declared.event.Event.TheVariants as event
use Rattle.plain_house.specs.Entries.{dated_from}
use Rattle.house_reports.specs.declared.balances.booking.Booking.{Booking}

-- ---- bookings

abbrev pub booking_of : Cdr → ℤ → ℕ → Booking
booking_of cdr amount period = record {
  period = period;
  currency = cdr.currency;
  operator = cdr.operator;
  provider = cdr.cdr_token.provider;
  amount = amount;
}

-- a CDR books its cost, and a Credit CDR what it takes back
abbrev pub booking_in : Event → ℕ → List Booking
booking_in (event.Tariff tariff) period = []
booking_in (event.Token token) period = []
booking_in (event.Authorised hold) period = []
booking_in (event.Released release) period = []
booking_in (event.Cdr cdr cost) period = booking_of cdr (pos cost) period ∷ []
booking_in (event.Credit cdr amount) period = booking_of cdr amount period ∷ []
booking_in (event.Settled settlement) period = []
booking_in (event.Closed closed) period = []

-- the first event being in the period that is given
abbrev pub bookings_from : ℕ → List Event → List Booking
bookings_from period events = flat_map (λ dated. booking_in dated.event dated.period) (dated_from period events)

-- each in the period in which it was booked
abbrev pub bookings : List Event → List Booking
bookings events = bookings_from 0 events

-- ---- settlements

abbrev pub settlement_in : Event → List Settlement
settlement_in (event.Tariff tariff) = []
settlement_in (event.Token token) = []
settlement_in (event.Authorised hold) = []
settlement_in (event.Released release) = []
settlement_in (event.Cdr cdr cost) = []
settlement_in (event.Credit cdr amount) = []
settlement_in (event.Settled settlement) = settlement ∷ []
settlement_in (event.Closed closed) = []

abbrev pub settlements : List Event → List Settlement
settlements events = flat_map settlement_in events

-- the settlement is of the provider, currency and period of the booking
abbrev pub settles : Settlement → Booking → Bool
settles settlement booking =
    same_party settlement.provider booking.provider && same_currency settlement.currency booking.currency
    && (settlement.period == booking.period)

-- one of the settlements is, whether the booking is of a CDR or of a Credit CDR
abbrev pub is_settled : List Settlement → Booking → Bool
is_settled settlements booking = list_any (λ settlement. settles settlement booking) settlements
