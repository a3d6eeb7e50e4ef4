-- What ties balances to what closes, statements and settlements answer.
use Rattle.std.specs.Prelude.{◌≡◌, ℕ, ◌+◌, ◌==◌, ℤ, pos, ◌+ℤ◌, List, [], ◌∷◌, ◌++◌, Bool, true, not, ◌&&◌, All, filter, flat_map, map}
use Rattle.ocpi_types.specs.Currency.{same_currency}
use Rattle.ocpi_types.specs.Party.{same_party}
use Rattle.ocpi_types.specs.declared.config.Config.{Config}
use Rattle.cdr_checks.specs.declared.request.Settlement.{Settlement}
use Rattle.netting_positions.specs.declared.obligation.Obligation.{Obligation}
use Rattle.netting_positions.specs.Netting.{total}
use Rattle.netting_positions.specs.Statement.{payable_of}
use Rattle.plain_house.specs.declared.entry.AccountEntry.{AccountEntry}
use Rattle.plain_house.specs.declared.entry.AccountEntry.TheVariants as account
use Rattle.plain_house.specs.declared.entry.Credit.{Credit}
use Rattle.plain_house.specs.declared.event.Event.{Event}
use Rattle.plain_house.specs.declared.event.Event.TheVariants as event
use Rattle.plain_house.specs.Entries.{account_entries, book_entries}
use Rattle.plain_house.specs.Exposure.{charges, ends_debt, is_owed, total_charged}
use Rattle.plain_house.specs.Legal.{IsLegal}
use Rattle.plain_house.specs.Obligations.{obligations}
use Rattle.plain_house.specs.Settlements.{settled_debt}
use Rattle.house_reports.specs.balances.Balances.{is_of, owed, rows, settled}
use Rattle.house_reports.specs.balances.Bookings.{bookings, settlements, settles}
use Rattle.house_reports.specs.declared.balances.booking.Booking.{Booking}
use Rattle.house_reports.specs.declared.balances.row.Row.{Row}
use Rattle.house_reports.specs.declared.balances.row.RowKey.{RowKey}

-- ---- statements

abbrev pub obligation_of : Booking → Obligation
obligation_of booking = record {
  operator = booking.operator;
  provider = booking.provider;
  currency = booking.currency;
  amount = booking.amount;
}

abbrev pub is_in : ℕ → Booking → Bool
is_in period booking = booking.period == period

-- what is booked of a period is what closes net and statements tell of it
abbrev pub BookingsAreObligations : Type 0
BookingsAreObligations =
    (events : List Event) (period : ℕ) →
    map obligation_of (filter (is_in period) (bookings events)) ≡ obligations period (book_entries events)

-- what is owed by a key is what the provider's statement of that period says it is to pay to that operator
abbrev pub OwedIsPayable : Type 0
OwedIsPayable =
    (events : List Event) (key : RowKey) →
    owed (filter (is_of key) (bookings events))
    ≡ payable_of key.provider (record { currency = key.currency; counterpart = key.operator }) (obligations key.period (book_entries events))

-- ---- settlements

-- of all that is booked of a settlement's provider, currency and period, and of any choice of it, what is owed is settled
abbrev pub SettlementsSquare : Type 0
SettlementsSquare =
    (before later : List Event) (settlement : Settlement) (is_chosen : Booking → Bool) →
    settled (settlements (before ++ event.Settled settlement ∷ later)) (filter (λ booking. settles settlement booking && is_chosen booking) (bookings (before ++ event.Settled settlement ∷ later)))
    ≡ owed (filter (λ booking. settles settlement booking && is_chosen booking) (bookings (before ++ event.Settled settlement ∷ later)))

abbrev pub is_row_of : Settlement → Row → Bool
is_row_of settlement row =
    same_party settlement.provider row.key.provider && same_currency settlement.currency row.key.currency
    && (settlement.period == row.key.period)

-- so with each operator nothing is open
abbrev pub IsSquare : Settlement → Row → Type 0
IsSquare settlement row = is_row_of settlement row ≡ true → (row.settled ≡ row.owed) × (row.outstanding ≡ pos 0)

abbrev pub SettledRowsAreSquare : Type 0
SettledRowsAreSquare =
    (config : Config) (before later : List Event) (settlement : Settlement) →
    All (IsSquare settlement) (rows config (before ++ event.Settled settlement ∷ later))

-- in a legal list that is final: nothing is booked of the settlement's period after it
abbrev pub SettledBookingsStay : Type 0
SettledBookingsStay =
    (config : Config) (before later : List Event) (settlement : Settlement) → IsLegal config (before ++ event.Settled settlement ∷ later) →
    filter (settles settlement) (bookings (before ++ event.Settled settlement ∷ later)) ≡ filter (settles settlement) (bookings before)

-- ---- what a settlement is answered

abbrev pub credit_in : AccountEntry → List Credit
credit_in (account.Token token) = []
credit_in (account.Hold hold) = []
credit_in (account.Release release) = []
credit_in (account.Charge charge) = []
credit_in (account.Credit credit) = credit ∷ []
credit_in (account.Settlement settlement) = []

abbrev pub is_credit_of : Settlement → Credit → Bool
is_credit_of settlement credit =
    same_party settlement.provider credit.provider && same_currency settlement.currency credit.currency
    && (settlement.period == credit.period)

-- the Credit CDRs of the settlement's provider, currency and period, which are below 0
abbrev pub credited : Settlement → List AccountEntry → ℤ
credited settlement entries =
    total (map (λ credit. credit.amount) (filter (is_credit_of settlement) (flat_map credit_in entries)))

-- the debts of them that ended before
abbrev pub ended_debt : Settlement → List AccountEntry → ℕ
ended_debt settlement entries =
    total_charged (filter (λ charge. ends_debt charge (account.Settlement settlement) && not (is_owed entries charge)) (charges entries))

-- what is owed is the debt that the settlement ends, which is what it is answered, and the debts that ended before it, less the Credit CDRs
abbrev pub NetIsOfDebts : Type 0
NetIsOfDebts =
    (events : List Event) (settlement : Settlement) →
    owed (filter (settles settlement) (bookings events))
    ≡ (pos (settled_debt settlement (account_entries events) + ended_debt settlement (account_entries events)) +ℤ credited settlement (account_entries events))
