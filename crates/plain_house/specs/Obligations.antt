-- What booked CDRs and Credit CDRs oblige providers to pay to operators, period by period.
use Rattle.std.specs.Prelude.{◌≡◌, ◌<◌, ◌+◌, ℕ, ◌==◌, List, ◌++◌, Bool, filter, map}
use Rattle.netting_positions.specs.declared.obligation.Obligation.{Obligation}
use Rattle.plain_house.specs.declared.entry.BookEntry.{BookEntry}
use Rattle.plain_house.specs.declared.event.Event.{Event}
use Rattle.plain_house.specs.Booked.{Booked, booked}
use Rattle.plain_house.specs.Entries.{book_entries, period_of}

-- a CDR obliges its provider to pay its operator the amount at which it is booked
abbrev pub obligation_of : Booked → Obligation
obligation_of found = record {
  operator = found.cdr.operator;
  provider = found.cdr.cdr_token.provider;
  currency = found.cdr.currency;
  amount = found.amount;
}

abbrev pub is_of_period : ℕ → Booked → Bool
is_of_period period found = found.period == period

-- those of one period
abbrev pub obligations : ℕ → List BookEntry → List Obligation
obligations period entries = map obligation_of (filter (is_of_period period) (booked entries))

-- what comes after a period is closed leaves its obligations, and so its net positions, as they were
abbrev pub ClosedPeriodsStay : Type 0
ClosedPeriodsStay =
    (before later : List Event) (period : ℕ) → period < period_of before →
    obligations period (book_entries (before ++ later)) ≡ obligations period (book_entries before)

-- what is owed in each period of the later events, from 0, is owed in the whole list's periods from this one
abbrev pub GoesOnFrom : List Event → ℕ → List Event → Type 0
GoesOnFrom whole period later =
    (number : ℕ) → obligations number (book_entries later) ≡ obligations (period + number) (book_entries whole)
