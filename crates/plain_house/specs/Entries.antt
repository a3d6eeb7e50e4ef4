-- The period in which each event stands, and what an operator's book and a provider's account keep of it.
use Rattle.std.specs.Prelude.{◌≡◌, ℕ, ◌+◌, ℤ, Bool, true, false, List, [], ◌∷◌, ◌++◌, count_by, flat_map, if◌then◌else◌}
use Rattle.ocpi_types.specs.declared.cdr.Cdr.{Cdr}
use Rattle.plain_house.specs.declared.event.Event.{Event}
use Rattle.plain_house.specs.declared.event.Event.TheVariants as event
use Rattle.plain_house.specs.declared.entry.AccountEntry.{AccountEntry}
use Rattle.plain_house.specs.declared.entry.AccountEntry.TheVariants as account
use Rattle.plain_house.specs.declared.entry.BookEntry.{BookEntry}
use Rattle.plain_house.specs.declared.entry.BookEntry.TheVariants as book
use Rattle.plain_house.specs.declared.entry.Charge.{Charge}
use Rattle.plain_house.specs.declared.entry.Credit.{Credit}

-- ---- periods

abbrev pub is_close : Event → Bool
is_close (event.Tariff tariff) = false
is_close (event.Token token) = false
is_close (event.Authorised hold) = false
is_close (event.Released release) = false
is_close (event.Cdr cdr cost) = false
is_close (event.Credit cdr amount) = false
is_close (event.Settled settlement) = false
is_close (event.Closed period) = true

-- the current period: periods are numbered from 0, and a close begins the next
abbrev pub period_of : List Event → ℕ
period_of events = count_by is_close events

-- an event and its period
pub record Dated : Type 0 where
  pub event : Event
  pub period : ℕ

abbrev pub period_after : ℕ → Event → ℕ
period_after period event = if is_close event then period + 1 else period

-- each event with the number of closes before it, the first being in the period that is given
abbrev pub dated_from : ℕ → List Event → List Dated
dated_from period [] = []
dated_from period (event ∷ later) =
    record { event = event; period = period } ∷ dated_from (period_after period event) later

-- ---- what a book keeps

abbrev pub book_entry : Event → ℕ → List BookEntry
book_entry (event.Tariff tariff) period = book.Tariff tariff ∷ []
book_entry (event.Token token) period = []
book_entry (event.Authorised hold) period = []
book_entry (event.Released release) period = []
book_entry (event.Cdr cdr cost) period = book.Cdr cdr cost period ∷ []
book_entry (event.Credit cdr amount) period = book.Credit cdr amount period ∷ []
book_entry (event.Settled settlement) period = []
book_entry (event.Closed closed) period = []

abbrev pub book_entries_from : ℕ → List Event → List BookEntry
book_entries_from period events = flat_map (λ dated. book_entry dated.event dated.period) (dated_from period events)

-- the entries of all books, in the order of the events
abbrev pub book_entries : List Event → List BookEntry
book_entries events = book_entries_from 0 events

-- ---- what an account keeps

abbrev pub charge_of : Cdr → ℕ → ℕ → Charge
charge_of cdr cost period = record {
  operator = cdr.operator;
  provider = cdr.cdr_token.provider;
  currency = cdr.currency;
  cdr = cdr.id;
  cost = cost;
  period = period;
  hold = cdr.authorization_reference;
}

abbrev pub credit_of : Cdr → ℤ → ℕ → Credit
credit_of cdr amount period = record {
  operator = cdr.operator;
  provider = cdr.cdr_token.provider;
  currency = cdr.currency;
  original = cdr.credit;
  amount = amount;
  period = period;
}

abbrev pub account_entry : Event → ℕ → List AccountEntry
account_entry (event.Tariff tariff) period = []
account_entry (event.Token token) period = account.Token token ∷ []
account_entry (event.Authorised hold) period = account.Hold hold ∷ []
account_entry (event.Released release) period = account.Release release ∷ []
account_entry (event.Cdr cdr cost) period = account.Charge (charge_of cdr cost period) ∷ []
account_entry (event.Credit cdr amount) period = account.Credit (credit_of cdr amount period) ∷ []
account_entry (event.Settled settlement) period = account.Settlement settlement ∷ []
account_entry (event.Closed closed) period = []

abbrev pub account_entries_from : ℕ → List Event → List AccountEntry
account_entries_from period events =
    flat_map (λ dated. account_entry dated.event dated.period) (dated_from period events)

-- the entries of all accounts, in the order of the events
abbrev pub account_entries : List Event → List AccountEntry
account_entries events = account_entries_from 0 events

-- an event's entries have its period, the number of closes before it; those of later events go on from the next
pub record AreDated (before : List Event) (event : Event) (later : List Event) : Type 0 where
  pub in_books : book_entries (before ++ event ∷ later) ≡ book_entries before ++ (book_entry event (period_of before) ++ book_entries_from (period_of (before ++ event ∷ [])) later)
  pub in_accounts : account_entries (before ++ event ∷ later) ≡ account_entries before ++ (account_entry event (period_of before) ++ account_entries_from (period_of (before ++ event ∷ [])) later)

abbrev pub EntriesAreDated : Type 0
EntriesAreDated = (before : List Event) (event : Event) (later : List Event) → AreDated before event later
