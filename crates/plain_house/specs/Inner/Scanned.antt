-- What is sought in entries, said of the events themselves: a scan of events finds the same.
use Rattle.std.specs.Prelude.{ℕ, pos, List, [], ◌∷◌, ◌++◌, Bool, false, not, ◌&&◌, ◌==◌, if◌then◌else◌, Option, Some, None, filter}
use Rattle.std.specs.List.{list_any}
use Rattle.ocpi_types.specs.declared.party.Party.{Party}
use Rattle.ocpi_types.specs.declared.tariff.Tariff.{Tariff}
use Rattle.ocpi_types.specs.declared.token.Token.{Token}
use Rattle.ocpi_types.specs.Party.{same_party}
use Rattle.ocpi_types.specs.Currency.{same_currency}
use Rattle.plain_house.specs.declared.scope.Scope.{Scope}
use Rattle.plain_house.specs.declared.event.Hold.{Hold}
use Rattle.plain_house.specs.declared.event.Event.{Event}
use Rattle.plain_house.specs.declared.event.Event.TheVariants as event
use Rattle.plain_house.specs.declared.entry.AccountEntry.{AccountEntry}
use Rattle.plain_house.specs.declared.entry.AccountEntry.TheVariants as account
use Rattle.plain_house.specs.declared.entry.Charge.{Charge}
use Rattle.plain_house.specs.declared.debts.Sought.{Sought}
use Rattle.plain_house.specs.declared.debts.Sought.TheVariants as sought
use Rattle.plain_house.specs.Exposure.{names, charges, charges_within, ends_debt, ends_hold, holds_within}
use Rattle.plain_house.specs.Booked.{Booked}
use Rattle.plain_house.specs.Happened.{ends}

-- ---- books

abbrev pub version_of_event : Event → List Tariff
version_of_event (event.Tariff tariff) = tariff ∷ []
version_of_event (event.Token token) = []
version_of_event (event.Authorised hold) = []
version_of_event (event.Released release) = []
version_of_event (event.Cdr cdr cost) = []
version_of_event (event.Credit cdr amount) = []
version_of_event (event.Settled settlement) = []
version_of_event (event.Closed period) = []

abbrev pub event_is_version_of : Party → Event → Bool
event_is_version_of operator (event.Tariff tariff) = same_party tariff.operator operator
event_is_version_of operator (event.Token token) = false
event_is_version_of operator (event.Authorised hold) = false
event_is_version_of operator (event.Released release) = false
event_is_version_of operator (event.Cdr cdr cost) = false
event_is_version_of operator (event.Credit cdr amount) = false
event_is_version_of operator (event.Settled settlement) = false
event_is_version_of operator (event.Closed period) = false

abbrev pub event_is_cdr_of : Party → Event → Bool
event_is_cdr_of operator (event.Tariff tariff) = false
event_is_cdr_of operator (event.Token token) = false
event_is_cdr_of operator (event.Authorised hold) = false
event_is_cdr_of operator (event.Released release) = false
event_is_cdr_of operator (event.Cdr cdr cost) = same_party cdr.operator operator
event_is_cdr_of operator (event.Credit cdr amount) = same_party cdr.operator operator
event_is_cdr_of operator (event.Settled settlement) = false
event_is_cdr_of operator (event.Closed period) = false

-- ---- accounts

abbrev pub event_is_entry_of : Party → Event → Bool
event_is_entry_of provider (event.Tariff tariff) = false
event_is_entry_of provider (event.Token token) = same_party token.provider provider
event_is_entry_of provider (event.Authorised hold) = same_party hold.provider provider
event_is_entry_of provider (event.Released release) = same_party release.provider provider
event_is_entry_of provider (event.Cdr cdr cost) = same_party cdr.cdr_token.provider provider
event_is_entry_of provider (event.Credit cdr amount) = same_party cdr.cdr_token.provider provider
event_is_entry_of provider (event.Settled settlement) = same_party settlement.provider provider
event_is_entry_of provider (event.Closed period) = false

abbrev pub event_is_hold_of : Party → Event → Bool
event_is_hold_of provider (event.Tariff tariff) = false
event_is_hold_of provider (event.Token token) = false
event_is_hold_of provider (event.Authorised hold) = same_party hold.provider provider
event_is_hold_of provider (event.Released release) = false
event_is_hold_of provider (event.Cdr cdr cost) = false
event_is_hold_of provider (event.Credit cdr amount) = false
event_is_hold_of provider (event.Settled settlement) = false
event_is_hold_of provider (event.Closed period) = false

abbrev pub token_of_event : Event → List Token
token_of_event (event.Tariff tariff) = []
token_of_event (event.Token token) = token ∷ []
token_of_event (event.Authorised hold) = []
token_of_event (event.Released release) = []
token_of_event (event.Cdr cdr cost) = []
token_of_event (event.Credit cdr amount) = []
token_of_event (event.Settled settlement) = []
token_of_event (event.Closed period) = []

abbrev pub event_ends_debt : Charge → Event → Bool
event_ends_debt charge (event.Tariff tariff) = false
event_ends_debt charge (event.Token token) = false
event_ends_debt charge (event.Authorised hold) = false
event_ends_debt charge (event.Released release) = false
event_ends_debt charge (event.Cdr cdr cost) = false
event_ends_debt charge (event.Credit cdr amount) = same_party cdr.operator charge.operator && names charge.cdr cdr.credit
event_ends_debt charge (event.Settled settlement) =
    same_party settlement.provider charge.provider && same_currency settlement.currency charge.currency
    && (settlement.period == charge.period)
event_ends_debt charge (event.Closed period) = false

-- ---- open holds

abbrev pub event_open_hold : Event → List Event → List Hold
event_open_hold (event.Tariff tariff) later = []
event_open_hold (event.Token token) later = []
event_open_hold (event.Authorised hold) later = if list_any (ends hold) later then [] else hold ∷ []
event_open_hold (event.Released release) later = []
event_open_hold (event.Cdr cdr cost) later = []
event_open_hold (event.Credit cdr amount) later = []
event_open_hold (event.Settled settlement) later = []
event_open_hold (event.Closed period) later = []

abbrev pub event_open_holds : List Event → List Hold
event_open_holds [] = []
event_open_holds (event ∷ later) = event_open_hold event later ++ event_open_holds later

-- ---- one more charge

abbrev pub with_charge : Option Charge → List AccountEntry
with_charge None = []
with_charge (Some charge) = account.Charge charge ∷ []

abbrev pub uses : Option Charge → Hold → Bool
uses None hold = false
uses (Some charge) hold = ends_hold hold (account.Charge charge)

-- the hold is within the scope, and the charge does not use it up
abbrev pub still_holds : Scope → Option Charge → Hold → Bool
still_holds scope charge hold = holds_within scope hold && not (uses charge hold)

-- ---- debts

-- the charge is one of those that are sought
abbrev pub is_sought : Sought → Charge → Bool
is_sought (sought.Within scope) charge = charges_within scope charge
is_sought (sought.EndedBy settlement) charge = ends_debt charge (account.Settlement settlement)

-- the charge is sought, and none of the events ends its debt
abbrev pub is_owed_in : Sought → List Event → Charge → Bool
is_owed_in wanted events charge = is_sought wanted charge && not (list_any (event_ends_debt charge) events)

-- those of these entries
abbrev pub owed_charges : Sought → List Event → List AccountEntry → List Charge
owed_charges wanted events entries = filter (is_owed_in wanted events) (charges entries)

-- ---- CDRs as a scan finds them

abbrev pub booked_of_event : Event → ℕ → Option Booked
booked_of_event (event.Tariff tariff) period = None
booked_of_event (event.Token token) period = None
booked_of_event (event.Authorised hold) period = None
booked_of_event (event.Released release) period = None
booked_of_event (event.Cdr cdr cost) period = Some (record { cdr = cdr; amount = pos cost; period = period })
booked_of_event (event.Credit cdr amount) period = Some (record { cdr = cdr; amount = amount; period = period })
booked_of_event (event.Settled settlement) period = None
booked_of_event (event.Closed closed) period = None
