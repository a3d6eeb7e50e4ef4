-- Settlements by their keys.
use Rattle.std.specs.Prelude.{◌≡◌, Bool, List}
use Rattle.std.specs.List.{list_any}
use Rattle.indexmap.specs.IndexSet.{IndexSet, contains}
use Rattle.cdr_checks.specs.declared.request.Settlement.{Settlement}
use Rattle.house_reports.specs.declared.balances.booking.Booking.{Booking}
use Rattle.house_reports.specs.declared.balances.settled.SettledKey.{SettledKey}
use Rattle.house_reports.specs.contracts.balances.settled.SettledKeyPartialEq.TheImpl as settled_keys

-- as derived
abbrev pub same_key : SettledKey → SettledKey → Bool
same_key = settled_keys.ghosts.eq

abbrev pub key_by : Settlement → SettledKey
key_by settlement =
    record { provider = settlement.provider; currency = settlement.currency; period = settlement.period }

abbrev pub key_of : Booking → SettledKey
key_of booking = record { provider = booking.provider; currency = booking.currency; period = booking.period }

-- the keys are those of the settlements
abbrev pub HasKeys : {S : Type 0} → IndexSet SettledKey S → List Settlement → Type 0
HasKeys {S} keys settlements =
    (key : SettledKey) → contains same_key keys key ≡ list_any (λ settlement. same_key (key_by settlement) key) settlements
