-- What is known of the places of charges.
use Rattle.std.specs.Prelude.{◌≡◌, ℕ, ◌<◌, ◌==◌, List, slice_get, Option, None, Some, option_and_then, is_some, true, IfSome, if◌then◌else◌}
use Rattle.indexmap.specs.IndexMap.{get, spare}
use Rattle.plain_house.specs.declared.entry.AccountEntry.{AccountEntry}
use Rattle.plain_house.specs.declared.entry.AccountEntry.TheVariants as account
use Rattle.plain_house.specs.declared.entry.Charge.{Charge}
use Rattle.provider_account.specs.declared.charged.ChargePlaces.{ChargePlaces}
use Rattle.provider_account.specs.declared.debt_keys.ChargeKey.{ChargeKey}
use Rattle.provider_account.specs.Inner.DebtKeys.{charges_of, same_cdr, same_charge}

abbrev pub charge_of_entry : AccountEntry → Option Charge
charge_of_entry (account.Token token) = None
charge_of_entry (account.Hold hold) = None
charge_of_entry (account.Release release) = None
charge_of_entry (account.Charge charge) = Some charge
charge_of_entry (account.Credit credit) = None
charge_of_entry (account.Settlement settlement) = None

-- the charge that stands at a place
abbrev pub charge_at : List AccountEntry → ℕ → Option Charge
charge_at entries place = option_and_then charge_of_entry (slice_get entries place)

-- the place that is kept for the charge of a CDR before which as many came
abbrev pub place_of : ChargePlaces → ChargeKey → Option ℕ
place_of charged key = if key.nth == 0 then get same_cdr charged.firsts key.cdr else get same_charge charged.others key

-- at each place stands the charge of its key
pub record KnowsPlaces (charged : ChargePlaces) (entries : List AccountEntry) : Type 0 where
  pub charge : (key : ChargeKey) → option_and_then (charge_at entries) (place_of charged key) ≡ slice_get (charges_of key.cdr entries) key.nth
  pub there : (key : ChargeKey) → IfSome (place_of charged key) (λ place. is_some (charge_at entries place) ≡ true)

-- room for what one more charge needs
abbrev pub HasRoomForPlaces : ChargePlaces → Type 0
HasRoomForPlaces charged = (0 < spare charged.firsts) × (0 < spare charged.others)
