-- The exposure of a provider in a currency: its open holds and its debts, with all operators or with one.
use Rattle.std.specs.Prelude.{◌≡◌, ◌≤◌, ℕ, ◌+◌, ◌==◌, List, [], ◌∷◌, ◌++◌, Bool, true, false, not, ◌&&◌, if◌then◌else◌, Option, None, Some, find, sum_by, filter, flat_map}
use Rattle.std.specs.List.{list_any}
use Rattle.std.specs.Option.{option_map_or}
use Rattle.ocpi_json.specs.Folded.{same_folded}
use Rattle.ocpi_types.specs.declared.party.Party.{Party}
use Rattle.ocpi_types.specs.Party.{same_party}
use Rattle.ocpi_types.specs.Currency.{same_currency}
use Rattle.cdr_checks.specs.declared.request.Release.{Release}
use Rattle.plain_house.specs.declared.scope.Scope.{Scope}
use Rattle.plain_house.specs.declared.event.Hold.{Hold}
use Rattle.plain_house.specs.declared.entry.Charge.{Charge}
use Rattle.plain_house.specs.declared.entry.AccountEntry.{AccountEntry}
use Rattle.plain_house.specs.declared.entry.AccountEntry.TheVariants as account

-- the reference is there and is this one
abbrev pub names : List ℕ → Option (List ℕ) → Bool
names id reference = option_map_or (λ other. same_folded other id) reference false

-- ---- whose exposure: a provider's in a currency, with the operator where one is given

abbrev pub of_provider : Party → List ℕ → Scope
of_provider provider currency = record { operator = None; provider = provider; currency = currency }

abbrev pub of_pair : Party → Party → List ℕ → Scope
of_pair operator provider currency = record { operator = Some operator; provider = provider; currency = currency }

abbrev pub is_by : Option Party → Party → Bool
is_by None operator = true
is_by (Some only) operator = same_party operator only

abbrev pub is_within : Scope → Party → Party → List ℕ → Bool
is_within scope operator provider currency =
    is_by scope.operator operator && same_party provider scope.provider && same_currency currency scope.currency

-- ---- holds

-- the entry ends the hold: a release of it, or a charge of its operator, provider and currency that names it
abbrev pub ends_hold : Hold → AccountEntry → Bool
ends_hold hold (account.Token token) = false
ends_hold hold (account.Hold another) = false
ends_hold hold (account.Release release) =
    same_party release.operator hold.operator && same_party release.provider hold.provider
    && same_folded release.reference hold.reference
ends_hold hold (account.Charge charge) =
    same_party charge.operator hold.operator && same_party charge.provider hold.provider
    && same_currency charge.currency hold.currency && names hold.reference charge.hold
ends_hold hold (account.Credit credit) = false
ends_hold hold (account.Settlement settlement) = false

-- the hold of an entry that none of the later entries ends
abbrev pub open_hold : AccountEntry → List AccountEntry → List Hold
open_hold (account.Token token) later = []
open_hold (account.Hold hold) later = if list_any (ends_hold hold) later then [] else hold ∷ []
open_hold (account.Release release) later = []
open_hold (account.Charge charge) later = []
open_hold (account.Credit credit) later = []
open_hold (account.Settlement settlement) later = []

abbrev pub open_holds : List AccountEntry → List Hold
open_holds [] = []
open_holds (entry ∷ later) = open_hold entry later ++ open_holds later

-- the open hold that a release ends
abbrev pub released_hold : List AccountEntry → Release → Option Hold
released_hold entries release = find (λ hold. ends_hold hold (account.Release release)) (open_holds entries)

abbrev pub holds_within : Scope → Hold → Bool
holds_within scope hold = is_within scope hold.operator hold.provider hold.currency

-- what these holds hold together
abbrev pub total_held : List Hold → ℕ
total_held holds = sum_by (λ hold. hold.amount) holds

-- the open holds, in ten-thousandths
abbrev pub holds_of : Scope → List AccountEntry → ℕ
holds_of scope entries = total_held (filter (holds_within scope) (open_holds entries))

-- ---- debts

abbrev pub charge_in : AccountEntry → List Charge
charge_in (account.Token token) = []
charge_in (account.Hold hold) = []
charge_in (account.Release release) = []
charge_in (account.Charge charge) = charge ∷ []
charge_in (account.Credit credit) = []
charge_in (account.Settlement settlement) = []

abbrev pub charges : List AccountEntry → List Charge
charges entries = flat_map charge_in entries

-- the entry ends the debt of a charge: a credit of its operator for its CDR, or a settlement of its provider,
-- currency and period
abbrev pub ends_debt : Charge → AccountEntry → Bool
ends_debt charge (account.Token token) = false
ends_debt charge (account.Hold hold) = false
ends_debt charge (account.Release release) = false
ends_debt charge (account.Charge another) = false
ends_debt charge (account.Credit credit) = same_party credit.operator charge.operator && names charge.cdr credit.original
ends_debt charge (account.Settlement settlement) =
    same_party settlement.provider charge.provider && same_currency settlement.currency charge.currency
    && (settlement.period == charge.period)

-- the charge is owed: no entry ends its debt
abbrev pub is_owed : List AccountEntry → Charge → Bool
is_owed entries charge = not (list_any (ends_debt charge) entries)

abbrev pub charges_within : Scope → Charge → Bool
charges_within scope charge = is_within scope charge.operator charge.provider charge.currency

abbrev pub total_charged : List Charge → ℕ
total_charged charges = sum_by (λ charge. charge.cost) charges

-- what is owed, in ten-thousandths
abbrev pub debts_of : Scope → List AccountEntry → ℕ
debts_of scope entries =
    total_charged (filter (λ charge. charges_within scope charge && is_owed entries charge) (charges entries))

abbrev pub exposure_of : Scope → List AccountEntry → ℕ
exposure_of scope entries = holds_of scope entries + debts_of scope entries

-- an entry adds to an exposure at most what its exposure is alone
abbrev pub EntriesAddAtMost : Type 0
EntriesAddAtMost =
    (scope : Scope) (entries : List AccountEntry) (entry : AccountEntry) →
    exposure_of scope (entries ++ entry ∷ []) ≤ exposure_of scope entries + exposure_of scope (entry ∷ [])

-- in another spelling of the provider the exposure is the same
abbrev pub ExposuresInAnySpelling : Type 0
ExposuresInAnySpelling =
    (entries : List AccountEntry) (one another : Party) (currency : List ℕ) → same_party one another ≡ true →
    exposure_of (of_provider one currency) entries ≡ exposure_of (of_provider another currency) entries
