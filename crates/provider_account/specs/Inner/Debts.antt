-- What is known of debts.
use Rattle.std.specs.Prelude.{◌≡◌, ℕ, ◌<◌, ◌≤◌, ◌^◌, Bool, true, not, ◌&&◌, List, [], ◌∷◌, ◌++◌, Option, None, Some, if◌then◌else◌, filter}
use Rattle.std.specs.List.{list_any}
use Rattle.cdr_checks.specs.declared.request.Settlement.{Settlement}
use Rattle.indexmap.specs.IndexSet as set
use Rattle.indexmap.specs.IndexMap as map
use Rattle.ocpi_types.specs.declared.party.Party.{Party}
use Rattle.ocpi_types.specs.Party.{same_party}
use Rattle.plain_house.specs.declared.entry.AccountEntry.{AccountEntry}
use Rattle.plain_house.specs.declared.entry.AccountEntry.TheVariants as account
use Rattle.plain_house.specs.declared.entry.Charge.{Charge}
use Rattle.plain_house.specs.declared.scope.Scope.{Scope}
use Rattle.plain_house.specs.Exposure.{charges, debts_of, of_provider, total_charged}
use Rattle.provider_account.specs.declared.debt_keys.CdrKey.{CdrKey}
use Rattle.provider_account.specs.declared.debt_keys.DebtKey.{DebtKey}
use Rattle.provider_account.specs.declared.debts.Debts.{Debts}
use Rattle.provider_account.specs.declared.ended.Ended.{Ended}
use Rattle.provider_account.specs.declared.owed.Owed.{Owed}
use Rattle.provider_account.specs.Inner.Charged.{HasRoomForPlaces, KnowsPlaces}
use Rattle.provider_account.specs.Inner.DebtKeys.{charges_of, covers, is_owed_at, owed_at}
use Rattle.provider_account.specs.Inner.Ended.{KnowsEnded, has_ended}
use Rattle.provider_account.specs.Inner.Owed.{amount_of}

-- at each key stands what is owed there
abbrev pub KnowsOwed : Owed → List AccountEntry → Type 0
KnowsOwed owed entries = (key : DebtKey) → amount_of owed.amounts key ≡ owed_at key entries

-- a charge is the operator's
abbrev pub is_charged_by : Party → Charge → Bool
is_charged_by operator charge = same_party charge.operator operator

-- these are the operators of the charges
abbrev pub AreOperators : List Party → List AccountEntry → Type 0
AreOperators operators entries = (operator : Party) → list_any (same_party operator) operators ≡ list_any (is_charged_by operator) (charges entries)

-- the debts are those of the entries
pub record KnowsDebts (debts : Debts) (entries : List AccountEntry) : Type 0 where
  pub owed : KnowsOwed debts.owed entries
  pub ended : KnowsEnded debts.ended entries
  pub charged : KnowsPlaces debts.charged entries
  pub operators : AreOperators debts.operators.keys entries

-- room for what one more entry needs
pub record HasRoomForDebts (debts : Debts) : Type 0 where
  pub owed : 4 ≤ map.spare debts.owed.amounts.cells
  pub credited : 0 < set.spare debts.ended.credited
  pub settled : 0 < set.spare debts.ended.settled
  pub charged : HasRoomForPlaces debts.charged
  pub operators : 0 < set.spare debts.operators

-- the key of a scope
abbrev pub all_periods : Scope → DebtKey
all_periods scope = record { period = None; operator = scope.operator; provider = scope.provider; currency = scope.currency }

-- no provider owes more than 10 ^ 15 ten-thousandths in a currency
abbrev pub AreBounded : List AccountEntry → Type 0
AreBounded entries = (provider : Party) (currency : List ℕ) → debts_of (of_provider provider currency) entries ≤ 10 ^ 15

-- what the charge is at a key, unless its debt has ended
abbrev pub still_counted : Ended → Charge → DebtKey → ℕ
still_counted ended charge key = if covers key charge && not (has_ended ended charge) then charge.cost else 0

-- what is owed at a key for the CDR
abbrev pub owed_for : CdrKey → DebtKey → List AccountEntry → ℕ
owed_for cdr key entries = total_charged (filter (is_owed_at key entries) (charges_of cdr entries))

-- all operators, or one of these
abbrev pub is_done : List Party → Option Party → Bool
is_done operators None = true
is_done operators (Some operator) = list_any (same_party operator) operators

-- what is owed at a key once a settlement has been taken in for these operators
abbrev pub owed_once : List Party → Settlement → DebtKey → List AccountEntry → ℕ
owed_once operators settlement key entries =
    owed_at key (if is_done operators key.operator then entries ++ account.Settlement settlement ∷ [] else entries)
