-- By what debts are found: which keys are the same, and what stands at them.
use Rattle.std.specs.Prelude.{◌≡◌, ℕ, ◌==◌, Bool, true, false, ◌&&◌, List, [], ◌∷◌, ◌++◌, Option, None, Some, if◌then◌else◌, filter}
use Rattle.std.proofs.Common.{refl, sym, ap, true≢false}
use Rattle.std.proofs.lemmas.Bool.{eqb-true}
use Rattle.std.specs.Cmp.Lexicographic.{same_text}
use Rattle.std.specs.Hash as fed
use Rattle.std.specs.Option.{option_eq}
use Rattle.cdr_checks.specs.declared.request.Settlement.{Settlement}
use Rattle.ocpi_json.specs.Folded.{same_folded}
use Rattle.ocpi_types.specs.declared.party.Party.{Party}
use Rattle.ocpi_types.specs.Currency.{same_currency}
use Rattle.ocpi_types.specs.Party.{same_party}
use Rattle.plain_house.specs.declared.entry.AccountEntry.{AccountEntry}
use Rattle.plain_house.specs.declared.entry.AccountEntry.TheVariants as account
use Rattle.plain_house.specs.declared.entry.Charge.{Charge}
use Rattle.plain_house.specs.Exposure.{charges, is_owed, is_within, names, total_charged}
use Rattle.provider_account.specs.declared.debt_keys.CdrKey.{CdrKey}
use Rattle.provider_account.specs.declared.debt_keys.ChargeKey.{ChargeKey}
use Rattle.provider_account.specs.declared.debt_keys.DebtKey.{DebtKey}
use Rattle.provider_account.specs.declared.debt_keys.PeriodKey.{PeriodKey}
use Rattle.provider_account.specs.Inner.HashInput.{both_same, operator_input, operator_same}

-- ---- CDRs and their charges

abbrev pub same_cdr : CdrKey → CdrKey → Bool
same_cdr a b = same_party a.operator b.operator && same_folded a.cdr b.cdr

abbrev pub same_charge : ChargeKey → ChargeKey → Bool
same_charge a b = (a.nth == b.nth) && same_cdr a.cdr b.cdr

abbrev pub cdr_of : Charge → CdrKey
cdr_of charge = record { operator = charge.operator; cdr = charge.cdr }

-- the charges of a CDR, in order
abbrev pub charges_of : CdrKey → List AccountEntry → List Charge
charges_of key entries = filter (λ charge. same_cdr key (cdr_of charge)) (charges entries)

-- the entry credits the CDR
abbrev pub credits : CdrKey → AccountEntry → Bool
credits key (account.Token token) = false
credits key (account.Hold hold) = false
credits key (account.Release release) = false
credits key (account.Charge charge) = false
credits key (account.Credit credit) = same_party credit.operator key.operator && names key.cdr credit.original
credits key (account.Settlement settlement) = false

-- ---- periods

abbrev pub same_period : PeriodKey → PeriodKey → Bool
same_period a b = (a.period == b.period) && (same_party a.provider b.provider && same_currency a.currency b.currency)

pub period_hashed_alike : (a b : PeriodKey) → same_period a b ≡ true → (fed.le_bytes 8 a.period ∷ a.currency ∷ []) ≡ (fed.le_bytes 8 b.period ∷ b.currency ∷ [])
period_hashed_alike a b h =
    let parts = both_same (a.period == b.period) (same_party a.provider b.provider && same_currency a.currency b.currency) h in
    let currency = both_same (same_party a.provider b.provider) (same_currency a.currency b.currency) parts.1 in
    λ i. fed.le_bytes 8 (eqb-true a.period b.period parts.0 i) ∷ same_text a.currency b.currency (sym currency.1) i ∷ []

abbrev pub period_of : Charge → PeriodKey
period_of charge = record { period = charge.period; provider = charge.provider; currency = charge.currency }

abbrev pub ended_by : Settlement → PeriodKey
ended_by settlement = record { period = settlement.period; provider = settlement.provider; currency = settlement.currency }

-- the entry settles the period
abbrev pub settles : PeriodKey → AccountEntry → Bool
settles key (account.Token token) = false
settles key (account.Hold hold) = false
settles key (account.Release release) = false
settles key (account.Charge charge) = false
settles key (account.Credit credit) = false
settles key (account.Settlement settlement) = same_period (ended_by settlement) key

-- ---- what is owed

abbrev pub same_key : DebtKey → DebtKey → Bool
same_key a b =
    option_eq ◌==◌ a.period b.period
    && (option_eq same_party a.operator b.operator && (same_party a.provider b.provider && same_currency a.currency b.currency))

-- what a key writes to a hasher of its period; all periods write nothing
abbrev pub period_input : Option ℕ → List (List ℕ)
period_input None = []
period_input (Some period) = fed.le_bytes 8 period ∷ []

periods_same : (a b : Option ℕ) → option_eq ◌==◌ a b ≡ true → period_input a ≡ period_input b
periods_same None None h = refl
periods_same None (Some b) h = absurd (true≢false (sym h))
periods_same (Some a) None h = absurd (true≢false (sym h))
periods_same (Some a) (Some b) h = ap (λ n. fed.le_bytes 8 n ∷ []) (eqb-true a b h)

pub debt_hashed_alike : (a b : DebtKey) → same_key a b ≡ true
    → (period_input a.period ++ (operator_input a.operator ++ (a.currency ∷ []))) ≡ (period_input b.period ++ (operator_input b.operator ++ (b.currency ∷ [])))
debt_hashed_alike a b h =
    let parts =
    both_same (option_eq ◌==◌ a.period b.period) (option_eq same_party a.operator b.operator && (same_party a.provider b.provider && same_currency a.currency b.currency)) h in
    let operator = both_same (option_eq same_party a.operator b.operator) (same_party a.provider b.provider && same_currency a.currency b.currency) parts.1 in
    let currency = both_same (same_party a.provider b.provider) (same_currency a.currency b.currency) operator.1 in
    λ i. periods_same a.period b.period parts.0 i ++ (operator_same a.operator b.operator operator.0 i ++ (same_text a.currency b.currency (sym currency.1) i ∷ []))

abbrev pub key_of : Charge → Option ℕ → Option Party → DebtKey
key_of charge period operator =
    record { period = period; operator = operator; provider = charge.provider; currency = charge.currency }

abbrev pub is_in : Option ℕ → ℕ → Bool
is_in None period = true
is_in (Some only) period = period == only

-- the charge counts at the key
abbrev pub covers : DebtKey → Charge → Bool
covers key charge =
    is_in key.period charge.period
    && is_within (record { operator = key.operator; provider = key.provider; currency = key.currency }) charge.operator charge.provider charge.currency

abbrev pub counted : Charge → DebtKey → ℕ
counted charge key = if covers key charge then charge.cost else 0

-- the charge counts at the key and is owed by these entries
abbrev pub is_owed_at : DebtKey → List AccountEntry → Charge → Bool
is_owed_at key entries charge = covers key charge && is_owed entries charge

-- what is owed at the key, in ten-thousandths
abbrev pub owed_at : DebtKey → List AccountEntry → ℕ
owed_at key entries = total_charged (filter (is_owed_at key entries) (charges entries))
