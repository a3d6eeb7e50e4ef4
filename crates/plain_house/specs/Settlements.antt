-- Settlements: a provider has paid what it owed of a closed period in a currency.
use Rattle.std.specs.Prelude.{◌≡◌, ℕ, ◌+◌, ◌==◌, List, [], ◌∷◌, ◌++◌, Bool, false, not, ◌&&◌, filter}
use Rattle.std.specs.List.{list_any}
use Rattle.ocpi_types.specs.Currency.{same_currency}
use Rattle.ocpi_types.specs.Party.{same_party}
use Rattle.cdr_checks.specs.declared.request.Settlement.{Settlement}
use Rattle.plain_house.specs.declared.entry.AccountEntry.{AccountEntry}
use Rattle.plain_house.specs.declared.entry.AccountEntry.TheVariants as account
use Rattle.plain_house.specs.declared.entry.Charge.{Charge}
use Rattle.plain_house.specs.Exposure.{charges, debts_of, ends_debt, is_owed, of_provider, total_charged}

-- the entry is a settlement of that provider, currency and period
abbrev pub settles_same : Settlement → AccountEntry → Bool
settles_same settlement (account.Token token) = false
settles_same settlement (account.Hold hold) = false
settles_same settlement (account.Release release) = false
settles_same settlement (account.Charge charge) = false
settles_same settlement (account.Credit credit) = false
settles_same settlement (account.Settlement other) =
    same_party other.provider settlement.provider && same_currency other.currency settlement.currency
    && (other.period == settlement.period)

abbrev pub is_settled : Settlement → List AccountEntry → Bool
is_settled settlement entries = list_any (settles_same settlement) entries

-- the debt that a settlement ends: what is owed of its provider, currency and period
abbrev pub settled_debt : Settlement → List AccountEntry → ℕ
settled_debt settlement entries =
    total_charged (filter (λ charge. ends_debt charge (account.Settlement settlement) && is_owed entries charge) (charges entries))

-- a settlement ends what is owed of its provider, currency and period and nothing else: by so much the debts go down
pub record EndsItsDebts (entries : List AccountEntry) (settlement : Settlement) : Type 0 where
  pub charge : (charge : Charge) → is_owed (entries ++ account.Settlement settlement ∷ []) charge ≡ (is_owed entries charge && not (ends_debt charge (account.Settlement settlement)))
  pub provider : debts_of (of_provider settlement.provider settlement.currency) (entries ++ account.Settlement settlement ∷ []) + settled_debt settlement entries ≡ debts_of (of_provider settlement.provider settlement.currency) entries

abbrev pub SettlementsEndTheirDebts : Type 0
SettlementsEndTheirDebts = (entries : List AccountEntry) (settlement : Settlement) → EndsItsDebts entries settlement
