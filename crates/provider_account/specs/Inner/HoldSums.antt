-- The sum of the open holds of each provider and currency, with one operator or with all.
use Rattle.std.specs.Prelude.{◌≡◌, ℕ, Bool, true, ◌&&◌, [], ◌∷◌, ◌++◌, Option}
use Rattle.std.proofs.Common.{sym}
use Rattle.std.specs.Cmp.Lexicographic.{same_text}
use Rattle.std.specs.Option.{option_eq}
use Rattle.ocpi_types.specs.declared.party.Party.{Party}
use Rattle.ocpi_types.specs.Currency.{same_currency}
use Rattle.ocpi_types.specs.Party.{same_party}
use Rattle.plain_house.specs.declared.event.Hold.{Hold}
use Rattle.plain_house.specs.declared.scope.Scope.{Scope}
use Rattle.provider_account.specs.declared.hold_sums.HoldSumKey.{HoldSumKey}
use Rattle.provider_account.specs.declared.sums.SumsByKey.{SumsByKey}
use Rattle.provider_account.specs.Inner.HashInput.{both_same, operator_input, operator_same}
use Rattle.provider_account.specs.Inner.Sums.{sum_at}

-- the same provider and currency, with the same operator or with all
abbrev pub same_hold_sum_key : HoldSumKey → HoldSumKey → Bool
same_hold_sum_key a b = option_eq same_party a.operator b.operator && (same_party a.provider b.provider && same_currency a.currency b.currency)

pub hashed_alike : (a b : HoldSumKey) → same_hold_sum_key a b ≡ true
    → (operator_input a.operator ++ (a.currency ∷ [])) ≡ (operator_input b.operator ++ (b.currency ∷ []))
hashed_alike a b h =
    let parts = both_same (option_eq same_party a.operator b.operator) (same_party a.provider b.provider && same_currency a.currency b.currency) h in
    let currency = both_same (same_party a.provider b.provider) (same_currency a.currency b.currency) parts.1 in
    λ i. operator_same a.operator b.operator parts.0 i ++ (same_text a.currency b.currency (sym currency.1) i ∷ [])

abbrev pub key_of_scope : Scope → HoldSumKey
key_of_scope scope = record { operator = scope.operator; provider = scope.provider; currency = scope.currency }

-- one of the keys under which a hold counts
abbrev pub key_of : Option Party → Hold → HoldSumKey
key_of operator hold = record { operator = operator; provider = hold.provider; currency = hold.currency }

-- the sum of the open holds within the scope
abbrev pub hold_sum_at : SumsByKey HoldSumKey → Scope → ℕ
hold_sum_at sums scope = sum_at same_hold_sum_key sums (key_of_scope scope)
