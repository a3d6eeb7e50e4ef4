-- A hold counts with all operators and with its own.
use Rattle.std.proofs.Common.{◌≡◌, ℕ, List, Bool, true, false, ◌&&◌, cond, Option, None, Some, refl, sym, ap, ap₂, ◌∙◌, rules, unwrap_or}
use Rattle.std.specs.Cmp.{IsEquivalence}
use Rattle.std.specs.Cmp.Lexicographic.{options_equiv}
use Rattle.std.specs.Cmp.Rules.{comparing}
use Rattle.std.specs.Map.{lookup}
use Rattle.std.proofs.Math.Bool.{and_assoc}
use Rattle.std.proofs.lemmas.Cmp.{and_equiv, nat_list_eq_equiv, on_equiv}
use Rattle.ocpi_types.specs.declared.party.Party.{Party}
use Rattle.ocpi_types.specs.Currency.{same_currency}
use Rattle.ocpi_types.specs.Party.{same_party}
use Rattle.plain_house.specs.declared.event.Hold.{Hold}
use Rattle.plain_house.specs.declared.scope.Scope.{Scope}
use Rattle.plain_house.specs.Exposure.{holds_within, of_provider}
use Rattle.plain_house.specs.Exposure as scope
use Rattle.provider_account.specs.declared.hold_sums.HoldSumKey.{HoldSumKey}
use Rattle.provider_account.specs.declared.sums.SumsByKey.{SumsByKey}
use Rattle.provider_account.specs.Inner.HoldSums.{hold_sum_at, key_of, same_hold_sum_key}
use Rattle.provider_account.specs.Inner.Sums.{IsSet, sum_at}

pub same_party_laws : IsEquivalence same_party
same_party_laws = search (comparing, rules)

pub same_held_laws : IsEquivalence same_hold_sum_key
same_held_laws =
    and_equiv (on_equiv (λ (key : HoldSumKey). key.operator) (options_equiv same_party_laws))
    (and_equiv (on_equiv (λ (key : HoldSumKey). key.provider) same_party_laws) (on_equiv (λ (key : HoldSumKey). key.currency) nat_list_eq_equiv))

-- keys that are the same have one sum
sum_same : (sums : SumsByKey HoldSumKey) (a b : HoldSumKey) → same_hold_sum_key a b ≡ true → sum_at same_hold_sum_key sums a ≡ sum_at same_hold_sum_key sums b
sum_same sums a b e i = unwrap_or (lookup (λ key. same_held_laws.congr a b key e i) sums.cells.entries) 0

changed : (sums : SumsByKey HoldSumKey) (op : ℕ → ℕ) (key q : HoldSumKey) (b : Bool) → same_hold_sum_key key q ≡ b
    → cond {A = ℕ} b (op (sum_at same_hold_sum_key sums key)) (sum_at same_hold_sum_key sums q) ≡ cond {A = ℕ} b (op (sum_at same_hold_sum_key sums q)) (sum_at same_hold_sum_key sums q)
changed sums op key q true e = ap op (sum_same sums key q e)
changed sums op key q false e = refl

module _ (op : ℕ → ℕ) (hold : Hold) (first second third : SumsByKey HoldSumKey)
    (all : IsSet same_hold_sum_key first (key_of None hold) (op (sum_at same_hold_sum_key first (key_of None hold))) second)
    (pair : IsSet same_hold_sum_key second (key_of (Some hold.operator) hold) (op (sum_at same_hold_sum_key second (key_of (Some hold.operator) hold))) third) where
  -- with all operators
  of_none : (provider : Party) (currency : List ℕ)
      → hold_sum_at third (of_provider provider currency) ≡ cond {A = ℕ} (holds_within (of_provider provider currency) hold) (op (hold_sum_at first (of_provider provider currency))) (hold_sum_at first (of_provider provider currency))
  of_none provider currency =
      let q : HoldSumKey = record { operator = None; provider = provider; currency = currency } in
      pair q ∙ all q ∙ changed first op (key_of None hold) q (same_party hold.provider provider && same_currency hold.currency currency) refl

  -- with one
  of_one : (operator provider : Party) (currency : List ℕ)
      → hold_sum_at third (scope.of_pair operator provider currency) ≡ cond {A = ℕ} (holds_within (scope.of_pair operator provider currency) hold) (op (hold_sum_at first (scope.of_pair operator provider currency))) (hold_sum_at first (scope.of_pair operator provider currency))
  of_one operator provider currency =
      let q : HoldSumKey = record { operator = Some operator; provider = provider; currency = currency } in
      pair q
      ∙ ap₂ (λ (a b : ℕ). cond {A = ℕ} (same_party hold.operator operator && (same_party hold.provider provider && same_currency hold.currency currency)) (op a) b) (all (key_of (Some hold.operator) hold)) (all q)
      ∙ changed first op (key_of (Some hold.operator) hold) q (same_party hold.operator operator && (same_party hold.provider provider && same_currency hold.currency currency)) refl
      ∙ ap (λ (b : Bool). cond {A = ℕ} b (op (sum_at same_hold_sum_key first q)) (sum_at same_hold_sum_key first q)) (sym (and_assoc (same_party hold.operator operator) (same_party hold.provider provider) (same_currency hold.currency currency)))

  pub both_set : (scope : Scope) → hold_sum_at third scope ≡ cond {A = ℕ} (holds_within scope hold) (op (hold_sum_at first scope)) (hold_sum_at first scope)
  both_set scope = by scope.operator scope.provider scope.currency
    where
      by : (operator : Option Party) (provider : Party) (currency : List ℕ) → let q : Scope = record { operator = operator; provider = provider; currency = currency } in
          hold_sum_at third q ≡ cond {A = ℕ} (holds_within q hold) (op (hold_sum_at first q)) (hold_sum_at first q)
      by None provider currency = of_none provider currency
      by (Some operator) provider currency = of_one operator provider currency

-- a hold is within its own scopes
pub within_all : (hold : Hold) → holds_within (of_provider hold.provider hold.currency) hold ≡ true
within_all hold i = same_party_laws.refl hold.provider i && nat_list_eq_equiv.refl hold.currency i

pub within_pair : (hold : Hold) → holds_within (scope.of_pair hold.operator hold.provider hold.currency) hold ≡ true
within_pair hold i = (same_party_laws.refl hold.operator i && same_party_laws.refl hold.provider i) && nat_list_eq_equiv.refl hold.currency i

-- what is set under the key of all operators leaves that of the pair
pub pair_stays : (hold : Hold) (first second : SumsByKey HoldSumKey) (sum : ℕ) → IsSet same_hold_sum_key first (key_of None hold) sum second
    → sum_at same_hold_sum_key second (key_of (Some hold.operator) hold) ≡ sum_at same_hold_sum_key first (key_of (Some hold.operator) hold)
pair_stays hold first second sum set = set (key_of (Some hold.operator) hold)
