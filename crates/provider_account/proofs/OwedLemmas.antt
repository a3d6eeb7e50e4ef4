-- What stands at each key after a change at one.
use Rattle.std.proofs.Common.{◌≡◌, ◌+◌, ◌-◌, ◌≤◌, ℕ, Bool, true, false, cond, Option, refl, ap, ◌∙◌, arith}
use Rattle.std.specs.Cmp.{IsEquivalence}
use Rattle.std.specs.HashMap.Eq.{lookup_congr}
use Rattle.std.specs.Option.{unwrap_or}
use Rattle.provider_account.specs.declared.debt_keys.DebtKey.{DebtKey}
use Rattle.provider_account.specs.contracts.debt_keys.DebtKeyEq.TheImpl.Laws.{laws-law}
use Rattle.provider_account.specs.Inner.DebtKeys.{same_key}
use Rattle.provider_account.specs.Inner.Owed.{amount_of, part_of}
use Rattle.provider_account.specs.Inner.Sums.{IsSet}
use Rattle.provider_account.specs.declared.sums.SumsByKey.{SumsByKey}

pub same_key_laws : IsEquivalence same_key
same_key_laws = laws-law

module _ (old new : SumsByKey DebtKey) (key other : DebtKey) (amount : ℕ) where
  -- the same stands at the same key
  pub amount_of_same : same_key key other ≡ true → amount_of old key ≡ amount_of old other
  amount_of_same e = ap (λ (o : Option ℕ). unwrap_or o 0) (lookup_congr same_key same_key_laws.congr old.cells.entries key other e)

  pub amount_added : IsSet same_key old key (amount_of old key + amount) new → amount_of new other ≡ amount_of old other + part_of key other amount
  amount_added set = set other ∙ by (same_key key other) refl
    where
      by : (b : Bool) → same_key key other ≡ b → cond b (amount_of old key + amount) (amount_of old other) ≡ amount_of old other + cond b amount 0
      by true e = ap (λ n. n + amount) (amount_of_same e)
      by false e = omega arith

  pub amount_taken : amount ≤ amount_of old key → IsSet same_key old key (amount_of old key - amount) new → amount_of new other + part_of key other amount ≡ amount_of old other
  amount_taken within set = ap (λ n. n + part_of key other amount) (set other) ∙ by (same_key key other) refl
    where
      by : (b : Bool) → same_key key other ≡ b → cond b (amount_of old key - amount) (amount_of old other) + cond b amount 0 ≡ amount_of old other
      by true e = omega (arith, amount_of_same e, within)
      by false e = omega arith
