-- Exposures that are limited, with one more entry.
use Rattle.std.proofs.Common.{◌≡◌, ◌≤◌, ◌^◌, ◌==◌, ℕ, ◌+◌, ◌*◌, List, [], ◌∷◌, ◌++◌, Bool, true, false, ◌&&◌, cond, filter, sum_by, refl, sym, ap, ◌∙◌, arith}
use Rattle.std.specs.Cmp.Lexicographic.{same_text}
use Rattle.std.proofs.lemmas.Cmp.{nat_list_eq_equiv}
use Rattle.std.proofs.lemmas.List.Sums.{sum_by-cons}
use Rattle.ocpi_types.specs.declared.party.Party.{Party}
use Rattle.ocpi_types.specs.Currency.{same_currency}
use Rattle.ocpi_types.specs.Party.{same_party}
use Rattle.cdr_checks.specs.declared.request.Settlement.{Settlement}
use Rattle.plain_house.specs.declared.entry.AccountEntry.{AccountEntry}
use Rattle.plain_house.specs.declared.entry.AccountEntry.TheVariants as account
use Rattle.plain_house.specs.declared.entry.Charge.{Charge}
use Rattle.plain_house.specs.declared.event.Hold.{Hold}
use Rattle.plain_house.specs.declared.scope.Scope.{Scope}
use Rattle.plain_house.specs.Exposure.{EntriesAddAtMost, ExposuresInAnySpelling, charges, charges_within, ends_debt, exposure_of, holds_within, is_by, is_owed, of_provider, open_holds, total_charged, total_held}
use Rattle.plain_house.specs.Settlements.{settled_debt}
use Rattle.provider_account.proofs.HoldSumCells.{same_party_laws}
use Rattle.provider_account.proofs.OpenHolds.{both}
use Rattle.provider_account.specs.Inner.AccountIndex.{AreLimited}

-- ---- what passes a test is part of what passes a wider one

at_most : (a b : Bool) (n : ℕ) → (a ≡ true → b ≡ true) → cond {A = ℕ} a n 0 ≤ cond {A = ℕ} b n 0
at_most true true n h = omega arith
at_most true false n h = absurd (let no : false ≡ true = h refl in Prim.cc)
at_most false true n h = omega arith
at_most false false n h = omega arith

module _ {X : Type 0} (weight : X → ℕ) where
  one : (p : X → Bool) (x : X) (xs : List X) → sum_by weight (filter p (x ∷ xs)) ≡ cond {A = ℕ} (p x) (weight x) 0 + sum_by weight (filter p xs)
  one p x xs = by (p x)
    where
      by : (b : Bool) → sum_by weight (cond b (x ∷ filter p xs) (filter p xs)) ≡ cond {A = ℕ} b (weight x) 0 + sum_by weight (filter p xs)
      by true = sum_by-cons weight x (filter p xs)
      by false = omega arith

  fewer : (p q : X → Bool) → ((x : X) → p x ≡ true → q x ≡ true) → (xs : List X) → sum_by weight (filter p xs) ≤ sum_by weight (filter q xs)
  fewer p q wider [] = omega arith
  fewer p q wider (x ∷ xs) = omega (arith, one p x xs, one q x xs, at_most (p x) (q x) (weight x) (wider x), fewer p q wider xs)

-- ---- a provider's exposure with one operator is part of its exposure

with_any : (a b c : Bool) → (a && b && c) ≡ true → (b && c) ≡ true
with_any true b c h = h
with_any false b c h = absurd (Prim.cc)

with_any_owed : (a b c d : Bool) → ((a && b && c) && d) ≡ true → ((b && c) && d) ≡ true
with_any_owed true b c d h = h
with_any_owed false b c d h = absurd (Prim.cc)

part_of_provider : (scope : Scope) (entries : List AccountEntry) → exposure_of scope entries ≤ exposure_of (of_provider scope.provider scope.currency) entries
part_of_provider scope entries =
    let holds = fewer (λ (hold : Hold). hold.amount) (holds_within scope) (holds_within (of_provider scope.provider scope.currency))
    (λ hold. with_any (is_by scope.operator hold.operator) (same_party hold.provider scope.provider) (same_currency hold.currency scope.currency)) (open_holds entries) in
    let debts = fewer (λ (charge : Charge). charge.cost) (λ charge. charges_within scope charge && is_owed entries charge) (λ charge. charges_within (of_provider scope.provider scope.currency) charge && is_owed entries charge)
    (λ charge. with_any_owed (is_by scope.operator charge.operator) (same_party charge.provider scope.provider) (same_currency charge.currency scope.currency) (is_owed entries charge)) (charges entries) in
    omega (arith, holds, debts)

pub limited_scope : (entries : List AccountEntry) → AreLimited entries → (scope : Scope) → exposure_of scope entries ≤ 10 ^ 15
limited_scope entries limited scope = omega (arith, part_of_provider scope entries, limited scope.provider scope.currency)

-- ---- one more entry

-- what a hold and a charge make alone, where they are within and where not
hold_alone : (scope : Scope) (hold : Hold) → exposure_of scope (account.Hold hold ∷ []) ≡ cond {A = ℕ} (holds_within scope hold) hold.amount 0
hold_alone scope hold = by (holds_within scope hold)
  where
    by : (b : Bool) → total_held (cond b (hold ∷ []) []) + 0 ≡ cond {A = ℕ} b hold.amount 0
    by true = omega arith
    by false = refl

charge_alone : (scope : Scope) (charge : Charge) → exposure_of scope (account.Charge charge ∷ []) ≡ cond {A = ℕ} (charges_within scope charge) charge.cost 0
charge_alone scope charge = by (charges_within scope charge)
  where
    by : (b : Bool) → 0 + total_charged (cond (b && true) (charge ∷ []) []) ≡ cond {A = ℕ} b charge.cost 0
    by true = omega arith
    by false = refl

at_most_all : (b : Bool) (n : ℕ) → cond {A = ℕ} b n 0 ≤ n
at_most_all true n = omega arith
at_most_all false n = omega arith

-- the exposure of the same account
same_exposure : ExposuresInAnySpelling → (entries : List AccountEntry) (a b : Party) (c d : List ℕ) → (same_party a b && same_currency c d) ≡ true
    → exposure_of (of_provider a c) entries ≡ exposure_of (of_provider b d) entries
same_exposure spelling entries a b c d h =
    let parts = both (same_party a b) (same_currency c d) h in
    spelling entries a b c parts.0 ∙ ap (λ currency. exposure_of (of_provider b currency) entries) (same_text c d (sym parts.1))

module _ (adds : EntriesAddAtMost) (entries : List AccountEntry) (limited : AreLimited entries) where
  -- an entry that makes nothing alone
  pub limited_weightless : (x : AccountEntry) → ((provider : Party) (currency : List ℕ) → exposure_of (of_provider provider currency) (x ∷ []) ≡ 0) → AreLimited (entries ++ x ∷ [])
  limited_weightless x none provider currency =
      omega (arith, adds (of_provider provider currency) entries x, none provider currency, limited provider currency)

  pub limited_hold : ExposuresInAnySpelling → (hold : Hold) → exposure_of (of_provider hold.provider hold.currency) entries + hold.amount ≤ 10 ^ 15
      → AreLimited (entries ++ account.Hold hold ∷ [])
  limited_hold spelling hold within provider currency = by (same_party hold.provider provider && same_currency hold.currency currency) refl
    where
      by : (b : Bool) → (same_party hold.provider provider && same_currency hold.currency currency) ≡ b → exposure_of (of_provider provider currency) (entries ++ account.Hold hold ∷ []) ≤ 10 ^ 15
      by true e =
          let alone = hold_alone (of_provider provider currency) hold ∙ ap (λ b. cond {A = ℕ} b hold.amount 0) e in
          omega (
            arith,
            adds (of_provider provider currency) entries (account.Hold hold),
            alone,
            within,
            same_exposure spelling entries hold.provider provider hold.currency currency e,
          )
      by false e =
          let alone = hold_alone (of_provider provider currency) hold ∙ ap (λ b. cond {A = ℕ} b hold.amount 0) e in
          omega (arith, adds (of_provider provider currency) entries (account.Hold hold), alone, limited provider currency)

  pub limited_charge : ExposuresInAnySpelling → (charge : Charge)
      → exposure_of (of_provider charge.provider charge.currency) (entries ++ account.Charge charge ∷ []) ≤ 10 ^ 15 → AreLimited (entries ++ account.Charge charge ∷ [])
  limited_charge spelling charge within provider currency = by (same_party charge.provider provider && same_currency charge.currency currency) refl
    where
      by : (b : Bool) → (same_party charge.provider provider && same_currency charge.currency currency) ≡ b → exposure_of (of_provider provider currency) (entries ++ account.Charge charge ∷ []) ≤ 10 ^ 15
      by true e =
          omega (arith, within, same_exposure spelling (entries ++ account.Charge charge ∷ []) charge.provider provider charge.currency currency e)
      by false e =
          let alone = charge_alone (of_provider provider currency) charge ∙ ap (λ b. cond {A = ℕ} b charge.cost 0) e in
          omega (arith, adds (of_provider provider currency) entries (account.Charge charge), alone, limited provider currency)

  -- with a charge added that may pass the limit
  pub with_charge : (charge : Charge) (scope : Scope) → charge.cost ≤ 10 ^ 12 → exposure_of scope (entries ++ account.Charge charge ∷ []) ≤ 2 * 10 ^ 15
  with_charge charge scope small =
      omega (arith, adds scope entries (account.Charge charge), charge_alone scope charge, at_most_all (charges_within scope charge) charge.cost, small, limited_scope entries limited scope)

-- ---- what a settlement ends is part of what is owed

module _ (settlement : Settlement) (entries : List AccountEntry) where
  ended_owed : (charge : Charge) → (ends_debt charge (account.Settlement settlement) && is_owed entries charge) ≡ true
      → (charges_within (of_provider settlement.provider settlement.currency) charge && is_owed entries charge) ≡ true
  ended_owed charge h =
      let party = same_party_laws.symm settlement.provider charge.provider in
      let currency = nat_list_eq_equiv.symm settlement.currency charge.currency in
      let first = both (same_party settlement.provider charge.provider && same_currency settlement.currency charge.currency && (settlement.period == charge.period)) (is_owed entries charge) h in
      let second = both (same_party settlement.provider charge.provider && same_currency settlement.currency charge.currency) (settlement.period == charge.period) first.0 in
      let third = both (same_party settlement.provider charge.provider) (same_currency settlement.currency charge.currency) second.0 in
      λ i. ((sym party ∙ third.0) i && (sym currency ∙ third.1) i) && first.1 i

  pub limited_settlement : AreLimited entries → settled_debt settlement entries ≤ 10 ^ 15
  limited_settlement limited =
      omega (
        arith,
        fewer (λ (charge : Charge). charge.cost) (λ charge. ends_debt charge (account.Settlement settlement) && is_owed entries charge)
            (λ charge. charges_within (of_provider settlement.provider settlement.currency) charge && is_owed entries charge) ended_owed (charges entries),
        limited settlement.provider settlement.currency,
      )
