-- Obligations that owe alike: joined, and in another order.
use Rattle.std.proofs.Common.{◌≡◌, ◌||◌, ℕ, Bool, true, false, List, [], ◌∷◌, ◌++◌, filter, refl, sym, ap, ◌∙◌, arith}
use Rattle.std.specs.Prelude.{ℤ, ◌+ℤ◌}
use Rattle.std.proofs.Math.IntN.{+ℤ_idl}
use Rattle.std.proofs.lemmas.Int.{ints}
use Rattle.std.proofs.lemmas.List.{map-append}
use Rattle.std.proofs.lemmas.List.Elements.{filter-append}
use Rattle.std.proofs.lemmas.List.Folds.{list_any-append}
use Rattle.ocpi_types.specs.declared.party.Party.{Party}
use Rattle.netting_positions.specs.declared.obligation.Obligation.{Obligation}
use Rattle.netting_positions.specs.Netting.{amounts, total}
use Rattle.netting_positions.specs.SameSums.{OweAlike, is_any_between, is_between, owed_between}

pub alike_same : (some : List Obligation) → OweAlike some some
alike_same some = record { owed = λ o p c. refl; between = λ o p c. refl }

pub alike_then : (some others rest : List Obligation) → OweAlike some others → OweAlike others rest → OweAlike some rest
alike_then some others rest one two = record {
  owed = λ o p c. one.owed o p c ∙ two.owed o p c;
  between = λ o p c. one.between o p c ∙ two.between o p c;
}

-- ---- joined lists

regroup : (a b s : ℤ) → a +ℤ (b +ℤ s) ≡ (a +ℤ b) +ℤ s
regroup a b s = omega (arith, ints)

exchange : (a b s : ℤ) → a +ℤ (b +ℤ s) ≡ b +ℤ (a +ℤ s)
exchange a b s = omega (arith, ints)

total_joined : (xs ys : List ℤ) → total (xs ++ ys) ≡ total xs +ℤ total ys
total_joined [] ys = sym (+ℤ_idl (total ys))
total_joined (x ∷ xs) ys = ap (λ (z : ℤ). x +ℤ z) (total_joined xs ys) ∙ regroup x (total xs) (total ys)

module _ (operator provider : Party) (currency : List ℕ) where
  abbrev sum : List Obligation → ℤ
  sum obligations = owed_between operator provider currency obligations

  abbrev any : List Obligation → Bool
  any obligations = is_any_between operator provider currency obligations

  sum_joined : (xs ys : List Obligation) → sum (xs ++ ys) ≡ sum xs +ℤ sum ys
  sum_joined xs ys =
      ap (λ (l : List Obligation). total (amounts l)) (filter-append (is_between operator provider currency) xs ys)
      ∙ ap total (map-append (λ (o : Obligation). o.amount) (filter (is_between operator provider currency) xs) (filter (is_between operator provider currency) ys))
      ∙ total_joined (amounts (filter (is_between operator provider currency) xs)) (amounts (filter (is_between operator provider currency) ys))

  any_joined : (xs ys : List Obligation) → any (xs ++ ys) ≡ (any xs || any ys)
  any_joined xs ys = list_any-append (is_between operator provider currency) xs ys

  sum_exchanged : (xs ys rest : List Obligation) → sum (xs ++ (ys ++ rest)) ≡ sum (ys ++ (xs ++ rest))
  sum_exchanged xs ys rest =
      sum_joined xs (ys ++ rest) ∙ ap (λ (z : ℤ). sum xs +ℤ z) (sum_joined ys rest)
      ∙ exchange (sum xs) (sum ys) (sum rest)
      ∙ sym (sum_joined ys (xs ++ rest) ∙ ap (λ (z : ℤ). sum ys +ℤ z) (sum_joined xs rest))

  or_exchanged : (a b c : Bool) → (a || (b || c)) ≡ (b || (a || c))
  or_exchanged true true c = refl
  or_exchanged true false c = refl
  or_exchanged false true c = refl
  or_exchanged false false c = refl

  any_exchanged : (xs ys rest : List Obligation) → any (xs ++ (ys ++ rest)) ≡ any (ys ++ (xs ++ rest))
  any_exchanged xs ys rest =
      any_joined xs (ys ++ rest) ∙ ap (λ (b : Bool). any xs || b) (any_joined ys rest)
      ∙ or_exchanged (any xs) (any ys) (any rest)
      ∙ sym (any_joined ys (xs ++ rest) ∙ ap (λ (b : Bool). any ys || b) (any_joined xs rest))

  sum_behind : (first xs ys : List Obligation) → sum xs ≡ sum ys → sum (first ++ xs) ≡ sum (first ++ ys)
  sum_behind first xs ys same = sum_joined first xs ∙ ap (λ (z : ℤ). sum first +ℤ z) same ∙ sym (sum_joined first ys)

  any_behind : (first xs ys : List Obligation) → any xs ≡ any ys → any (first ++ xs) ≡ any (first ++ ys)
  any_behind first xs ys same = any_joined first xs ∙ ap (λ (b : Bool). any first || b) same ∙ sym (any_joined first ys)

-- lists that owe alike do so behind another
pub alike_behind : (first some others : List Obligation) → OweAlike some others → OweAlike (first ++ some) (first ++ others)
alike_behind first some others is = record {
  owed = λ o p c. sum_behind o p c first some others (is.owed o p c);
  between = λ o p c. any_behind o p c first some others (is.between o p c);
}

-- two lists owe alike in either order
pub alike_exchanged : (some others rest : List Obligation) → OweAlike (some ++ (others ++ rest)) (others ++ (some ++ rest))
alike_exchanged some others rest = record {
  owed = λ o p c. sum_exchanged o p c some others rest;
  between = λ o p c. any_exchanged o p c some others rest;
}
