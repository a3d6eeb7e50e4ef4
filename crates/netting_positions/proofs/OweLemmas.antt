-- Sums that obligations between the same parties in the same currency decide, and net positions by them.
use Rattle.std.proofs.Common.{◌≡◌, ℕ, ℤ, pos, Bool, true, false, cond, not, ◌&&◌, ◌||◌, List, [], ◌∷◌, ◌++◌, map, refl, sym, ap, subst, ◌∙◌, append-nil, arith}
use Rattle.std.specs.Prelude.{◌+ℤ◌, ◌-ℤ◌}
use Rattle.std.specs.List.{list_all, list_any}
use Rattle.std.proofs.lemmas.Cmp.{nat_list_eq_equiv}
use Rattle.std.proofs.lemmas.Int.{ints}
use Rattle.std.proofs.lemmas.List.Folds.{list_any-append}
use Rattle.std.proofs.Math.IntN.{+ℤ_idl, +ℤ_assoc}
use Rattle.ocpi_types.specs.declared.party.Party.{Party}
use Rattle.ocpi_types.specs.Currency.{same_currency}
use Rattle.ocpi_types.specs.Party.{same_party}
use Rattle.netting_positions.specs.declared.obligation.Obligation.{Obligation}
use Rattle.netting_positions.specs.declared.positions.NetPosition.{NetPosition}
use Rattle.netting_positions.specs.Netting.{is_payable, is_receivable, net_position, net_positions, payable, position, receivable}
use Rattle.netting_positions.specs.SameSums.{JoinedListsOweAlike, OweAlike, SumsDecideNetPositions, is_between}
use Rattle.netting_positions.specs.Inner.Rows.{counted}
use Rattle.netting_positions.proofs.NetFound.{none_of, sum_agree, three_are}
use Rattle.netting_positions.proofs.SameParties.{both_are, currency_is, same_party_equiv}
use Rattle.netting_positions.proofs.Sums.{sum_of, sum_of-cons}

-- between the same parties as the first, in the same currency
abbrev pub alike : Obligation → Obligation → Bool
alike o x = is_between o.operator o.provider o.currency x

pub alike_itself : (o : Obligation) → alike o o ≡ true
alike_itself o =
    ap (λ b. b && same_party o.provider o.provider && same_currency o.currency o.currency) (same_party_equiv.refl o.operator)
    ∙ ap (λ b. b && same_currency o.currency o.currency) (same_party_equiv.refl o.provider) ∙ nat_list_eq_equiv.refl o.currency

-- the test does not tell apart two that are alike
abbrev TellsNoneApart : (Obligation → Bool) → Type 0
TellsNoneApart p = (o x : Obligation) → alike o x ≡ true → p x ≡ p o

-- ---- sums of parts

parts_of : (z : ℤ) (a b c : Bool) → cond (a && (b || c)) z (pos 0) ≡ cond (a && b) z (pos 0) +ℤ cond ((a && not b) && c) z (pos 0)
parts_of z true true c = omega (arith, ints)
parts_of z true false true = omega (arith, ints)
parts_of z true false false = omega (arith, ints)
parts_of z false b c = omega (arith, ints)

regroup : (a b s t c d e : ℤ) → c ≡ a +ℤ b → d ≡ s +ℤ t → e ≡ c +ℤ d → e ≡ (a +ℤ s) +ℤ (b +ℤ t)
regroup a b s t c d e f g h = omega (arith, ints)

sum_of-parts : (p q r : Obligation → Bool) (os : List Obligation)
    → sum_of (λ o. p o && (q o || r o)) os ≡ sum_of (λ o. p o && q o) os +ℤ sum_of (λ o. (p o && not (q o)) && r o) os
sum_of-parts p q r [] = refl
sum_of-parts p q r (o ∷ os) =
    regroup _ _ (sum_of (λ o. p o && q o) os) (sum_of (λ o. (p o && not (q o)) && r o) os) _ _ _
    (parts_of o.amount (p o) (q o) (r o)) (sum_of-parts p q r os) (sum_of-cons (λ o. p o && (q o || r o)) o os)
    ∙ ap (λ z. z +ℤ (counted (λ o. (p o && not (q o)) && r o) o +ℤ sum_of (λ o. (p o && not (q o)) && r o) os)) (sym (sum_of-cons (λ o. p o && q o) o os))
    ∙ ap (λ z. sum_of (λ o. p o && q o) (o ∷ os) +ℤ z) (sym (sum_of-cons (λ o. (p o && not (q o)) && r o) o os))

sum_of_none : (p : Obligation → Bool) (os : List Obligation) → sum_of (λ o. p o && false) os ≡ pos 0
sum_of_none p [] = refl
sum_of_none p (o ∷ os) =
    sum_of-cons (λ o. p o && false) o os ∙ ap (λ b. cond b o.amount (pos 0) +ℤ sum_of (λ o. p o && false) os) (none_of (p o))
    ∙ +ℤ_idl (sum_of (λ o. p o && false) os) ∙ sum_of_none p os

-- those that are alike pass together or not at all
of_alike : (p : Obligation → Bool) → TellsNoneApart p → (o x : Obligation) → (p x && alike o x) ≡ (p o && alike o x)
of_alike p apart o x = by (alike o x) refl
  where
    by : (b : Bool) → alike o x ≡ b → (p x && b) ≡ (p o && b)
    by true e = ap (λ t. t && true) (apart o x e)
    by false e = none_of (p x) ∙ sym (none_of (p o))

-- what is alike is alike to the same others
same_alike : (g o x : Obligation) → alike o x ≡ true → alike g x ≡ alike g o
same_alike g o x h =
    let parts = three_are (same_party x.operator o.operator) (same_party x.provider o.provider) (same_currency x.currency o.currency) h in
    ap (λ b. b && same_party x.provider g.provider && same_currency x.currency g.currency) (same_party_equiv.congr x.operator o.operator g.operator parts.0)
    ∙ ap (λ b. same_party o.operator g.operator && b && same_currency x.currency g.currency) (same_party_equiv.congr x.provider o.provider g.provider parts.1)
    ∙ ap (λ (c : List ℕ). same_party o.operator g.operator && same_party o.provider g.provider && same_currency c g.currency) (currency_is x.currency o.currency parts.2)

-- ---- sums of obligations that owe alike

module _ (some others : List Obligation) (same : OweAlike some others) where
  gate : (p : Obligation → Bool) (g : Obligation) → sum_of (λ x. p g && alike g x) some ≡ sum_of (λ x. p g && alike g x) others
  gate p g = by (p g)
    where
      by : (b : Bool) → sum_of (λ x. b && alike g x) some ≡ sum_of (λ x. b && alike g x) others
      by true = same.owed g.operator g.provider g.currency
      by false = sum_of_none (λ x. true) some ∙ sym (sum_of_none (λ x. true) others)

  -- those that are alike to one of these
  guided : (guide : List Obligation) (p : Obligation → Bool) → TellsNoneApart p
      → sum_of (λ x. p x && list_any (λ g. alike g x) guide) some ≡ sum_of (λ x. p x && list_any (λ g. alike g x) guide) others
  guided [] p apart = sum_of_none p some ∙ sym (sum_of_none p others)
  guided (g ∷ guide) p apart =
      let rest = guided guide (λ x. p x && not (alike g x))
      (λ o x h. ap (λ b. b && not (alike g x)) (apart o x h) ∙ ap (λ b. p o && not b) (same_alike g o x h)) in
      let first = sum_agree (λ x. p x && alike g x) (λ x. p g && alike g x) (of_alike p apart g) in
      sum_of-parts p (alike g) (λ x. list_any (λ g. alike g x) guide) some
      ∙ ap (λ z. z +ℤ sum_of (λ x. (p x && not (alike g x)) && list_any (λ g. alike g x) guide) some)
      (first some ∙ gate p g ∙ sym (first others))
      ∙ ap (λ z. sum_of (λ x. p x && alike g x) others +ℤ z) rest
      ∙ sym (sum_of-parts p (alike g) (λ x. list_any (λ g. alike g x) guide) others)

-- ---- each obligation is alike to one of its list

abbrev AreGuided : List Obligation → List Obligation → Type 0
AreGuided guide os = list_all (λ x. list_any (λ g. alike g x) guide) os ≡ true

guided_too : (guide os : List Obligation) (g : Obligation) → AreGuided guide os → AreGuided (g ∷ guide) os
guided_too guide [] g h = refl
guided_too guide (o ∷ os) g h =
    let parts = both_are (list_any (λ g. alike g o) guide) (list_all (λ x. list_any (λ g. alike g x) guide) os) h in
    ap (λ b. (alike g o || b) && list_all (λ x. list_any (λ g. alike g x) (g ∷ guide)) os) parts.0
    ∙ ap (λ b. b && list_all (λ x. list_any (λ g. alike g x) (g ∷ guide)) os) (or_true (alike g o))
    ∙ guided_too guide os g parts.1
  where
    or_true : (b : Bool) → (b || true) ≡ true
    or_true true = refl
    or_true false = refl

guided_first : (os later : List Obligation) → AreGuided (os ++ later) os
guided_first [] later = refl
guided_first (o ∷ os) later =
    ap (λ b. (b || list_any (λ g. alike g o) (os ++ later)) && list_all (λ x. list_any (λ g. alike g x) (o ∷ (os ++ later))) os) (alike_itself o)
    ∙ guided_too (os ++ later) os o (guided_first os later)

guided_last : (before os : List Obligation) → AreGuided (before ++ os) os
guided_last [] os = list_all_nil os (guided_first os [])
  where
    list_all_nil : (os : List Obligation) → AreGuided (os ++ []) os → AreGuided os os
    list_all_nil os h = subst (λ (l : List Obligation). AreGuided l os) (append-nil os) h
guided_last (b ∷ before) os = guided_too (before ++ os) os b (guided_last before os)

all_guided : (p : Obligation → Bool) (guide os : List Obligation) → AreGuided guide os → sum_of (λ x. p x && list_any (λ g. alike g x) guide) os ≡ sum_of p os
all_guided p guide [] h = refl
all_guided p guide (o ∷ os) h =
    let parts = both_are (list_any (λ g. alike g o) guide) (list_all (λ x. list_any (λ g. alike g x) guide) os) h in
    sum_of-cons (λ x. p x && list_any (λ g. alike g x) guide) o os
    ∙ ap (λ b. cond (p o && b) o.amount (pos 0) +ℤ sum_of (λ x. p x && list_any (λ g. alike g x) guide) os) parts.0
    ∙ ap (λ b. cond b o.amount (pos 0) +ℤ sum_of (λ x. p x && list_any (λ g. alike g x) guide) os) (and_true (p o))
    ∙ ap (λ z. counted p o +ℤ z) (all_guided p guide os parts.1)
    ∙ sym (sum_of-cons p o os)
  where
    and_true : (b : Bool) → (b && true) ≡ b
    and_true true = refl
    and_true false = refl

same_sum : (some others : List Obligation) → OweAlike some others → (p : Obligation → Bool) → TellsNoneApart p → sum_of p some ≡ sum_of p others
same_sum some others same p apart =
    sym (all_guided p (some ++ others) some (guided_first some others)) ∙ guided some others same (some ++ others) p apart
    ∙ all_guided p (some ++ others) others (guided_last some others)

-- ---- net positions

same_net : (some others : List Obligation) → OweAlike some others → (party : Party) (currency : List ℕ) → net_position party currency some ≡ net_position party currency others
unfolding net_position receivable payable
same_net some others same party currency =
    ap (λ z. z -ℤ sum_of (is_payable party currency) some) (same_sum some others same (is_receivable party currency) received)
    ∙ ap (λ z. sum_of (is_receivable party currency) others -ℤ z) (same_sum some others same (is_payable party currency) paid)
  where
    received : TellsNoneApart (is_receivable party currency)
    received o x h =
        let parts = three_are (same_party x.operator o.operator) (same_party x.provider o.provider) (same_currency x.currency o.currency) h in
        ap (λ (c : List ℕ). same_currency c currency && same_party x.operator party) (currency_is x.currency o.currency parts.2)
        ∙ ap (λ b. same_currency o.currency currency && b) (same_party_equiv.congr x.operator o.operator party parts.0)

    paid : TellsNoneApart (is_payable party currency)
    paid o x h =
        let parts = three_are (same_party x.operator o.operator) (same_party x.provider o.provider) (same_currency x.currency o.currency) h in
        ap (λ (c : List ℕ). same_currency c currency && same_party x.provider party) (currency_is x.currency o.currency parts.2)
        ∙ ap (λ b. same_currency o.currency currency && b) (same_party_equiv.congr x.provider o.provider party parts.1)

same_positions : (some others : List Obligation) → OweAlike some others → (currency : List ℕ) (ps : List Party) → map (position some currency) ps ≡ map (position others currency) ps
same_positions some others same currency [] = refl
same_positions some others same currency (p ∷ ps) =
    let at : ℤ → List NetPosition → List NetPosition = λ n rows. record { currency = currency; party = p; net = n } ∷ rows in
    ap (λ n. at n (map (position some currency) ps)) (same_net some others same p currency)
    ∙ ap (λ rows. at (net_position p currency others) rows) (same_positions some others same currency ps)

pub nets_decided : SumsDecideNetPositions
nets_decided ps [] some others same = refl
nets_decided ps (c ∷ cs) some others same =
    ap (λ rows. rows ++ net_positions ps cs some) (same_positions some others same c ps)
    ∙ ap (λ rows. map (position others c) ps ++ rows) (nets_decided ps cs some others same)

-- ---- joined lists

sum_of-append : (p : Obligation → Bool) (xs ys : List Obligation) → sum_of p (xs ++ ys) ≡ sum_of p xs +ℤ sum_of p ys
sum_of-append p [] ys = sym (+ℤ_idl (sum_of p ys))
sum_of-append p (x ∷ xs) ys =
    sum_of-cons p x (xs ++ ys) ∙ ap (λ z. counted p x +ℤ z) (sum_of-append p xs ys)
    ∙ sym (+ℤ_assoc (counted p x) (sum_of p xs) (sum_of p ys))
    ∙ ap (λ z. z +ℤ sum_of p ys) (sym (sum_of-cons p x xs))

pub joined : JoinedListsOweAlike
joined some others later rest same same_later = record {
  owed = λ operator provider currency.
      sum_of-append (is_between operator provider currency) some later
      ∙ ap (λ z. z +ℤ sum_of (is_between operator provider currency) later) (same.owed operator provider currency)
      ∙ ap (λ z. sum_of (is_between operator provider currency) others +ℤ z) (same_later.owed operator provider currency)
      ∙ sym (sum_of-append (is_between operator provider currency) others rest);
  between = λ operator provider currency.
      list_any-append (is_between operator provider currency) some later
      ∙ ap (λ b. b || list_any (is_between operator provider currency) later) (same.between operator provider currency)
      ∙ ap (λ b. list_any (is_between operator provider currency) others || b) (same_later.between operator provider currency)
      ∙ sym (list_any-append (is_between operator provider currency) others rest);
}
