-- Obligations owe alike when listed operator by operator: between two parties they are the same ones, in the same order.
use Rattle.std.proofs.Common.{◌≡◌, ℕ, Bool, true, false, cond, not, ◌&&◌, ◌||◌, List, [], ◌∷◌, ◌++◌, filter, refl, sym, ap, ap₂, ◌∙◌, append-nil}
use Rattle.std.specs.List.{list_all, list_any}
use Rattle.std.proofs.lemmas.List.Elements.{filter-append, filter_agree}
use Rattle.std.proofs.lemmas.Map.Views.{any-filter_same}
use Rattle.ocpi_types.specs.declared.party.Party.{Party}
use Rattle.ocpi_types.specs.Currency.{same_currency}
use Rattle.ocpi_types.specs.Different.{all_different}
use Rattle.ocpi_types.specs.Party.{same_party}
use Rattle.netting_positions.specs.declared.obligation.Obligation.{Obligation}
use Rattle.netting_positions.specs.Netting.{amounts, is_among, total}
use Rattle.netting_positions.specs.SameSums.{OperatorsOweAlike, by_operator, is_between}
use Rattle.netting_positions.proofs.BalanceLemmas.{not_is}
use Rattle.netting_positions.proofs.NetFound.{any_agree, none_of, three_are}
use Rattle.netting_positions.proofs.SameParties.{both_are, same_as, same_party_equiv}

-- ---- what passes two tests

and_true : (b : Bool) → (b && true) ≡ b
and_true true = refl
and_true false = refl

twice : (p q : Obligation → Bool) (os : List Obligation) → filter p (filter q os) ≡ filter (λ o. p o && q o) os
twice p q [] = refl
twice p q (o ∷ os) = by (q o) (filter (λ o. p o && q o) os) (twice p q os)
  where
    by : (b : Bool) (both : List Obligation) → filter p (filter q os) ≡ both → filter p (cond b (o ∷ filter q os) (filter q os)) ≡ cond (p o && b) (o ∷ both) both
    by true both rest = ap₂ (λ (c : Bool) (l : List Obligation). cond c (o ∷ l) l) (sym (and_true (p o))) rest
    by false both rest = rest ∙ ap (λ c. cond c (o ∷ both) both) (sym (none_of (p o)))

none_pass : (os : List Obligation) → filter (λ o. false) os ≡ []
none_pass [] = refl
none_pass (o ∷ os) = none_pass os

-- none passes where each fails
each_fails : (p q : Obligation → Bool) → ((o : Obligation) → q o ≡ true → p o ≡ false) → (os : List Obligation) → list_all q os ≡ true → filter p os ≡ []
each_fails p q fails [] all = refl
each_fails p q fails (o ∷ os) all =
    let parts = both_are (q o) (list_all q os) all in
    ap (λ b. cond b (o ∷ filter p os) (filter p os)) (fails o parts.0) ∙ each_fails p q fails os parts.1

-- the same list, where at most one of the two holds
either_kept : (b c : Bool) (os : List Obligation) → (b ≡ true → c ≡ false) → cond b os [] ++ cond c os [] ≡ cond (b || c) os []
either_kept true true os apart = absurd (let clash : true ≡ false = apart refl in Prim.cc)
either_kept true false os apart = append-nil os
either_kept false c os apart = refl

-- ---- a test that only obligations to one operator pass

module _ (p : Obligation → Bool) (operator : Party) (only : (o : Obligation) → p o ≡ true → same_party o.operator operator ≡ true) (os : List Obligation) where
  -- an obligation that passes is to `x` where `x` is the operator
  to_one : (x : Party) (o : Obligation) → (p o && same_party o.operator x) ≡ (p o && same_party x operator)
  to_one x o = by (p o) refl
    where
      by : (b : Bool) → p o ≡ b → (b && same_party o.operator x) ≡ (b && same_party x operator)
      by true e = same_party_equiv.congr o.operator operator x (only o e) ∙ same_party_equiv.symm operator x
      by false e = refl

  of_one : (x : Party) → filter p (filter (λ o. same_party o.operator x) os) ≡ cond (same_party x operator) (filter p os) []
  of_one x =
      twice p (λ o. same_party o.operator x) os
      ∙ filter_agree (λ o. p o && same_party o.operator x) (λ o. p o && same_party x operator) (to_one x) os ∙ by (same_party x operator)
    where
      by : (b : Bool) → filter (λ o. p o && b) os ≡ cond b (filter p os) []
      by true = filter_agree (λ o. p o && true) p (λ o. and_true (p o)) os
      by false = filter_agree (λ o. p o && false) (λ o. false) (λ o. none_of (p o)) os ∙ none_pass os

  -- the first operator is none of the others
  once : (x : Party) (xs : List Party) → list_any (same_party x) xs ≡ false → same_party x operator ≡ true → is_among xs operator ≡ false
  once x xs none h =
      any_agree (λ other. same_party other operator) (same_party x) (λ other. sym (same_as other x operator h) ∙ same_party_equiv.symm other x) xs ∙ none

  of_all : (xs : List Party) → all_different same_party xs ≡ true → filter p (by_operator xs os) ≡ cond (is_among xs operator) (filter p os) []
  of_all [] different = refl
  of_all (x ∷ xs) different =
      let parts = both_are (not (list_any (same_party x) xs)) (all_different same_party xs) different in
      filter-append p (filter (λ o. same_party o.operator x) os) (by_operator xs os)
      ∙ ap₂ (λ (l m : List Obligation). l ++ m) (of_one x) (of_all xs parts.1)
      ∙ either_kept (same_party x operator) (is_among xs operator) (filter p os) (once x xs (not_is (list_any (same_party x) xs) parts.0))

  -- where each obligation is to one of the operators
  kept : (xs : List Party) → all_different same_party xs ≡ true → list_all (λ o. is_among xs o.operator) os ≡ true → filter p (by_operator xs os) ≡ filter p os
  kept xs different all = of_all xs different ∙ by (is_among xs operator) refl
    where
      among : (o : Obligation) → p o ≡ true → is_among xs o.operator ≡ is_among xs operator
      among o h = any_agree (λ other. same_party other o.operator) (λ other. same_party other operator) (λ other. same_as other o.operator operator (only o h)) xs

      fails : is_among xs operator ≡ false → (o : Obligation) → is_among xs o.operator ≡ true → p o ≡ false
      fails none o is = by (p o) refl
        where
          by : (b : Bool) → p o ≡ b → b ≡ false
          by true e = let clash : true ≡ false = sym is ∙ among o e ∙ none in clash
          by false e = refl

      by : (b : Bool) → is_among xs operator ≡ b → cond b (filter p os) [] ≡ filter p os
      by true e = refl
      by false e = sym (each_fails p (λ o. is_among xs o.operator) (fails e) os all)

-- ---- what is owed between two parties

pub operators_alike : OperatorsOweAlike
operators_alike operators os different all = record {
  owed = λ operator provider currency. ap (λ (l : List Obligation). total (amounts l)) (same operator provider currency);
  between = λ operator provider currency.
      sym (any-filter_same (is_between operator provider currency) (is_between operator provider currency) true (λ o h. h) (by_operator operators os))
      ∙ ap (list_any (is_between operator provider currency)) (same operator provider currency)
      ∙ any-filter_same (is_between operator provider currency) (is_between operator provider currency) true (λ o h. h) os;
}
  where
    same : (operator provider : Party) (currency : List ℕ) → filter (is_between operator provider currency) (by_operator operators os) ≡ filter (is_between operator provider currency) os
    same operator provider currency =
        kept (is_between operator provider currency) operator
        (λ o h. (three_are (same_party o.operator operator) (same_party o.provider provider) (same_currency o.currency currency) h).0) os operators different all
