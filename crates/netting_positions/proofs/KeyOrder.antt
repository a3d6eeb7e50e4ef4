-- Keys in order, each once.
use Rattle.std.proofs.Common.{◌≡◌, Bool, true, false, ◌&&◌, ◌||◌, List, [], ◌∷◌, refl, ap, ◌∙◌}
use Rattle.std.specs.Cmp.{IsTotalOrder}
use Rattle.std.specs.List.{AllByRecursion, fold, list_any}
use Rattle.std.specs.List.Sorted.{IsStrictlySortedBy}
use Rattle.std.specs.Cmp.Lexicographic.{slice_cmp}
use Rattle.std.specs.Ordering.{is_eq, nat_cmp, ordering_reverse, ordering_then}
use Rattle.std.specs.declared.cmp.Ordering.{Ordering}
use Rattle.std.specs.declared.cmp.Ordering.TheVariants.{Less, Equal, Greater}
use Rattle.std.proofs.lemmas.Cmp.{nat_list_cmp_total, on_total, then_total}
use Rattle.std.proofs.lemmas.Map.Text.{is_eq-slice_cmp}
use Rattle.ocpi_json.specs.Folded.{folded}
use Rattle.ocpi_types.specs.Currency.{same_currency}
use Rattle.ocpi_types.specs.Party.{same_party}
use Rattle.netting_positions.specs.declared.row.Key.{Key}
use Rattle.netting_positions.specs.Inner.KeysInOrder.{in_order, inserted, placed}
use Rattle.netting_positions.specs.StatementKeys.{key_order}

pub key_order_total : IsTotalOrder key_order
unfolding key_order
key_order_total =
    then_total (on_total (λ (key : Key). key.currency) nat_list_cmp_total)
    (then_total (on_total (λ (key : Key). key.counterpart.country_code) (on_total folded nat_list_cmp_total))
    (on_total (λ (key : Key). key.counterpart.party_id) (on_total folded nat_list_cmp_total)))

-- ---- ties

is_eq_then : (x y : Ordering) → is_eq (ordering_then x y) ≡ (is_eq x && is_eq y)
is_eq_then Less y = refl
is_eq_then Equal y = refl
is_eq_then Greater y = refl

is_eq_reverse : (x : Ordering) → is_eq (ordering_reverse x) ≡ is_eq x
is_eq_reverse Less = refl
is_eq_reverse Equal = refl
is_eq_reverse Greater = refl

three_tie : (x y z : Ordering) (s c p : Bool) → is_eq x ≡ s → is_eq y ≡ c → is_eq z ≡ p → is_eq (ordering_then x (ordering_then y z)) ≡ (s && (c && p))
three_tie x y z s c p e f g =
    is_eq_then x (ordering_then y z) ∙ ap (λ t. t && is_eq (ordering_then y z)) e
    ∙ ap (λ t. s && t) (is_eq_then y z ∙ ap (λ t. t && is_eq z) f ∙ ap (λ t. c && t) g)

pub tie_is : (a b : Key) → is_eq (key_order a b) ≡ (same_currency a.currency b.currency && same_party a.counterpart b.counterpart)
unfolding key_order
tie_is a b =
    three_tie (slice_cmp nat_cmp a.currency b.currency) (slice_cmp nat_cmp (folded a.counterpart.country_code) (folded b.counterpart.country_code))
    (slice_cmp nat_cmp (folded a.counterpart.party_id) (folded b.counterpart.party_id)) _ _ _
    (is_eq-slice_cmp a.currency b.currency) (is_eq-slice_cmp (folded a.counterpart.country_code) (folded b.counterpart.country_code))
    (is_eq-slice_cmp (folded a.counterpart.party_id) (folded b.counterpart.party_id))

pub tie_back : (a b : Key) → is_eq (key_order a b) ≡ is_eq (key_order b a)
tie_back a b = ap is_eq (key_order_total.antisymm a b) ∙ is_eq_reverse (key_order b a)

pub tied_with : (a b : Key) → is_eq (key_order a b) ≡ true → key_order a b ≡ Equal
tied_with a b h = elim (key_order a b) as (λ o. is_eq o ≡ true → o ≡ Equal) [ Less ↦ λ h. absurd (Prim.cc) | Equal ↦ λ h. refl | Greater ↦ λ h. absurd (Prim.cc) ] h

-- ---- in order

all_inserted : (k key : Key) (keys : List Key) → key_order k key ≡ Less → AllByRecursion (λ y. key_order k y ≡ Less) keys → AllByRecursion (λ y. key_order k y ≡ Less) (inserted key keys)
all_inserted k key [] e all = (e, tt)
all_inserted k key (x ∷ xs) e all =
    elim (key_order x key) as (λ o. AllByRecursion (λ y. key_order k y ≡ Less) (placed o key x xs (inserted key xs))) [
      | Less ↦ (all.0, all_inserted k key xs e all.1)
      | Equal ↦ all
      | Greater ↦ (e, all)
    ]

pub all_above : (key k : Key) (keys : List Key) → key_order key k ≡ Less → AllByRecursion (λ y. key_order k y ≡ Less) keys → AllByRecursion (λ y. key_order key y ≡ Less) keys
all_above key k [] e all = tt
all_above key k (x ∷ xs) e all = (key_order_total.trans key k x e all.0, all_above key k xs e all.1)

pub below : (a b : Key) → key_order a b ≡ Greater → key_order b a ≡ Less
below a b e = key_order_total.antisymm b a ∙ ap ordering_reverse e

pub sorted_inserted : (key : Key) (keys : List Key) → IsStrictlySortedBy key_order keys → IsStrictlySortedBy key_order (inserted key keys)
unfolding IsStrictlySortedBy
sorted_inserted key [] sorted = (tt, tt)
sorted_inserted key (k ∷ ks) sorted =
    elim (key_order k key) as (λ o. key_order k key ≡ o → IsStrictlySortedBy key_order (placed o key k ks (inserted key ks))) [
      | Less ↦ λ e. (all_inserted k key ks e sorted.0, sorted_inserted key ks sorted.1)
      | Equal ↦ λ e. sorted
      | Greater ↦ λ e. ((below k key e, all_above key k ks (below k key e) sorted.0), sorted)
    ] refl

sorted_onto : (sorted keys : List Key) → IsStrictlySortedBy key_order sorted → IsStrictlySortedBy key_order (fold (λ sorted key. inserted key sorted) sorted keys)
sorted_onto sorted [] h = h
sorted_onto sorted (key ∷ keys) h = sorted_onto (inserted key sorted) keys (sorted_inserted key sorted h)

pub sorted_keys : (keys : List Key) → IsStrictlySortedBy key_order (in_order keys)
unfolding IsStrictlySortedBy
sorted_keys keys = sorted_onto [] keys tt

-- ---- the same keys

module _ (t : Key → Bool) (alike : (a b : Key) → key_order a b ≡ Equal → t a ≡ t b) where
  or_swap : (a b c : Bool) → (a || (b || c)) ≡ (b || (a || c))
  or_swap true true c = refl
  or_swap true false c = refl
  or_swap false b c = refl

  or_again : (a b c : Bool) → a ≡ b → (a || c) ≡ (b || (a || c))
  or_again true b c e = ap (λ x. x || true) e
  or_again false true c e = absurd (Prim.cc)
  or_again false false c e = refl

  or_assoc : (a b c : Bool) → ((a || b) || c) ≡ (b || (a || c))
  or_assoc true true c = refl
  or_assoc true false c = refl
  or_assoc false b c = refl

  any_inserted : (key : Key) (keys : List Key) → list_any t (inserted key keys) ≡ (t key || list_any t keys)
  any_inserted key [] = refl
  any_inserted key (k ∷ ks) =
      elim (key_order k key) as (λ o. key_order k key ≡ o → list_any t (placed o key k ks (inserted key ks)) ≡ (t key || (t k || list_any t ks))) [
        | Less ↦ λ e. ap (λ b. t k || b) (any_inserted key ks) ∙ or_swap (t k) (t key) (list_any t ks)
        | Equal ↦ λ e. or_again (t k) (t key) (list_any t ks) (alike k key e)
        | Greater ↦ λ e. refl
      ] refl

  any_onto : (sorted keys : List Key) → list_any t (fold (λ sorted key. inserted key sorted) sorted keys) ≡ (list_any t sorted || list_any t keys)
  any_onto sorted [] = or_none (list_any t sorted)
    where
      or_none : (a : Bool) → a ≡ (a || false)
      or_none true = refl
      or_none false = refl
  any_onto sorted (key ∷ keys) =
      any_onto (inserted key sorted) keys ∙ ap (λ b. b || list_any t keys) (any_inserted key sorted)
      ∙ or_assoc (t key) (list_any t sorted) (list_any t keys)

  pub any_in_order : (keys : List Key) → list_any t (in_order keys) ≡ list_any t keys
  any_in_order keys = any_onto [] keys
