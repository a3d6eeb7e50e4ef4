-- The keys of a statement rise, and there is at most one for each of the parties and currencies.
use Rattle.std.proofs.Common.{◌≡◌, ℕ, ◌*◌, ◌≤◌, suc, Bool, true, false, cond, not, ◌&&◌, ◌||◌, List, [], ◌∷◌, length, map, filter, None, Some, refl, sym, ap, ◌∙◌, arith}
use Rattle.std.specs.Prelude.{filter_map}
use Rattle.std.specs.List.{cons_option, list_all, list_any}
use Rattle.std.specs.List.Sorted.{IsStrictlySortedBy}
use Rattle.std.specs.Ordering.{is_eq}
use Rattle.std.specs.declared.cmp.Ordering.TheVariants.{Equal}
use Rattle.std.proofs.lemmas.Cmp.{alike_right}
use Rattle.std.proofs.lemmas.List.{length-append, length-map}
use Rattle.std.proofs.lemmas.List.Kept.{IsStrictlySortedBy-filter}
use Rattle.std.proofs.Math.Nat.{suc-mul}
use Rattle.ocpi_types.specs.declared.party.Party.{Party}
use Rattle.ocpi_types.specs.Config.{has_currency_among}
use Rattle.ocpi_types.specs.Party.{same_party}
use Rattle.netting_positions.specs.declared.obligation.Obligation.{Obligation}
use Rattle.netting_positions.specs.declared.positions.NetPosition.{NetPosition}
use Rattle.netting_positions.specs.declared.row.Key.{Key}
use Rattle.netting_positions.specs.Laws.{StatementsAreInOrder, StatementsAreShort}
use Rattle.netting_positions.specs.Netting.{is_among, is_configured, net_positions, position}
use Rattle.netting_positions.specs.Statement.{keys_of, row_of}
use Rattle.netting_positions.specs.StatementKeys.{in_capitals, key_of, key_order}
use Rattle.netting_positions.proofs.Capitals.{same_in_capitals}
use Rattle.netting_positions.proofs.DifferentLemmas.{both_hold}
use Rattle.netting_positions.proofs.KeyOrder.{any_in_order, key_order_total, sorted_keys, tie_back, tie_is, tied_with}
use Rattle.netting_positions.proofs.NetFound.{any_agree, has_row, is_row, three_are}
use Rattle.netting_positions.proofs.SameParties.{both_are, same_party_equiv}
use Rattle.netting_positions.proofs.StatedLemmas.{above_tied, alike_ties, operator_key, provider_key, ties, untied_above}

-- ---- no more keys than places, where each key has a place and no two have the same

abbrev place : NetPosition → Key
place row = record { currency = row.currency; counterpart = row.party }

abbrev Placed : Key → List Key → Bool
Placed k places = list_any (ties k) places

untied_stay : (g : Key) (ks : List Key) → list_any (ties g) ks ≡ false → filter (λ k. not (ties g k)) ks ≡ ks
untied_stay g [] none = refl
untied_stay g (k ∷ ks) none =
    elim (ties g k) as (λ b. (b || list_any (ties g) ks) ≡ false → cond (not b) (k ∷ filter (λ k. not (ties g k)) ks) (filter (λ k. not (ties g k)) ks) ≡ k ∷ ks) [
      | true ↦ λ none. absurd (Prim.cc)
      | false ↦ λ none. ap (λ (l : List Key). k ∷ l) (untied_stay g ks none)
    ] none

-- at most one of them ties with g
one_less : (g : Key) (ks : List Key) → IsStrictlySortedBy key_order ks → length ks ≤ suc (length (filter (λ k. not (ties g k)) ks))
unfolding IsStrictlySortedBy
one_less g [] sorted = omega arith
one_less g (k ∷ ks) sorted =
    elim (ties g k) as (λ b. ties g k ≡ b → length (k ∷ ks) ≤ suc (length (cond (not b) (k ∷ filter (λ k. not (ties g k)) ks) (filter (λ k. not (ties g k)) ks)))) [
      | true ↦ λ e.
          let same = untied_stay g ks (untied_above g ks (above_tied g k ks (tied_with k g e) sorted.0)) in
          omega (arith, ap length same)
      | false ↦ λ e. omega (arith, one_less g ks sorted.1)
    ] refl

still_placed : (g : Key) (gs ks : List Key) → list_all (λ k. Placed k (g ∷ gs)) ks ≡ true → list_all (λ k. Placed k gs) (filter (λ k. not (ties g k)) ks) ≡ true
still_placed g gs [] all = refl
still_placed g gs (k ∷ ks) all =
    let parts = both_are (ties k g || list_any (ties k) gs) (list_all (λ k. Placed k (g ∷ gs)) ks) all in
    elim (ties g k) as (λ b. ties g k ≡ b → list_all (λ k. Placed k gs) (cond (not b) (k ∷ filter (λ k. not (ties g k)) ks) (filter (λ k. not (ties g k)) ks)) ≡ true) [
      | true ↦ λ e. still_placed g gs ks parts.1
      | false ↦ λ e.
          both_hold (Placed k gs) (list_all (λ k. Placed k gs) (filter (λ k. not (ties g k)) ks))
          (ap (λ b. b || list_any (ties k) gs) (sym (tie_back g k ∙ e)) ∙ parts.0) (still_placed g gs ks parts.1)
    ] refl

no_more : (places ks : List Key) → IsStrictlySortedBy key_order ks → list_all (λ k. Placed k places) ks ≡ true → length ks ≤ length places
no_more [] [] sorted all = omega arith
no_more [] (k ∷ ks) sorted all = absurd (Prim.cc)
no_more (g ∷ gs) ks sorted all =
    omega (
      arith,
      one_less g ks sorted,
      no_more gs (filter (λ k. not (ties g k)) ks) (IsStrictlySortedBy-filter key_order (λ k. not (ties g k)) ks sorted) (still_placed g gs ks all),
    )

-- ---- the places: a party and a currency each

abbrev places : List Party → List (List ℕ) → List Key
places ps cs = map place (net_positions ps cs [])

places_are : (key : Key) (rows : List NetPosition) → list_any (ties key) (map place rows) ≡ list_any (is_row key.counterpart key.currency) rows
places_are key [] = refl
places_are key (row ∷ rows) =
    ap (λ b. b || list_any (ties key) (map place rows)) (tie_is (place row) key)
    ∙ ap (λ b. is_row key.counterpart key.currency row || b) (places_are key rows)

among_in_capitals : (ps : List Party) (party : Party) → is_among ps (in_capitals party) ≡ is_among ps party
among_in_capitals ps party =
    any_agree (λ other. same_party other (in_capitals party)) (λ other. same_party other party)
    (λ other. same_party_equiv.symm other (in_capitals party) ∙ same_in_capitals party other ∙ same_party_equiv.symm party other) ps

has_place : (ps : List Party) (cs : List (List ℕ)) (currency : List ℕ) (party : Party) → has_currency_among cs currency ≡ true → is_among ps party ≡ true
    → Placed (record { currency = currency; counterpart = in_capitals party }) (places ps cs) ≡ true
has_place ps cs currency party has among =
    places_are (record { currency = currency; counterpart = in_capitals party }) (net_positions ps cs [])
    ∙ has_row (in_capitals party) currency [] ps cs
    ∙ both_hold (has_currency_among cs currency) (is_among ps (in_capitals party)) has (among_in_capitals ps party ∙ among)

some_placed : (ps : List Party) (cs : List (List ℕ)) (a b : Bool) (x y : Key) → Placed x (places ps cs) ≡ true → Placed y (places ps cs) ≡ true → (rest : List Key)
    → list_any (λ k. not (Placed k (places ps cs))) rest ≡ false → list_any (λ k. not (Placed k (places ps cs))) (cons_option (cond a (Some x) (cond b (Some y) None)) rest) ≡ false
some_placed ps cs true b x y px py rest none = ap (λ p. not p || list_any (λ k. not (Placed k (places ps cs))) rest) px ∙ none
some_placed ps cs false true x y px py rest none = ap (λ p. not p || list_any (λ k. not (Placed k (places ps cs))) rest) py ∙ none
some_placed ps cs false false x y px py rest none = none

keys_placed : (ps : List Party) (cs : List (List ℕ)) (party : Party) (os : List Obligation) → list_all (is_configured ps cs) os ≡ true
    → list_any (λ k. not (Placed k (places ps cs))) (filter_map (key_of party) os) ≡ false
unfolding key_of
keys_placed ps cs party [] all = refl
keys_placed ps cs party (o ∷ os) all =
    let parts = both_are (is_configured ps cs o) (list_all (is_configured ps cs) os) all in
    let three = three_are (is_among ps o.operator) (is_among ps o.provider) (has_currency_among cs o.currency) parts.0 in
    some_placed ps cs (same_party o.operator party) (same_party o.provider party) (provider_key o) (operator_key o)
    (has_place ps cs o.currency o.provider three.2 three.1) (has_place ps cs o.currency o.operator three.2 three.0)
    (filter_map (key_of party) os) (keys_placed ps cs party os parts.1)

alike_places : (ps : List Party) (cs : List (List ℕ)) (a b : Key) → key_order a b ≡ Equal → not (Placed a (places ps cs)) ≡ not (Placed b (places ps cs))
alike_places ps cs a b e = ap not (agree (places ps cs))
  where
    agree : (gs : List Key) → list_any (ties a) gs ≡ list_any (ties b) gs
    agree [] = refl
    agree (g ∷ gs) =
        ap (λ (t : Bool). t || list_any (ties a) gs) (ap is_eq (alike_right key_order_total a b g e))
        ∙ ap (λ (t : Bool). ties b g || t) (agree gs)

all_from_none : (q : Key → Bool) (ks : List Key) → list_any (λ k. not (q k)) ks ≡ false → list_all q ks ≡ true
all_from_none q [] none = refl
all_from_none q (k ∷ ks) none =
    elim (q k) as (λ b. (not b || list_any (λ k. not (q k)) ks) ≡ false → (b && list_all q ks) ≡ true) [
      | true ↦ λ none. all_from_none q ks none
      | false ↦ λ none. absurd (Prim.cc)
    ] none

-- ---- how many

positions_in : (ps : List Party) (cs : List (List ℕ)) → length (net_positions ps cs []) ≡ length cs * length ps
positions_in ps [] = omega arith
positions_in ps (c ∷ cs) =
    length-append (map (position [] c) ps) (net_positions ps cs [])
    ∙ omega (arith, length-map ps (position [] c), positions_in ps cs, suc-mul (length cs) (length ps))

pub short : StatementsAreShort
short ps cs os party configured =
    let none : list_any (λ k. not (Placed k (places ps cs))) (keys_of party os) ≡ false =
    any_in_order (λ k. not (Placed k (places ps cs))) (alike_places ps cs) (filter_map (key_of party) os) ∙ keys_placed ps cs party os configured in
    let few = no_more (places ps cs) (keys_of party os) (sorted_keys (filter_map (key_of party) os)) (all_from_none (λ k. Placed k (places ps cs)) (keys_of party os) none) in
    omega (arith, few, length-map (keys_of party os) (row_of party os), length-map (net_positions ps cs []) place, positions_in ps cs)

pub ordered : StatementsAreInOrder
ordered party os =
    (sorted_keys (filter_map (key_of party) os), λ key. any_in_order (ties key) (alike_ties key) (filter_map (key_of party) os))
