-- The rows of a statement with one more obligation.
use Rattle.std.proofs.Common.{◌≡◌, ℕ, ◌+◌, ◌^◌, ◌<◌, ◌≤◌, length, ℤ, pos, Bool, true, false, cond, ◌&&◌, ◌||◌, List, [], ◌∷◌, ◌++◌, map, None, Some, refl, sym, ap, subst, ◌∙◌, arith}
use Rattle.std.specs.Prelude.{◌+ℤ◌, ◌-ℤ◌, filter_map}
use Rattle.std.specs.List.{All, AllByRecursion, cons_option, fold, list_any}
use Rattle.std.specs.List.Sorted.{IsStrictlySortedBy}
use Rattle.std.specs.Ordering.{is_eq}
use Rattle.std.specs.declared.cmp.Ordering.TheVariants.{Less, Equal, Greater}
use Rattle.std.proofs.lemmas.Int.{ints}
use Rattle.std.proofs.lemmas.Cmp.{nat_list_eq_equiv, tied_itself}
use Rattle.std.proofs.lemmas.List.Elements.{All-cons, All-nil, All-same, filter_map-append}
use Rattle.std.proofs.lemmas.List.Sums.{fold-append, sum_by-append}
use Rattle.std.proofs.Math.IntN.{+ℤ_idr}
use Rattle.ocpi_types.specs.declared.party.Party.{Party}
use Rattle.ocpi_types.specs.Currency.{same_currency}
use Rattle.ocpi_types.specs.Party.{same_party}
use Rattle.netting_positions.specs.declared.obligation.Obligation.{Obligation}
use Rattle.netting_positions.specs.declared.row.Key.{Key}
use Rattle.netting_positions.specs.declared.row.StatementRow.{StatementRow}
use Rattle.netting_positions.specs.Netting.{is_configured, is_payable, is_receivable, size, total_size}
use Rattle.netting_positions.specs.Inner.KeysInOrder.{in_order, inserted, placed}
use Rattle.netting_positions.specs.Statement.{is_payable_of, is_receivable_of, keys_of, payable_of, receivable_of, row_of, statement_rows}
use Rattle.netting_positions.specs.StatementKeys.{in_capitals, key_of, key_order}
use Rattle.netting_positions.specs.Laws.{StatementsAreShort}
use Rattle.netting_positions.specs.Inner.Rows.{counted}
use Rattle.netting_positions.specs.Inner.StatedRows.{HasRoomIn, IsStated, row_key, row_with, rows_with, rows_with_at, zero_row}
use Rattle.netting_positions.proofs.Capitals.{same_in_capitals}
use Rattle.netting_positions.proofs.KeyOrder.{any_in_order, below, key_order_total, sorted_keys, tie_back, tie_is}
use Rattle.netting_positions.proofs.NetLemmas.{configured-push}
use Rattle.netting_positions.proofs.SameParties.{same_party_equiv}
use Rattle.netting_positions.proofs.Sums.{counted_cases, difference_small, sum_of-cons, sum_of-push, sum_of_small}

-- the key is the obligation's
abbrev pub ties : Key → Key → Bool
ties key k = is_eq (key_order k key)

abbrev pub provider_key : Obligation → Key
provider_key o = record { currency = o.currency; counterpart = in_capitals o.provider }

abbrev pub operator_key : Obligation → Key
operator_key o = record { currency = o.currency; counterpart = in_capitals o.operator }

-- ---- which obligations count in which row

tie_with : (k : Key) (currency : List ℕ) (whose : Party)
    → ties (record { currency = currency; counterpart = in_capitals whose }) k ≡ (same_currency currency k.currency && same_party whose k.counterpart)
tie_with k currency whose =
    let key : Key = record { currency = currency; counterpart = in_capitals whose } in
    tie_back k key ∙ tie_is key k ∙ ap (λ b. same_currency currency k.currency && b) (same_in_capitals whose k.counterpart)

gated : (s a p t : Bool) → (a ≡ true → t ≡ (s && p)) → (s && a && p) ≡ (t && a)
gated true true true t h = sym (ap (λ x. x && true) (h refl))
gated true true false t h = sym (ap (λ x. x && true) (h refl))
gated false true true t h = sym (ap (λ x. x && true) (h refl))
gated false true false t h = sym (ap (λ x. x && true) (h refl))
gated true false p true h = refl
gated true false p false h = refl
gated false false p true h = refl
gated false false p false h = refl

keyed_provider : (a b : Bool) (x y key : Key) → cond a (Some x) (cond b (Some y) None) ≡ Some key → a ≡ true → x ≡ key
keyed_provider true b x y key h e = Prim.cc
keyed_provider false b x y key h e = absurd (Prim.cc)

keyed_operator : (a b : Bool) (x y key : Key) → cond a (Some x) (cond b (Some y) None) ≡ Some key → a ≡ false → y ≡ key
keyed_operator true b x y key h e = absurd (Prim.cc)
keyed_operator false true x y key h e = Prim.cc
keyed_operator false false x y key h e = absurd (Prim.cc)

module _ (party : Party) (o : Obligation) (key k : Key) (keyed : key_of party o ≡ Some key) where
  as_operator : same_party o.operator party ≡ true → ties key k ≡ (same_currency o.currency k.currency && same_party o.provider k.counterpart)
  unfolding key_of
  as_operator e =
      ap (λ x. ties x k) (sym (keyed_provider (same_party o.operator party) (same_party o.provider party) (provider_key o) (operator_key o) key keyed e))
      ∙ tie_with k o.currency o.provider

  as_provider : same_party o.provider party ≡ true → ties key k ≡ (same_currency o.currency k.currency && same_party o.operator k.counterpart)
  unfolding key_of
  as_provider e =
      elim (same_party o.operator party) as (λ b. same_party o.operator party ≡ b → ties key k ≡ (same_currency o.currency k.currency && same_party o.operator k.counterpart)) [
        | true ↦ λ is. as_operator is ∙ ap (λ b. same_currency o.currency k.currency && b)
            (same_party_equiv.congr o.provider party k.counterpart e ∙ sym (same_party_equiv.congr o.operator party k.counterpart is))
        | false ↦ λ is.
            ap (λ x. ties x k) (sym (keyed_operator (same_party o.operator party) (same_party o.provider party) (provider_key o) (operator_key o) key keyed is))
            ∙ tie_with k o.currency o.operator
      ] refl

  pub receivable_if : is_receivable_of party k o ≡ (ties key k && same_party o.operator party)
  receivable_if = gated (same_currency o.currency k.currency) (same_party o.operator party) (same_party o.provider k.counterpart) (ties key k) as_operator

  pub payable_if : is_payable_of party k o ≡ (ties key k && same_party o.provider party)
  payable_if = gated (same_currency o.currency k.currency) (same_party o.provider party) (same_party o.operator k.counterpart) (ties key k) as_provider

-- an obligation of others counts in no row
others_receivable : (s a b p : Bool) (x y : Key) → cond a (Some x) (cond b (Some y) None) ≡ None → (s && a && p) ≡ false
others_receivable s true b p x y h = absurd (Prim.cc)
others_receivable true false b p x y h = refl
others_receivable false false b p x y h = refl

others_payable : (s a b p : Bool) (x y : Key) → cond a (Some x) (cond b (Some y) None) ≡ None → (s && b && p) ≡ false
others_payable s true b p x y h = absurd (Prim.cc)
others_payable s false true p x y h = absurd (Prim.cc)
others_payable true false false p x y h = refl
others_payable false false false p x y h = refl

pub not_receivable : (party : Party) (o : Obligation) (k : Key) → key_of party o ≡ None → is_receivable_of party k o ≡ false
unfolding key_of
not_receivable party o k h =
    others_receivable (same_currency o.currency k.currency) (same_party o.operator party) (same_party o.provider party) (same_party o.provider k.counterpart) (provider_key o) (operator_key o) h

pub not_payable : (party : Party) (o : Obligation) (k : Key) → key_of party o ≡ None → is_payable_of party k o ≡ false
unfolding key_of
not_payable party o k h =
    others_payable (same_currency o.currency k.currency) (same_party o.operator party) (same_party o.provider party) (same_party o.operator k.counterpart) (provider_key o) (operator_key o) h

-- ---- one row

abbrev row_at : Key → ℤ → ℤ → StatementRow
row_at k r p = record { currency = k.currency; counterpart = k.counterpart; receivable = r; payable = p; net = r -ℤ p }

pub same_row : (k : Key) (r r' p p' : ℤ) → r ≡ r' → p ≡ p' → row_at k r p ≡ row_at k r' p'
same_row k r r' p p' e f = ap (λ z. row_at k z p) e ∙ ap (λ z. row_at k r' z) f

receivable-push : (party : Party) (k : Key) (os : List Obligation) (o : Obligation)
    → receivable_of party k (os ++ o ∷ []) ≡ receivable_of party k os +ℤ counted (is_receivable_of party k) o
unfolding receivable_of
receivable-push party k os o = sum_of-push (is_receivable_of party k) os o

payable-push : (party : Party) (k : Key) (os : List Obligation) (o : Obligation)
    → payable_of party k (os ++ o ∷ []) ≡ payable_of party k os +ℤ counted (is_payable_of party k) o
unfolding payable_of
payable-push party k os o = sum_of-push (is_payable_of party k) os o

counted_as : (p q : Obligation → Bool) (o : Obligation) → p o ≡ q o → counted p o ≡ counted q o
counted_as p q o e = ap (λ b. cond b o.amount (pos 0)) e

not_counted : (p : Obligation → Bool) (o : Obligation) → p o ≡ false → counted p o ≡ pos 0
not_counted p o e = ap (λ b. cond b o.amount (pos 0)) e

own_currency : (currency : List ℕ) (b : Bool) → (same_currency currency currency && b) ≡ b
own_currency currency b = ap (λ s. s && b) (nat_list_eq_equiv.refl currency)

-- the row of its key counts it
row_with_it : (party : Party) (o : Obligation) (key k : Key) (os : List Obligation) → key_of party o ≡ Some key → ties key k ≡ true
    → row_with party o (row_of party os k) ≡ row_of party (os ++ o ∷ []) k
row_with_it party o key k os keyed tied =
    same_row k (receivable_of party k os +ℤ counted (is_receivable party o.currency) o) (receivable_of party k (os ++ o ∷ []))
    (payable_of party k os +ℤ counted (is_payable party o.currency) o) (payable_of party k (os ++ o ∷ []))
    (ap (λ z. receivable_of party k os +ℤ z) (counted_as (is_receivable party o.currency) (is_receivable_of party k) o
    (own_currency o.currency (same_party o.operator party) ∙ ap (λ t. t && same_party o.operator party) (sym tied) ∙ sym (receivable_if party o key k keyed)))
    ∙ sym (receivable-push party k os o))
    (ap (λ z. payable_of party k os +ℤ z) (counted_as (is_payable party o.currency) (is_payable_of party k) o
    (own_currency o.currency (same_party o.provider party) ∙ ap (λ t. t && same_party o.provider party) (sym tied) ∙ sym (payable_if party o key k keyed)))
    ∙ sym (payable-push party k os o))

-- a row in which it does not count
row_without : (party : Party) (o : Obligation) (k : Key) (os : List Obligation) → is_receivable_of party k o ≡ false → is_payable_of party k o ≡ false
    → row_of party os k ≡ row_of party (os ++ o ∷ []) k
row_without party o k os r p =
    same_row k (receivable_of party k os) (receivable_of party k (os ++ o ∷ [])) (payable_of party k os) (payable_of party k (os ++ o ∷ []))
    (sym (receivable-push party k os o ∙ ap (λ z. receivable_of party k os +ℤ z) (not_counted (is_receivable_of party k) o r) ∙ +ℤ_idr (receivable_of party k os)))
    (sym (payable-push party k os o ∙ ap (λ z. payable_of party k os +ℤ z) (not_counted (is_payable_of party k) o p) ∙ +ℤ_idr (payable_of party k os)))

row_of_another : (party : Party) (o : Obligation) (key k : Key) (os : List Obligation) → key_of party o ≡ Some key → ties key k ≡ false
    → row_of party os k ≡ row_of party (os ++ o ∷ []) k
row_of_another party o key k os keyed untied =
    row_without party o k os (receivable_if party o key k keyed ∙ ap (λ t. t && same_party o.operator party) untied)
    (payable_if party o key k keyed ∙ ap (λ t. t && same_party o.provider party) untied)

-- ---- a key that no obligation has

abbrev pub AreZero : Party → Key → List Obligation → Type 0
AreZero party key os = (receivable_of party key os ≡ pos 0) × (payable_of party key os ≡ pos 0)

first_false : (a b : Bool) → (a || b) ≡ false → (a ≡ false) × (b ≡ false)
first_false true b h = absurd (Prim.cc)
first_false false b h = (refl, h)

zero_more : (c s t : ℤ) → t ≡ c +ℤ s → c ≡ pos 0 → s ≡ pos 0 → t ≡ pos 0
zero_more c s t e f g = omega (arith, ints)

zero_if_absent : (party : Party) (key : Key) (os : List Obligation) → list_any (ties key) (filter_map (key_of party) os) ≡ false → AreZero party key os
unfolding receivable_of payable_of
zero_if_absent party key [] h = (refl, refl)
zero_if_absent party key (o ∷ os) h =
    let r = sum_of-cons (is_receivable_of party key) o os in
    let p = sum_of-cons (is_payable_of party key) o os in
    elim (key_of party o) as (λ found. key_of party o ≡ found → list_any (ties key) (cons_option found (filter_map (key_of party) os)) ≡ false → AreZero party key (o ∷ os)) [
      | None ↦ λ e h.
          let later = zero_if_absent party key os h in (
            zero_more _ _ _ r (not_counted (is_receivable_of party key) o (not_receivable party o key e)) later.0,
            zero_more _ _ _ p (not_counted (is_payable_of party key) o (not_payable party o key e)) later.1,
          )
      | Some k ↦ λ e h.
          let parts = first_false (ties key k) (list_any (ties key) (filter_map (key_of party) os)) h in
          let later = zero_if_absent party key os parts.1 in
          let untied : ties k key ≡ false = tie_back key k ∙ parts.0 in (
            zero_more _ _ _ r (not_counted (is_receivable_of party key) o (receivable_if party o k key e ∙ ap (λ t. t && same_party o.operator party) untied)) later.0,
            zero_more _ _ _ p (not_counted (is_payable_of party key) o (payable_if party o k key e ∙ ap (λ t. t && same_party o.provider party) untied)) later.1,
          )
    ] refl h

pub alike_ties : (key a b : Key) → key_order a b ≡ Equal → ties key a ≡ ties key b
alike_ties key a b e = ap is_eq (key_order_total.congr a b key e)

absent_is_zero : (party : Party) (key : Key) (os : List Obligation) → list_any (ties key) (keys_of party os) ≡ false → AreZero party key os
absent_is_zero party key os h =
    zero_if_absent party key os (sym (any_in_order (ties key) (alike_ties key) (filter_map (key_of party) os)) ∙ h)

-- ---- all rows

new_row : (party : Party) (o : Obligation) (key : Key) (os : List Obligation) → key_of party o ≡ Some key → AreZero party key os
    → row_with party o (zero_row key) ≡ row_of party (os ++ o ∷ []) key
new_row party o key os keyed zeros =
    ap (row_with party o) (same_row key (pos 0) (receivable_of party key os) (pos 0) (payable_of party key os) (sym zeros.0) (sym zeros.1))
    ∙ row_with_it party o key key os keyed (ap is_eq (tied_itself key_order_total key))

rows_of_others : (party : Party) (o : Obligation) (key : Key) (os : List Obligation) (keys : List Key) → key_of party o ≡ Some key
    → list_any (ties key) keys ≡ false → map (row_of party os) keys ≡ map (row_of party (os ++ o ∷ [])) keys
rows_of_others party o key os [] keyed h = refl
rows_of_others party o key os (k ∷ ks) keyed h =
    let parts = first_false (ties key k) (list_any (ties key) ks) h in
    ap (λ (row : StatementRow). row ∷ map (row_of party os) ks) (row_of_another party o key k os keyed parts.0)
    ∙ ap (λ (rows : List StatementRow). row_of party (os ++ o ∷ []) k ∷ rows) (rows_of_others party o key os ks keyed parts.1)

pub untied_above : (key : Key) (keys : List Key) → AllByRecursion (λ y. key_order key y ≡ Less) keys → list_any (ties key) keys ≡ false
untied_above key [] all = refl
untied_above key (y ∷ ys) all =
    ap (λ b. b || list_any (ties key) ys) (tie_back y key ∙ ap is_eq all.0) ∙ untied_above key ys all.1

pub above_tied : (key k : Key) (keys : List Key) → key_order k key ≡ Equal → AllByRecursion (λ y. key_order k y ≡ Less) keys → AllByRecursion (λ y. key_order key y ≡ Less) keys
above_tied key k [] e all = tt
above_tied key k (y ∷ ys) e all = (sym (key_order_total.congr k key y e) ∙ all.0, above_tied key k ys e all.1)

above_below : (key k : Key) (keys : List Key) → key_order key k ≡ Less → AllByRecursion (λ y. key_order k y ≡ Less) keys → AllByRecursion (λ y. key_order key y ≡ Less) keys
above_below key k [] e all = tt
above_below key k (y ∷ ys) e all = (key_order_total.trans key k y e all.0, above_below key k ys e all.1)

rows_push : (party : Party) (o : Obligation) (key : Key) (os : List Obligation) (keys : List Key) → key_of party o ≡ Some key
    → IsStrictlySortedBy key_order keys → (list_any (ties key) keys ≡ false → AreZero party key os)
    → rows_with party o key (map (row_of party os) keys) ≡ map (row_of party (os ++ o ∷ [])) (inserted key keys)
unfolding IsStrictlySortedBy
rows_push party o key os [] keyed sorted zeros = ap (λ (row : StatementRow). row ∷ []) (new_row party o key os keyed (zeros refl))
rows_push party o key os (k ∷ ks) keyed sorted zeros =
    let rows = map (row_of party os) ks in
    let after = map (row_of party (os ++ o ∷ [])) ks in
    elim (key_order k key) as (λ r. key_order k key ≡ r
    → rows_with_at r party o key (row_of party os k) rows (rows_with party o key rows)
    ≡ map (row_of party (os ++ o ∷ [])) (placed r key k ks (inserted key ks))) [
      | Less ↦ λ e.
          ap (λ (row : StatementRow). row ∷ rows_with party o key rows) (row_of_another party o key k os keyed (ap is_eq e))
          ∙ ap (λ (l : List StatementRow). row_of party (os ++ o ∷ []) k ∷ l)
          (rows_push party o key os ks keyed sorted.1 (λ none. zeros (ap (λ b. b || list_any (ties key) ks) (ap is_eq e) ∙ none)))
      | Equal ↦ λ e.
          ap (λ (row : StatementRow). row ∷ rows) (row_with_it party o key k os keyed (ap is_eq e))
          ∙ ap (λ (l : List StatementRow). row_of party (os ++ o ∷ []) k ∷ l)
          (rows_of_others party o key os ks keyed (untied_above key ks (above_tied key k ks e sorted.0)))
      | Greater ↦ λ e.
          let none : list_any (ties key) (k ∷ ks) ≡ false = untied_above key (k ∷ ks) (below k key e, above_below key k ks (below k key e) sorted.0) in
          ap (λ (row : StatementRow). row ∷ row_of party os k ∷ rows) (new_row party o key os keyed (zeros none))
          ∙ ap (λ (l : List StatementRow). row_of party (os ++ o ∷ []) key ∷ l) (rows_of_others party o key os (k ∷ ks) keyed none)
    ] refl

keys-push : (party : Party) (os : List Obligation) (o : Obligation)
    → keys_of party (os ++ o ∷ []) ≡ fold (λ sorted key. inserted key sorted) (keys_of party os) (cons_option (key_of party o) [])
keys-push party os o =
    ap in_order (filter_map-append (key_of party) os (o ∷ []))
    ∙ fold-append (λ sorted key. inserted key sorted) [] (filter_map (key_of party) os) (cons_option (key_of party o) [])

pub stated_with : (party : Party) (o : Obligation) (key : Key) (os : List Obligation) → key_of party o ≡ Some key
    → rows_with party o key (statement_rows party os) ≡ statement_rows party (os ++ o ∷ [])
stated_with party o key os keyed =
    rows_push party o key os (keys_of party os) keyed (sorted_keys (filter_map (key_of party) os)) (absent_is_zero party key os)
    ∙ ap (map (row_of party (os ++ o ∷ [])))
    (sym (keys-push party os o ∙ ap (λ found. fold (λ sorted key. inserted key sorted) (keys_of party os) (cons_option found [])) keyed))

rows_without : (party : Party) (o : Obligation) (os : List Obligation) (keys : List Key) → key_of party o ≡ None
    → map (row_of party os) keys ≡ map (row_of party (os ++ o ∷ [])) keys
rows_without party o os [] e = refl
rows_without party o os (k ∷ ks) e =
    ap (λ (row : StatementRow). row ∷ map (row_of party os) ks) (row_without party o k os (not_receivable party o k e) (not_payable party o k e))
    ∙ ap (λ (rows : List StatementRow). row_of party (os ++ o ∷ []) k ∷ rows) (rows_without party o os ks e)

pub stated_without : (party : Party) (o : Obligation) (os : List Obligation) → key_of party o ≡ None
    → statement_rows party os ≡ statement_rows party (os ++ o ∷ [])
stated_without party o os e =
    rows_without party o os (keys_of party os) e
    ∙ ap (map (row_of party (os ++ o ∷ [])))
    (sym (keys-push party os o ∙ ap (λ found. fold (λ sorted key. inserted key sorted) (keys_of party os) (cons_option found [])) e))

-- ---- how large, and in which order

keys_back : (party : Party) (os : List Obligation) (keys : List Key) → map row_key (map (row_of party os) keys) ≡ keys
keys_back party os [] = refl
keys_back party os (k ∷ ks) = ap (λ (l : List Key). k ∷ l) (keys_back party os ks)

pub rows_sorted : (party : Party) (os : List Obligation) → IsStrictlySortedBy key_order (map row_key (statement_rows party os))
rows_sorted party os =
    subst (IsStrictlySortedBy key_order) (sym (keys_back party os (keys_of party os))) (sorted_keys (filter_map (key_of party) os))

room_for : (party : Party) (o : Obligation) (os : List Obligation) (k : Key) → total_size os + size o < 2 ^ 63 → HasRoomIn party o (row_of party os k)
unfolding receivable_of payable_of
room_for party o os k fits =
    let r = counted_cases (is_receivable party o.currency) o in
    let p = counted_cases (is_payable party o.currency) o in
    let rs = sum_of_small (is_receivable_of party k) os in
    let ps = sum_of_small (is_payable_of party k) os in
    let net = difference_small (is_receivable_of party k) (is_payable_of party k) os in
    record { receivable = omega (arith, ints); payable = omega (arith, ints); net = omega (arith, ints) }

rooms_for : (party : Party) (o : Obligation) (os : List Obligation) (keys : List Key) → total_size os + size o < 2 ^ 63 → All (HasRoomIn party o) (map (row_of party os) keys)
rooms_for party o os [] fits = All-nil (HasRoomIn party o)
rooms_for party o os (k ∷ ks) fits =
    All-cons (HasRoomIn party o) (row_of party os k) (map (row_of party os) ks) (room_for party o os k fits) (rooms_for party o os ks fits)

pub stated_rooms : (rows : List StatementRow) (party : Party) (o : Obligation) (os : List Obligation) → rows ≡ statement_rows party os
    → total_size os + size o < 2 ^ 63 → All (HasRoomIn party o) rows
stated_rooms rows party o os e fits =
    All-same (HasRoomIn party o) rows (statement_rows party os) e (rooms_for party o os (keys_of party os) fits)

pub zero_room : (party : Party) (o : Obligation) (key : Key) → size o < 2 ^ 63 → HasRoomIn party o (zero_row key)
zero_room party o key fits =
    let r = counted_cases (is_receivable party o.currency) o in
    let p = counted_cases (is_payable party o.currency) o in
    record { receivable = omega (arith, ints); payable = omega (arith, ints); net = omega (arith, ints) }

pub total_size-push : (os : List Obligation) (o : Obligation) → total_size (os ++ o ∷ []) ≡ total_size os + size o
total_size-push os o = omega (arith, sum_by-append size os (o ∷ []))

-- what the table keeps, with one more obligation
pub stated_of_key : (rows rows' : List StatementRow) (n n' : ℕ) (party : Party) (ps : List Party) (cs : List (List ℕ)) (o : Obligation) (key : Key) (os : List Obligation)
    → IsStated rows n party ps cs os → key_of party o ≡ Some key → rows' ≡ rows_with party o key rows → n ≤ n'
    → is_configured ps cs o ≡ true → total_size os + size o < 2 ^ 63 → IsStated rows' n' party ps cs (os ++ o ∷ [])
stated_of_key rows rows' n n' party ps cs o key os was keyed e more configured fits = record {
  rows_are = e ∙ ap (rows_with party o key) was.rows_are ∙ stated_with party o key os keyed;
  configured = configured-push ps cs os o was.configured configured;
  fits = omega (arith, total_size-push os o);
  room = omega (arith, was.room);
}

pub stated_of_others : (rows : List StatementRow) (n : ℕ) (party : Party) (ps : List Party) (cs : List (List ℕ)) (o : Obligation) (os : List Obligation)
    → IsStated rows n party ps cs os → key_of party o ≡ None
    → is_configured ps cs o ≡ true → total_size os + size o < 2 ^ 63 → IsStated rows n party ps cs (os ++ o ∷ [])
stated_of_others rows n party ps cs o os was e configured fits = record {
  rows_are = was.rows_are ∙ stated_without party o os e;
  configured = configured-push ps cs os o was.configured configured;
  fits = omega (arith, total_size-push os o);
  room = was.room;
}

-- there is a place for one more row, where one is needed
pub has_place : (rows : List StatementRow) (n : ℕ) (party : Party) (ps : List Party) (cs : List (List ℕ)) (o : Obligation) (key : Key) (os : List Obligation)
    → StatementsAreShort → IsStated rows n party ps cs os → key_of party o ≡ Some key → is_configured ps cs o ≡ true
    → length (rows_with party o key rows) ≤ n
has_place rows n party ps cs o key os short was keyed configured =
    omega (
      arith,
      was.room,
      short ps cs (os ++ o ∷ []) party (configured-push ps cs os o was.configured configured),
      ap length (ap (rows_with party o key) was.rows_are ∙ stated_with party o key os keyed),
    )
