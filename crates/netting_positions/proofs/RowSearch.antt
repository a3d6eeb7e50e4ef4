-- What a binary search among the rows finds is where the row with one more obligation goes.
use Rattle.std.proofs.Common.{◌≡◌, ℕ, ◌<◌, ◌≤◌, zero, suc, false, List, [], ◌∷◌, length, map, set, get_or, refl, sym, ap, subst, ◌∙◌, arith, add-one}
use Rattle.std.specs.List.{AllByRecursion, AllWithin, insert}
use Rattle.std.specs.List.Sorted.{IsNonDecreasingBy, IsStrictlySortedBy}
use Rattle.std.specs.Ordering.{is_lt, ordering_index, ordering_reverse}
use Rattle.std.specs.declared.cmp.Ordering.TheVariants.{Less, Equal, Greater}
use Rattle.std.proofs.lemmas.Cmp.{alike_right}
use Rattle.std.proofs.lemmas.List.Sorted.{searchable_from_sorted}
use Rattle.ocpi_types.specs.declared.party.Party.{Party}
use Rattle.netting_positions.specs.declared.obligation.Obligation.{Obligation}
use Rattle.netting_positions.specs.declared.row.Key.{Key}
use Rattle.netting_positions.specs.declared.row.StatementRow.{StatementRow}
use Rattle.netting_positions.specs.StatementKeys.{key_order}
use Rattle.netting_positions.specs.Inner.StatedRows.{row_key, row_with, rows_with, rows_with_at, zero_row}
use Rattle.netting_positions.proofs.KeyOrder.{key_order_total}

each_key : (P : Key → Type 0) (rows : List StatementRow) (i : ℕ) (row : StatementRow) → i < length rows → row ≡ get_or rows i row
    → AllByRecursion P (map row_key rows) → P (row_key row)
each_key P [] i row within is all = absurd (omega arith)
each_key P (x ∷ xs) zero row within is all = subst (λ (r : StatementRow). P (row_key r)) (sym is) all.0
each_key P (x ∷ xs) (suc i) row within is all = each_key P xs i row (omega arith) is all.1

module _ (party : Party) (o : Obligation) (key : Key) where
  pub put_found : (rows : List StatementRow) (i : ℕ) (row : StatementRow) → i < length rows → row ≡ get_or rows i row
      → IsStrictlySortedBy key_order (map row_key rows) → key_order (row_key row) key ≡ Equal
      → set rows i (row_with party o row) ≡ rows_with party o key rows
  unfolding IsStrictlySortedBy
  put_found [] i row within is sorted e = absurd (omega arith)
  put_found (x ∷ xs) zero row within is sorted e =
      ap (λ (r : StatementRow). row_with party o r ∷ xs) is
      ∙ ap (λ r. rows_with_at r party o key x xs (rows_with party o key xs)) (sym (ap (λ (r : StatementRow). key_order (row_key r) key) (sym is) ∙ e))
  put_found (x ∷ xs) (suc i) row within is sorted e =
      let less : key_order (row_key x) key ≡ Less =
      sym (alike_right key_order_total (row_key row) key (row_key x) e)
      ∙ each_key (λ y. key_order (row_key x) y ≡ Less) xs i row (omega arith) is sorted.0 in
      ap (λ (rows : List StatementRow). x ∷ rows) (put_found xs i row (omega arith) is sorted.1 e)
      ∙ ap (λ r. rows_with_at r party o key x xs (rows_with party o key xs)) (sym less)

  pub put_new : (rows : List StatementRow) (i : ℕ) → i ≤ length rows
      → AllWithin (λ row. key_order (row_key row) key ≡ Less) rows 0 i → AllWithin (λ row. key_order (row_key row) key ≡ Greater) rows i (length rows)
      → insert rows i (row_with party o (zero_row key)) ≡ rows_with party o key rows
  put_new [] zero within before after = refl
  put_new [] (suc i) within before after = absurd (omega arith)
  put_new (x ∷ xs) zero within before after =
      ap (λ r. rows_with_at r party o key x xs (rows_with party o key xs)) (sym (after zero x (omega arith) (omega arith)))
  put_new (x ∷ xs) (suc i) within before after =
      ap (λ (rows : List StatementRow). x ∷ rows)
      (put_new xs i (omega arith) (λ k d low high. before (suc k) d (omega arith) (omega arith)) (λ k d low high. after (suc k) d (omega arith) (omega arith)))
      ∙ ap (λ r. rows_with_at r party o key x xs (rows_with party o key xs)) (sym (before zero x (omega arith) (omega arith)))

next_above : (rows : List StatementRow) (k : ℕ) (d : StatementRow) → suc k < length rows → IsStrictlySortedBy key_order (map row_key rows)
    → is_lt (key_order (row_key (get_or rows (suc k) d)) (row_key (get_or rows k d))) ≡ false
unfolding IsStrictlySortedBy
next_above [] k d within sorted = absurd (omega arith)
next_above (x ∷ []) k d within sorted = absurd (omega arith)
next_above (x ∷ y ∷ ys) zero d within sorted = ap is_lt (key_order_total.antisymm (row_key y) (row_key x) ∙ ap ordering_reverse sorted.0.0)
next_above (x ∷ y ∷ ys) (suc k) d within sorted = next_above (y ∷ ys) k d (omega arith) sorted.1

pub searchable : (rows : List StatementRow) (key : Key) → IsStrictlySortedBy key_order (map row_key rows)
    → IsNonDecreasingBy (λ row. ordering_index (key_order (row_key row) key)) rows
searchable rows key sorted =
    searchable_from_sorted key_order_total row_key rows key
    (λ k d low within. rw add-one (next_above rows k d (omega arith) sorted))
