use Rattle.std.proofs.Common.{◌≡◌, ◌<◌, ◌≤◌, ◌+◌, ℕ, List, Result, map, length, set, get_or, ap, sym, subst, ◌∙◌, arith}
use Rattle.std.specs.List.{insert}
use Rattle.std.proofs.lemmas.List.Edits.{length-insert}
use Rattle.std.specs.List.Sorted.{IsNonDecreasingBy, IsPartitionPoint, IsStrictlySortedBy}
use Rattle.std.specs.Bool.{if◌then◌else◌}
use Rattle.std.specs.Ordering.{ordering_index}
use Rattle.std.specs.Result.{is_ok}
use Rattle.std.specs.declared.cmp.Ordering.TheVariants.{Less, Equal, Greater}
use Rattle.ocpi_types.specs.declared.party.Party.{Party}
use Rattle.netting_positions.specs.declared.obligation.Obligation.{Obligation}
use Rattle.netting_positions.specs.declared.row.Key.{Key}
use Rattle.netting_positions.specs.declared.row.StatementRow.{StatementRow}
use Rattle.netting_positions.specs.Inner.StatedRows.{row_key, row_with, rows_with, zero_row}
use Rattle.netting_positions.specs.StatementKeys.{key_order}
use Rattle.netting_positions.proofs.RowSearch.{put_found, put_new, searchable}
use Rattle.netting_positions.proofs.statement.add_to_row.Goals as goal

pub returns-in-Ok-clause-rows : goal.returns-in-Ok-clause-rows
returns-in-Ok-clause-rows c =
    let rows = c.args.rows.now.items in
    let place = c.in-Ok.place in
    let key = c.args.key.now in
    let row = c.index.result.now in
    let within : place < length rows = omega (arith, c.in-Ok.ensures.within, ap length c.as_slice.ensures.value) in
    let tied : key_order (row_key row) key ≡ Equal =
    ap (λ (r : StatementRow). key_order (row_key r) key) (c.index.ensures ∙ ap (λ (l : List StatementRow). get_or l place row) (sym c.as_slice.ensures.value))
    ∙ c.in-Ok.ensures.position row in
    ap (λ (r : StatementRow). set rows place r) c.row_with.ensures
    ∙ put_found c.args.party.now c.args.obligation.now key rows place row within c.index.ensures c.requires.sorted tied

-- the rows with one more where there was none of the key
put_there : (party : Party) (o : Obligation) (key : Key) (rows seen : List StatementRow) (place : ℕ) (row zero : StatementRow) → seen ≡ rows
    → IsStrictlySortedBy key_order (map row_key rows) → place ≤ length seen
    → (IsNonDecreasingBy (λ row. ordering_index (key_order (row_key row) key)) seen
    → IsPartitionPoint (λ row. key_order (row_key row) key ≡ Less) (λ row. key_order (row_key row) key ≡ Greater) seen place)
    → zero ≡ zero_row key → row ≡ row_with party o zero
    → insert rows place row ≡ rows_with party o key rows
put_there party o key rows seen place row zero e sorted within found z is =
    let at : IsPartitionPoint (λ row. key_order (row_key row) key ≡ Less) (λ row. key_order (row_key row) key ≡ Greater) rows place =
    subst (λ (l : List StatementRow). IsPartitionPoint (λ row. key_order (row_key row) key ≡ Less) (λ row. key_order (row_key row) key ≡ Greater) l place) e
    (found (subst (λ (l : List StatementRow). IsNonDecreasingBy (λ row. ordering_index (key_order (row_key row) key)) l) (sym e) (searchable rows key sorted))) in
    ap (λ (r : StatementRow). insert rows place r) (is ∙ ap (row_with party o) z)
    ∙ put_new party o key rows place (omega (arith, within, ap length e)) at.0 at.1

pub unwrap-requires : goal.unwrap-requires
unwrap-requires c =
    let rows = c.args.rows.now.items in
    let e = c.as_slice.ensures.value in
    let longer : length (insert rows c.in-Err.place c.row_with-in-Err.result) ≡ length rows + 1 =
    length-insert rows c.in-Err.place c.row_with-in-Err.result (omega (arith, c.in-Err.ensures.within, ap length e)) in
    c.insert.ensures.succeeds (omega (arith, c.requires.place, longer, ap length (put_there c.args.party.now c.args.obligation.now c.args.key.now _ _ _ _ _ c.as_slice.ensures.value c.requires.sorted (omega (arith, c.in-Err.ensures.within)) c.in-Err.ensures.position c.zero_row.ensures c.row_with-in-Err.ensures), ap length e, c.as_slice.ensures.len))

pub returns-in-Err-clause-rows : goal.returns-in-Err-clause-rows
returns-in-Err-clause-rows c =
    let rows = c.args.rows.now.items in
    c.insert.ensures.items
    ∙ ap (λ (r : Result (Unit {0}) _). if is_ok r then insert rows c.in-Err.place c.row_with-in-Err.result else rows) c.unwrap.ensures
    ∙ put_there c.args.party.now c.args.obligation.now c.args.key.now _ _ _ _ _ c.as_slice.ensures.value c.requires.sorted (omega (arith, c.in-Err.ensures.within)) c.in-Err.ensures.position c.zero_row.ensures c.row_with-in-Err.ensures
