use Rattle.std.proofs.Common.{◌≡◌, ℤ, ap, ◌∙◌, arith}
use Rattle.std.specs.Prelude.{◌-ℤ◌}
use Rattle.std.proofs.lemmas.Int.{ints}
use Rattle.netting_positions.specs.declared.row.StatementRow.{StatementRow}
use Rattle.netting_positions.specs.Inner.StatedRows.{payable_with, receivable_with}
use Rattle.netting_positions.proofs.row.row_with.Goals as goal

pub overflow_sub-receivable : goal.overflow_sub-receivable
overflow_sub-receivable c = omega (arith, ints)

pub returns : goal.returns
returns c =
    let party = c.args.party.now in
    let o = c.args.obligation.now in
    let row = c.args.row.now in
    let made : ℤ → ℤ → ℤ → StatementRow = λ receivable payable net.
    record { currency = row.currency; counterpart = row.counterpart; receivable = receivable; payable = payable; net = net } in
    let receivable : c.from_ten_thousandths.result ≡ receivable_with party o row = omega (arith, ints) in
    let payable : c.from_ten_thousandths-2.result ≡ payable_with party o row = omega (arith, ints) in
    let net : c.from_ten_thousandths-3.result ≡ receivable_with party o row -ℤ payable_with party o row = omega (arith, ints) in
    ap (λ (r : ℤ). made r c.from_ten_thousandths-2.result c.from_ten_thousandths-3.result) receivable
    ∙ ap (λ (p : ℤ). made (receivable_with party o row) p c.from_ten_thousandths-3.result) payable
    ∙ ap (made (receivable_with party o row) (payable_with party o row)) net
