use Rattle.std.proofs.Common.{arith}
use Rattle.std.proofs.lemmas.Int.{ints}
use Rattle.netting_positions.specs.Netting.{is_payable, is_receivable}
use Rattle.netting_positions.proofs.Sums.{counted_cases}
use Rattle.netting_positions.proofs.positions.net_with.Goals as goal

pub overflow_add-ten_thousandths : goal.overflow_add-ten_thousandths
overflow_add-ten_thousandths c =
    let received = counted_cases (is_receivable c.args.row.now.party c.args.row.now.currency) c.args.obligation.now in
    omega (arith, ints)

pub overflow_sub-ten_thousandths : goal.overflow_sub-ten_thousandths
overflow_sub-ten_thousandths c =
    let row = c.args.row.now in
    let received = counted_cases (is_receivable row.party row.currency) c.args.obligation.now in
    let paid = counted_cases (is_payable row.party row.currency) c.args.obligation.now in
    omega (arith, ints)

pub returns : goal.returns
returns c =
    let row = c.args.row.now in
    let received = counted_cases (is_receivable row.party row.currency) c.args.obligation.now in
    let paid = counted_cases (is_payable row.party row.currency) c.args.obligation.now in
    omega (arith, ints)
