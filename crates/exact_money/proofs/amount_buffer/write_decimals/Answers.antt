use Rattle.std.proofs.Common.{length, ap, arith}
use Rattle.exact_money.proofs.AmountText.{one_before, point_placed}
use Rattle.exact_money.proofs.amount_buffer.write_decimals.Goals as goal

pub write_digits-requires : goal.write_digits-requires
write_digits-requires c = (omega (arith, ap length (one_before c.args.size)), omega (arith, c.told-bytes))

pub returns : goal.returns
returns c =
    let w = c.write_digits in
    point_placed c.args.size w.result c.args.bytes.now w.new.buf c.told-bytes w.ensures.start w.ensures.written
