use Rattle.std.proofs.Common.{◌/◌, arith}
use Rattle.std.proofs.lemmas.Fmt.{length-decimal-le}
use Rattle.exact_money.proofs.amount_buffer.write_size.Goals as goal

pub write_digits-requires : goal.write_digits-requires
write_digits-requires c =
    let few = length-decimal-le 16 (c.args.size / 10000) (omega arith) (omega arith) (omega arith) in
    (omega (arith, few), omega (arith, c.write_decimals.array_long))

pub returns-clause-room : goal.returns-clause-room
returns-clause-room c =
    let few = length-decimal-le 16 (c.args.size / 10000) (omega arith) (omega arith) (omega arith) in
    omega (arith, few, c.write_digits.ensures.start)
