use Rattle.std.proofs.Common.{◌-◌, drop, arith, take_all, length-drop}
use Rattle.std.proofs.lemmas.Str.{IsUtf8-from_ascii}
use Rattle.exact_money.proofs.amount_buffer.AmountBuffer.format.Goals as goal

pub from_utf8_unchecked-requires : goal.from_utf8_unchecked-requires
from_utf8_unchecked-requires c =
    let w = c.write_signed-start in
    IsUtf8-from_ascii _ (rw (take_all (24 - w.result) (drop w.result w.new.bytes) (omega (arith, w.array_long, length-drop w.result w.new.bytes)), w.ensures.written) w.ensures.ascii)
