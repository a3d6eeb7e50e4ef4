use Rattle.std.proofs.Common.{length, arith, ap}
use Rattle.ocpi_json.specs.Inner.Places.{tokens_from}
use Rattle.ocpi_json.proofs.Places.{linked_too}
use Rattle.ocpi_json.proofs.Tapes.{next-has, next-listed, none_left}
use Rattle.ocpi_json.proofs.node.count.Goals as goal

pub overflow_add-len : goal.overflow_add-len
overflow_add-len c =
    omega (
      arith,
      c.requires.2,
      c.loop-len.invariant.sum,
      ap length (next-listed (tokens_from c.loop-len.items) (tokens_from c.in-Some.field-0) (tokens_from c.next_item.new.self) c.loop-len.invariant.has c.in-Some.ensures.value),
    )

pub loop-len-preserved : goal.loop-len-preserved
loop-len-preserved c = record {
  linked = linked_too c.loop-len.items c.next_item.new.self c.in-Some.ensures.tape c.loop-len.invariant.linked;
  has = next-has (tokens_from c.loop-len.items) (tokens_from c.in-Some.field-0) (tokens_from c.next_item.new.self) c.loop-len.invariant.has c.in-Some.ensures.value;
  sum = omega (
    arith,
    c.loop-len.invariant.sum,
    ap length (next-listed (tokens_from c.loop-len.items) (tokens_from c.in-Some.field-0) (tokens_from c.next_item.new.self) c.loop-len.invariant.has c.in-Some.ensures.value),
  );
}

pub returns : goal.returns
returns c =
    omega (arith, c.loop-len.invariant.sum, ap length (none_left (tokens_from c.loop-len.items) (tokens_from c.next_item.new.self) c.loop-len.invariant.has c.in_default.ensures.value))
