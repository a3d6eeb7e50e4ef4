use Rattle.std.proofs.Common.{arith}
use Rattle.kept_batches.proofs.Batches.{no_lines, none_whole}
use Rattle.kept_batches.proofs.batch.Batch.new.Goals as goal

pub invariant_of-result : goal.invariant_of-result
invariant_of-result c =
    let size = c.in_ok-room.ensures.len in
    record { room = omega (arith, size); whole = none_whole c.in_ok-room.field-0.items size; mark_fits = c.in_ok-room.ensures.mark_fits }

pub returns : goal.returns
returns c = no_lines c.in_ok-room.field-0.items c.in_ok-room.ensures.len
