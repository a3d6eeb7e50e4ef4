use Rattle.std.proofs.Common.{rules}
use Rattle.command_line.proofs.LineInParts.{IsWritten, one_part_more, told_to_part}
use Rattle.command_line.proofs.telling.tell_parts.Goals as goal

pub returns-then-is_err : goal.returns-then-is_err
returns-then-is_err g c =
    let part : IsWritten g.F.Sink.writing c.loop-part.faults c.as_bytes.result.now c.write_all.new.writer c.write_all.result =
    record { ok = search rules; unfailed = search rules; err = search rules; less = search rules; failed_is = search rules } in
    told_to_part g.F.Sink.writing g.met.F.Sink.takes_more c.args.parts.now c.loop-part.part-index _ c.as_bytes.result.now c.as_bytes.ensures.value
    c.args.faults.now c.loop-part.faults c.write_all.new.writer c.write_all.result (search rules) c.loop-part.invariant.took c.loop-part.invariant.kept part (search rules)

pub loop-part-preserved : goal.loop-part-preserved
loop-part-preserved g c =
    let longer = one_part_more c.args.parts.now c.loop-part.part-index _ c.as_bytes.result.now c.as_bytes.ensures.value (search rules) in
    let more = g.met.F.Sink.takes_more in
    search rules
