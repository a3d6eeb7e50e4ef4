use Rattle.std.proofs.Common.{◌≡◌, take}
use Rattle.command_line.specs.Inner.Parts.{text_of}
use Rattle.command_line.proofs.telling.tell_parts.Given as goal

abbrev pub invariant-loop-part : goal.invariant-loop-part
invariant-loop-part g l = record {
  took : g.F.Sink.writing.takes l.fn.faults (text_of (take l.part-index l.parts)) l.faults;
  kept : g.F.Sink.writing.failed l.faults ≡ g.F.Sink.writing.failed l.fn.faults;
}
