use Rattle.std.proofs.Common.{◌≡◌, take}
use Rattle.clear_cli.specs.ScheduleText.{trace_text}
use Rattle.clear_cli.proofs.schedule_text.write_trace.Given as goal

abbrev pub invariant-loop-call : goal.invariant-loop-call
invariant-loop-call g l = record {
  took : g.W.Sink.writing.takes l.fn.writer (trace_text l.config (take l.call-index l.finished)) l.writer;
  kept : g.W.Sink.writing.failed l.writer ≡ g.W.Sink.writing.failed l.fn.writer;
}
