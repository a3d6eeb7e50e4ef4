use Rattle.std.proofs.Common.{rules}
use Rattle.clear_cli.proofs.WritingLemmas.{fails_in_line}
use Rattle.clear_cli.proofs.schedule_text.write_trace.Goals as goal

pub returns-in_err-write_call-clause-err : goal.returns-in_err-write_call-clause-err
returns-in_err-write_call-clause-err g c =
    let fails = fails_in_line g.W.Sink.writing g.met.W.Sink.takes_more c.args.config.now c.args.finished.now c.loop-call.call-index c.call-item.result
    c.args.writer.now c.loop-call.writer c.write_call.new.writer in
    search rules
