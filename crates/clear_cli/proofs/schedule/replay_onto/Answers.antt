use Rattle.std.proofs.Common.{rules}
use Rattle.clear_cli.proofs.ReplayLemmas.{replayed}
use Rattle.clear_cli.proofs.schedule.replay_onto.Goals as goal

-- src/schedule.rt:37:1
pub returns-clause-ended : goal.returns-clause-ended
returns-clause-ended g c =
    replayed g.W.Sink.writing c.args.config.now c.args.schedule c.args.writer.now c.write_finished.new.writer
    c.schedule.inside.commands.items c.as_slice.result.now c.in_ok-trace.trace.finished.items c.as_slice-2.result.now c.in_ok-trace.trace.events.items
    c.write_finished.result (search rules) (search rules) (search rules) c.in_ok-trace.ensures.one_house c.in_ok-trace.ensures.rules
    c.write_finished.ensures.ok c.write_finished.ensures.kept c.write_finished.ensures.err
