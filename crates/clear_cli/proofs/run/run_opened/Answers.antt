use Rattle.std.proofs.Common.{rules, inr, Ok, Err}
use Rattle.clear_cli.specs.Run.{run_words}
use Rattle.clear_cli.proofs.RunLemmas.{has_worked}
use Rattle.clear_cli.proofs.run.run_opened.Goals as goal

pub returns-in-Ok-end_house-clause-ended : goal.returns-in-Ok-end_house-clause-ended
returns-in-Ok-end_house-clause-ended g c =
    let words = run_words g.I.Source.reading g.O.Folder.making g.O.File.Sink.writing g.W.Sink.writing in
    inr (has_worked words g.F.Sink.writing c.args.config.now c.args.opened.named.items c.args.opened.pairs.items c.new.result.items c.args.folder.now c.end_house.new.folder c.args.writer.now c.end_house.new.writer
    c.args.faults.now c.tell_failed-are_done.new.faults c.in-Ok-run_house.run'.ends.items (λ events. events.items) c.in-Ok-run_house.run'.finished
    c.in-Ok.copied (Ok c.tell_failed-are_done.result) c.in-Ok.ensures c.in-Ok-run_house.ensures.worked
    (search rules) (λ calls finished. (c.in-Ok-end_house.ensures.ended calls finished, search rules)) c.new.ensures.items)

pub returns-clause-ended : goal.returns-clause-ended
returns-clause-ended g c =
    let words = run_words g.I.Source.reading g.O.Folder.making g.O.File.Sink.writing g.W.Sink.writing in
    inr (has_worked words g.F.Sink.writing c.args.config.now c.args.opened.named.items c.args.opened.pairs.items c.new-in-Err-end_house.result.items c.args.folder.now c.end_house.new.folder c.args.writer.now c.end_house.new.writer
    c.args.faults.now c.tell_failed-are_done.new.faults c.in-Ok-run_house.run'.ends.items (λ events. events.items) c.in-Ok-run_house.run'.finished
    c.in-Ok.copied (Err c.in-Err-end_house.fault) c.in-Ok.ensures c.in-Ok-run_house.ensures.worked
    (search rules) (λ calls finished. c.in-Err-end_house.ensures.ended calls finished) c.new-in-Err-end_house.ensures.items)
