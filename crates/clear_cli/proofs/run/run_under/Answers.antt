use Rattle.std.proofs.Common.{arith, map}
use Rattle.std.proofs.lemmas.List.{length-map}
use Rattle.clear_cli.specs.Opening.{GivenFile, given_file}
use Rattle.clear_cli.proofs.RunLemmas.{ends, stops}
use Rattle.clear_cli.proofs.run.run_under.Goals as goal

pub returns-in-Ok-default-clause-ended : goal.returns-in-Ok-default-clause-ended
returns-in-Ok-default-clause-ended g c =
    let opened = c.in-Ok.ensures.opened in
    let many = length-map {B = GivenFile g.row.I.Denot} c.args.files.items given_file in
    ends _ g.F.Sink.writing c.args.config.now _ c.open.new.folder c.in-Ok.opened.named.items c.in-Ok.opened.pairs.items opened.0 c.args.faults.now c.open.new.faults
    c.run_opened.new.faults c.in-Ok-default.are_done c.is_whole.result c.run_opened.result.0 c.in-Ok-default.is-0 opened.1 opened.2 (
      λ e. (omega (arith, many, (c.is_whole.ensures.0 e).0, c.len-answered.ensures, c.len-count.ensures), (c.is_whole.ensures.0 e).1),
      λ both. c.is_whole.ensures.1 (omega (arith, many, both.0, c.len-answered.ensures, c.len-count.ensures), both.1),
    )
    c.run_opened.ensures.ended

pub returns-in-Err-default-clause-ended : goal.returns-in-Err-default-clause-ended
returns-in-Err-default-clause-ended g c =
    let opened = c.in-Ok.ensures.opened in
    stops _ g.F.Sink.writing c.args.config.now _ c.open.new.folder c.in-Ok.opened.named.items c.in-Ok.opened.pairs.items opened.0 c.args.faults.now c.open.new.faults
    c.run_opened.new.faults c.in-Err-default.fault c.run_opened.result.0 c.in-Err-default.is-0 opened.1 opened.2 c.run_opened.ensures.ended
