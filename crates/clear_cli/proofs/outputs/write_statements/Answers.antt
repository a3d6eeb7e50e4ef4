use Rattle.std.proofs.Common.{rules}
use Rattle.clear_cli.specs.Folder.{folder_words}
use Rattle.clear_cli.specs.Outputs.{statement_output}
use Rattle.clear_cli.proofs.OutputLemmas.{left_at, one_more}
use Rattle.clear_cli.proofs.outputs.write_statements.Goals as goal

pub loop-party-preserved : goal.loop-party-preserved
loop-party-preserved g c =
    let words = folder_words g.O.Folder.making g.O.File.Sink.writing in
    let more = one_more words (statement_output c.args.owed.now c.args.period) c.args.parties.now c.loop-party.party-index _ c.party-item.result
    c.args.folder.now c.loop-party.folder c.write_one.new.folder c.party-item.is in
    search rules

pub returns-in_err-write_one-clause-err : goal.returns-in_err-write_one-clause-err
returns-in_err-write_one-clause-err g c =
    let words = folder_words g.O.Folder.making g.O.File.Sink.writing in
    let left = left_at words (statement_output c.args.owed.now c.args.period) c.args.parties.now c.loop-party.party-index _ c.party-item.result
    c.args.folder.now c.loop-party.folder c.write_one.new.folder c.in_err-write_one.field-0.0 c.party-item.is (search rules) c.loop-party.invariant c.in_err-write_one.ensures.err in
    search rules
