use Rattle.std.proofs.Common.{rules}
use Rattle.plain_house.specs.Entries.{book_entries}
use Rattle.plain_house.specs.Obligations.{obligations}
use Rattle.clear_cli.specs.Folder.{folder_words}
use Rattle.clear_cli.specs.Outputs.{statement_output}
use Rattle.clear_cli.proofs.OutputLemmas.{none_begun}
use Rattle.clear_cli.proofs.outputs.write_period.Goals as goal

pub returns-in_err-owed-clause-err : goal.returns-in_err-owed-clause-err
returns-in_err-owed-clause-err g c =
    let words = folder_words g.O.Folder.making g.O.File.Sink.writing in
    let left = none_begun words (statement_output (obligations 0 (book_entries c.args.events.now)) c.args.period) c.args.parties.now c.args.folder.now (search rules) in
    search rules
