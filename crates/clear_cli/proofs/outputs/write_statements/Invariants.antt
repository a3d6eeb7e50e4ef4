use Rattle.std.proofs.Common.{map, take}
use Rattle.clear_cli.specs.Folder.{AreWritten, folder_words}
use Rattle.clear_cli.specs.Outputs.{statement_output}
use Rattle.clear_cli.proofs.outputs.write_statements.Given as goal

abbrev pub invariant-loop-party : goal.invariant-loop-party
invariant-loop-party g l =
    let words = folder_words g.O.Folder.making g.O.File.Sink.writing in AreWritten words (map (statement_output l.owed l.period) (take l.party-index l.parties)) l.fn.folder l.folder
