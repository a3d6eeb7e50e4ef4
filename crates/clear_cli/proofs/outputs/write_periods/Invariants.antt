use Rattle.plain_house.specs.Obligations.{GoesOnFrom}
use Rattle.clear_cli.specs.Folder.{AreWritten, folder_words}
use Rattle.clear_cli.specs.Outputs.{statements}
use Rattle.clear_cli.proofs.outputs.write_periods.Given as goal

abbrev pub invariant-loop-period : goal.invariant-loop-period
invariant-loop-period g l =
    let words = folder_words g.O.Folder.making g.O.File.Sink.writing in AreWritten words (statements l.events l.parties l.period) l.fn.folder l.folder
    × GoesOnFrom l.events l.period l.rest
