use Rattle.plain_house.specs.Obligations.{GoesOnFrom}
use Rattle.house_reports.specs.statements.StatementsText.{periods_text}
use Rattle.house_reports.proofs.statements.printed.print_periods.Given as goal

abbrev pub invariant-loop-period : goal.invariant-loop-period
invariant-loop-period g l =
    g.W.Sink.writing.takes l.fn.writer (periods_text l.events l.parties l.period) l.writer × GoesOnFrom l.events l.period l.rest
