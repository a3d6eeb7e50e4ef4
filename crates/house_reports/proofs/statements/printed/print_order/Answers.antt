use Rattle.std.proofs.Common.{rules}
use Rattle.house_statements.specs.Order.{order_text}
use Rattle.house_reports.proofs.ended_house.CutLemmas.{cut_none}
use Rattle.house_reports.proofs.statements.printed.print_order.Goals as goal

pub returns-in_err-text-clause-err : goal.returns-in_err-text-clause-err
returns-in_err-text-clause-err g c =
    let cut = cut_none g.W.Sink.writing (order_text c.args.events.now) c.args.writer.now (g.met.W.Sink.takes_none c.args.writer.now) in
    search rules
