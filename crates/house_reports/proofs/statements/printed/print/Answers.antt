use Rattle.std.proofs.Common.{rules, ◌≡◌, ◌++◌, ◌∙◌, List, ℕ, ap, ap₂, subst}
use Rattle.ocpi_types.specs.declared.party.Party.{Party}
use Rattle.netting_positions.specs.Netting.{parties}
use Rattle.plain_house.specs.Entries.{period_of}
use Rattle.house_statements.specs.Order.{order_text}
use Rattle.house_reports.specs.ended_house.Writing.{IsCutOff}
use Rattle.house_reports.specs.statements.StatementsText.{periods_text, statements_text}
use Rattle.house_reports.proofs.ended_house.CutLemmas.{cut_behind, cut_in_front, cut_none}
use Rattle.house_reports.proofs.statements.printed.print.Goals as goal

pub returns-in_err-parties-clause-err : goal.returns-in_err-parties-clause-err
returns-in_err-parties-clause-err g c =
    let ended = c.args.ended.now in
    let cut = cut_none g.W.Sink.writing (statements_text ended.config ended.events) c.args.writer.now (g.met.W.Sink.takes_none c.args.writer.now) in
    search rules

pub returns-in_err-print_order-clause-err : goal.returns-in_err-print_order-clause-err
returns-in_err-print_order-clause-err g c =
    let ended = c.args.ended.now in
    let cut = cut_in_front g.W.Sink.writing (order_text ended.events) (periods_text ended.events (parties ended.config) (period_of ended.events))
    c.args.writer.now c.print_order.new.writer c.in_err-print_order.field-0.0 (search rules) in
    search rules

pub returns-in_err-print_periods-clause-err : goal.returns-in_err-print_periods-clause-err
returns-in_err-print_periods-clause-err g c =
    let ended = c.args.ended.now in
    let cut = cut_behind g.W.Sink.writing g.met.W.Sink.takes_more (order_text ended.events) (periods_text ended.events (parties ended.config) (period_of ended.events))
    c.args.writer.now c.print_order.new.writer c.print_periods.new.writer c.in_err-print_periods.field-0.0 (search rules) (search rules) in
    search rules

pub returns-clause-ok : goal.returns-clause-ok
returns-clause-ok g c =
    let ended = c.args.ended.now in
    let joined = g.met.W.Sink.takes_more c.args.writer.now c.print_order.new.writer c.print_periods.new.writer (order_text ended.events)
    (periods_text ended.events (parties ended.config) (period_of ended.events)) (search rules) (search rules) in
    search rules
