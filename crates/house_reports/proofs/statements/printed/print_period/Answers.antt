use Rattle.std.proofs.Common.{rules}
use Rattle.std.specs.Prelude.{flat_map}
use Rattle.plain_house.specs.Entries.{book_entries}
use Rattle.plain_house.specs.Obligations.{obligations}
use Rattle.house_reports.specs.statements.StatementsText.{section_text}
use Rattle.house_reports.proofs.ended_house.CutLemmas.{cut_none}
use Rattle.house_reports.proofs.statements.printed.print_period.Goals as goal

pub returns-in_err-text-clause-err : goal.returns-in_err-text-clause-err
returns-in_err-text-clause-err g c =
    let text = flat_map (section_text (obligations 0 (book_entries c.args.events.now)) c.args.period) c.args.parties.now in
    let cut = cut_none g.W.Sink.writing text c.args.writer.now (g.met.W.Sink.takes_none c.args.writer.now) in
    search rules
