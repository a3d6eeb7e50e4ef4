use Rattle.std.proofs.Common.{arith}
use Rattle.house_reports.specs.explain_lines.Inner.StreamStanding.{stream_standing}
use Rattle.house_reports.proofs.explain_lines.StreamTableLemmas.{rows_of_all}
use Rattle.house_reports.proofs.explain_lines.streamed.table.write_rows.Goals as goal

pub returns : goal.returns
returns g c =
    let told = c.in_ok-count.ensures.told in
    let start = stream_standing c.args.explainer.now in
    let reached = stream_standing c.run_lines.new.answerer in
    let answered = told.6.answered in (
      told.0,
      told.1,
      told.2,
      reached.state,
      told.4,
      c.in_ok-count.ensures.end,
      told.5,
      rows_of_all start reached _ told.2 c.requires answered c.in_ok-count.count.lines told.6.lines_is (omega arith),
    )
