use Rattle.std.proofs.Common.{arith}
use Rattle.house_reports.specs.explain_lines.Inner.Standing.{standing}
use Rattle.house_reports.proofs.explain_lines.TableLemmas.{any_told, rows_told}
use Rattle.house_reports.proofs.explain_lines.table.write_rows.Goals as goal

pub returns : goal.returns
returns g c =
    let told = c.in_ok-count.ensures.told in
    let start = standing c.args.explainer.now in
    let reached = standing c.run_lines.new.answerer in
    let answered = told.6.answered in (
      told.0,
      told.1,
      told.2,
      told.4,
      c.in_ok-count.ensures.end,
      told.5,
      rows_told start reached _ told.2 c.requires answered c.in_ok-count.count.lines told.6.lines_is (omega arith),
      any_told start reached _ told.2 c.requires answered,
    )
