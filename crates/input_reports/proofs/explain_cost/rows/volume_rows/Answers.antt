-- One more period.
use Rattle.std.proofs.Common.{arith}
use Rattle.cdr_rating.proofs.Prices.{energy_kept}
use Rattle.input_reports.proofs.explain_cost.AddedRows.{rows_kept}
use Rattle.input_reports.proofs.explain_cost.rows.volume_rows.Goals as goal

pub loop-number-preserved : goal.loop-number-preserved
loop-number-preserved c =
    let held = c.loop-number.invariant in
    let periods = c.as_slice-periods.result.now in
    let i = c.loop-number.number in
    let period = c.index-periods-number.result in
    let inside = c.loop-number-test.true in
    let here = c.index-periods-number.is in
    record {
      rows = rows_kept c.args.cdr.now c.args.zone.now c.args.kind periods i period c.loop-number.energy c.loop-number.rows.items c.push_if_any.new.rows.items _
          inside here held.energy held.rows c.period_row-row.ensures c.in_ok-push_if_any.ensures.rows;
      few = omega (arith, c.in_ok-push_if_any.ensures.few);
      energy = energy_kept periods i period c.loop-number.energy c.volume_in-energy.result inside here held.energy c.volume_in-energy.ensures.value;
      energy_bound = omega arith;
    }
