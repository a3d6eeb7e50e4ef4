use Rattle.std.proofs.Common.{◌≤◌, length, subst}
use Rattle.house_reports.proofs.balances.printed.balance_lines.Goals as goal

pub rows-requires : goal.rows-requires
rows-requires c =
    let ended = c.args.ended.now in
    let operators = subst (λ config. length config.operators ≤ 64) c.config.ensures c.is_bounded.ensures.operators in
    let cdrs = subst (λ config. config.limits.cdrs ≤ 100_000) c.config.ensures c.is_bounded.ensures.cdrs in
    let netted = c.legal_lists_can_be_netted.ensures ended.config c.events-events.result.now operators cdrs c.events-events.ensures.legal in
    netted.fits
