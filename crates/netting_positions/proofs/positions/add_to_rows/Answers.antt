use Rattle.std.proofs.Common.{ℤ, set, length, sym, ap, ◌∙◌, arith}
use Rattle.std.proofs.lemmas.List.Edits.{map_over_more}
use Rattle.netting_positions.specs.declared.positions.NetPosition.{NetPosition}
use Rattle.netting_positions.specs.Inner.Rows.{net_with, with_net}
use Rattle.netting_positions.proofs.positions.add_to_rows.Goals as goal

pub loop-row-preserved : goal.loop-row-preserved
loop-row-preserved c =
    let rows = c.args.rows.now.items in
    let ys = c.loop-row.row-items in
    let i = c.loop-row.row-index in
    let row = c.row-item.result in
    let made : NetPosition → ℤ → NetPosition = λ row net. record { currency = row.currency; party = row.party; net = net } in
    ap (λ (x : NetPosition). set ys i (made x c.net_with-row.result)) (sym c.row-item.is)
    ∙ ap (λ (net : ℤ). set ys i (made row net)) (c.net_with-row.ensures ∙ ap (net_with c.args.obligation.now) (sym c.row-item.is))
    ∙ map_over_more (with_net c.args.obligation.now) rows ys i row (omega (arith, ap length c.deref_mut-row-items.ensures.value)) c.loop-row.invariant c.row-item.is
