use Rattle.std.proofs.Common.{ap, sym, ◌∙◌, find}
use Rattle.std.specs.Option.{option_copied}
use Rattle.netting_positions.specs.Netting.{net_position}
use Rattle.netting_positions.specs.State.{PlainPositions}
use Rattle.netting_positions.proofs.NetFound.{found_net, is_row, missing_net}
use Rattle.netting_positions.proofs.positions.Positions.net.Goals as goal

pub returns-in-Some : goal.returns-in-Some
returns-in-Some c =
    let inside = c.self.inside in
    let party = c.args.party.now in
    let currency = c.args.currency.now in
    found_net inside.rows.items c.in-Some.row.now inside.parties.items inside.currencies.items inside.history.obligations party currency c.self.invariant
    (ap (find (is_row party currency)) (sym c.as_slice.ensures.value) ∙ sym c.position_of.ensures ∙ ap option_copied c.in-Some.is)
    ∙ ap (λ (v : PlainPositions). net_position party currency v.obligations) c.self.view_is

pub returns-in-None : goal.returns-in-None
returns-in-None c =
    let inside = c.self.inside in
    let party = c.args.party.now in
    let currency = c.args.currency.now in
    c.from_ten_thousandths.ensures
    ∙ sym (missing_net inside.rows.items inside.parties.items inside.currencies.items inside.history.obligations party currency c.self.invariant
    (ap (find (is_row party currency)) (sym c.as_slice.ensures.value) ∙ sym c.position_of.ensures ∙ ap option_copied c.in-None.is))
    ∙ ap (λ (v : PlainPositions). net_position party currency v.obligations) c.self.view_is
