use Rattle.std.proofs.Common.{◌≡◌, ◌+◌, ◌<◌, ◌^◌, true, List, sym, subst}
use Rattle.netting_positions.specs.declared.obligation.Obligation.{Obligation}
use Rattle.netting_positions.specs.Inner.Rows.{IsNetted}
use Rattle.netting_positions.specs.Netting.{is_configured, size, total_size}
use Rattle.netting_positions.specs.State.{PlainPositions}
use Rattle.netting_positions.proofs.NetLemmas.{have_room_in, netted-push}
use Rattle.netting_positions.proofs.positions.PositionsObligationTable.add.Goals as goal

pub add_to_rows-requires : goal.add_to_rows-requires
add_to_rows-requires c =
    let inside = c.self.inside in
    have_room_in inside.rows.items inside.parties.items inside.currencies.items inside.history.obligations c.args.obligation.now c.self.invariant
    (subst (λ (v : PlainPositions). total_size v.obligations + size c.args.obligation.now < 2 ^ 63) (sym c.self.view_is) c.requires.fits)

pub invariant_of-self : goal.invariant_of-self
invariant_of-self c =
    let inside = c.self.inside in
    let o = c.args.obligation.now in
    subst (λ (os : List Obligation). IsNetted c.add_to_rows.new.rows.items inside.parties.items inside.currencies.items os) (sym c.and-self-inside.ensures)
    (netted-push inside.rows.items c.add_to_rows.new.rows.items inside.parties.items inside.currencies.items inside.history.obligations o c.self.invariant c.add_to_rows.ensures
    (subst (λ (v : PlainPositions). is_configured v.parties v.currencies o ≡ true) (sym c.self.view_is) c.requires.configured)
    (subst (λ (v : PlainPositions). total_size v.obligations + size o < 2 ^ 63) (sym c.self.view_is) c.requires.fits))
