use Rattle.std.proofs.Common.{◌≡◌, ◌+◌, ◌<◌, ◌^◌, true, List, map, sym, subst, ◌∙◌}
use Rattle.std.specs.List.Sorted.{IsStrictlySortedBy}
use Rattle.netting_positions.specs.declared.row.StatementRow.{StatementRow}
use Rattle.netting_positions.specs.Inner.StatedRows.{row_key}
use Rattle.netting_positions.specs.Netting.{is_configured, size, total_size}
use Rattle.netting_positions.specs.State.{PlainStatement}
use Rattle.netting_positions.specs.StatementKeys.{key_order}
use Rattle.netting_positions.proofs.StatedLemmas.{has_place, rows_sorted, stated_of_key, stated_of_others, stated_rooms}
use Rattle.netting_positions.proofs.statement.StatementTableObligationTable.add.Goals as goal
use Rattle.netting_positions.proofs.statement.StatementTableObligationTable.add.Goals.{in-Some, in_default}

pub add_to_row-requires-clause-sorted : goal.add_to_row-requires-clause-sorted
add_to_row-requires-clause-sorted c =
    subst (λ (rows : List StatementRow). IsStrictlySortedBy key_order (map row_key rows)) (sym c.self.invariant.rows_are)
    (rows_sorted c.self.inside.party c.self.inside.history.obligations)

pub add_to_row-requires-clause-room : goal.add_to_row-requires-clause-room
add_to_row-requires-clause-room c =
    stated_rooms c.self.inside.rows.items c.self.inside.party c.args.obligation.now c.self.inside.history.obligations c.self.invariant.rows_are
    (subst (λ (v : PlainStatement). total_size v.obligations + size c.args.obligation.now < 2 ^ 63) (sym c.self.view_is) c.requires.fits)

pub add_to_row-requires-clause-place : goal.add_to_row-requires-clause-place
add_to_row-requires-clause-place c =
    has_place _ _ _ _ _ c.args.obligation.now c.in-Some.key _ c.statements_are_short.ensures c.self.invariant (sym c.key_of.ensures ∙ c.in-Some.is)
    (subst (λ (v : PlainStatement). is_configured v.parties v.currencies c.args.obligation.now ≡ true) (sym c.self.view_is) c.requires.configured)

pub invariant_of-self : goal.invariant_of-self
invariant_of-self c =
    let inside = c.self.inside in
    let o = c.args.obligation.now in
    let fits : total_size inside.history.obligations + size o < 2 ^ 63 =
    subst (λ (v : PlainStatement). total_size v.obligations + size o < 2 ^ 63) (sym c.self.view_is) c.requires.fits in
    let configured : is_configured inside.parties.items inside.currencies.items o ≡ true =
    subst (λ (v : PlainStatement). is_configured v.parties v.currencies o ≡ true) (sym c.self.view_is) c.requires.configured in
    elim c.match-key_of.branch [
      | in-Some w ↦ rw (c.and-self-inside.ensures, w.self-inside-is)
          (stated_of_key inside.rows.items _ _ _ inside.party inside.parties.items inside.currencies.items o w.in-Some.key inside.history.obligations c.self.invariant
          (sym c.key_of.ensures ∙ w.in-Some.is) w.add_to_row.ensures.rows w.add_to_row.ensures.capacity configured fits)
      | in_default w ↦ rw (c.and-self-inside.ensures, w.self-inside-is)
          (stated_of_others inside.rows.items _ inside.party inside.parties.items inside.currencies.items o inside.history.obligations c.self.invariant
          (sym c.key_of.ensures ∙ w.in_default.is) configured fits)
    ]
