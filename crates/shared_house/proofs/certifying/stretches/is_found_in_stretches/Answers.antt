use Rattle.std.proofs.Common.{All, ◌≡◌, IfOk, true, map, sym, subst}
use Rattle.shared_house.specs.Inner.Stretches.{AreFitByTables, IsFitByTables, IsStretchFit}
use Rattle.shared_house.specs.Inner.Tables.{HasRightTable}
use Rattle.shared_house.specs.Inner.Turns.{plain_turn}
use Rattle.shared_house.proofs.StretchLemmas.{all_more}
use Rattle.shared_house.proofs.certifying.stretches.is_found_in_stretches.Goals as goal

pub are_joined-requires : goal.are_joined-requires
are_joined-requires g c =
    let config = c.args.config.now in
    let events = c.args.events.now in
    let turns = c.args.turns.now in
    let right : IfOk c.join-are_right.result.0 (λ are. are ≡ true → All (λ turn. HasRightTable config events turn.call.now) turns) = c.join-are_right.ensures.first in
    let found : IfOk c.join-are_right.result.1 (λ found. AreFitByTables config events turns found.items) = c.join-are_right.ensures.second in
    let fit : AreFitByTables config events turns c.as_slice.result.now = subst (AreFitByTables config events turns) (sym c.as_slice.ensures.value) (rw c.in_ok-found.was at found) in
    all_more (IsFitByTables config events turns) (IsStretchFit config events (map plain_turn turns)) (λ stretch by_tables. by_tables ((rw c.in_ok-are_right.was at right) c.if-not-branch.false)) c.as_slice.result.now fit
