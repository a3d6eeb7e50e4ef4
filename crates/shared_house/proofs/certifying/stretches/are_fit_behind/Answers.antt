use Rattle.std.proofs.Common.{All, map, subst}
use Rattle.ocpi_types.specs.declared.config.Config.{Config}
use Rattle.shared_house.specs.Inner.Stretches.{IsStretchFit}
use Rattle.shared_house.specs.Inner.Tables.{HasRightTable}
use Rattle.shared_house.specs.Inner.Turns.{plain_turn}
use Rattle.shared_house.proofs.certifying.stretches.are_fit_behind.Goals as goal

pub returns-in_ok-are_fit : goal.returns-in_ok-are_fit
returns-in_ok-are_fit c = λ yes.
    let events = c.args.events.now in
    let turns = c.args.turns.now in
    subst (λ (own : Config). All (λ turn. HasRightTable own events turn.call.now) turns → IsStretchFit own events (map plain_turn turns) c.args.stretch) c.put_all.ensures.config
    (c.in_ok-are_fit.ensures yes)
