use Rattle.std.proofs.Common.{◌≤◌, arith, length, map}
use Rattle.shared_house.specs.Inner.Turns.{plain_turn}
use Rattle.shared_house.proofs.ReplayLemmas.{all_done}
use Rattle.shared_house.proofs.certifying.replay.first_break.Goals as goal

pub returns-then-branch-clause-history : goal.returns-then-branch-clause-history
returns-then-branch-clause-history g c = λ passes are.
    let events = c.args.events.now in
    let all : length events ≤ length events = omega arith in
    all_done c.args.config.now events passes (map plain_turn c.args.turns.now) are (length events) (c.in_ok-is_found_in_stretches.ensures c.if-branch.true) all
