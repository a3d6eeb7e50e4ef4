use Rattle.std.proofs.Common.{◌≡◌, ◌++◌, drop, map}
use Rattle.shared_house.specs.Inner.Turns.{plain_turn, turns_from}
use Rattle.shared_house.proofs.certifying.turns.add_turns.Given as goal

abbrev pub invariant-loop-call : goal.invariant-loop-call
invariant-loop-call l =
    map plain_turn l.turns.items ++ turns_from l.front (drop l.call-index l.calls)
    ≡ map plain_turn l.initial.turns.items ++ turns_from 0 l.calls
