use Rattle.std.proofs.Common.{map, take}
use Rattle.shared_house.specs.Inner.Turns.{AreFit, plain_turn}
use Rattle.shared_house.proofs.certifying.stretches.are_joined.Given as goal

abbrev pub invariant-loop-found : goal.invariant-loop-found
invariant-loop-found l = AreFit l.config l.events (take l.start (map plain_turn l.turns)) l.from
