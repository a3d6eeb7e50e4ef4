use Rattle.std.proofs.Common.{◌≡◌, ◌++◌, drop, map}
use Rattle.shared_house.specs.Inner.Turns.{plain_turn, turns_of}
use Rattle.shared_house.proofs.certifying.turns.turns.Given as goal

abbrev pub invariant-loop-calls : goal.invariant-loop-calls
invariant-loop-calls l =
    map plain_turn l.turns.items ++ turns_of (map (λ calls. calls.items) (drop l.calls-index l.passes))
    ≡ turns_of (map (λ calls. calls.items) l.passes)
