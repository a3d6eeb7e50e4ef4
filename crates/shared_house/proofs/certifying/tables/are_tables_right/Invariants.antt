use Rattle.std.proofs.Common.{All, take}
use Rattle.shared_house.specs.Inner.Tables.{HasRightTable}
use Rattle.shared_house.proofs.certifying.tables.are_tables_right.Given as goal

abbrev pub invariant-loop-turn : goal.invariant-loop-turn
invariant-loop-turn l = All (λ turn. HasRightTable l.config l.events turn.call.now) (take l.turn-index l.turns)
