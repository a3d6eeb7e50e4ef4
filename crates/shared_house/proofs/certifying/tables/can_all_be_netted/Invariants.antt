use Rattle.std.proofs.Common.{All, take}
use Rattle.shared_house.specs.Inner.Tables.{CanBeNetted}
use Rattle.shared_house.proofs.certifying.tables.can_all_be_netted.Given as goal

abbrev pub invariant-loop-list : goal.invariant-loop-list
invariant-loop-list l = All (λ list. CanBeNetted l.config list.items) (take l.list-index l.owed)
