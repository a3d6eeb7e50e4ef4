use Rattle.std.proofs.Common.{◌≡◌, [], ◌++◌, map, take}
use Rattle.netting_positions.specs.Netting.{position}
use Rattle.netting_positions.proofs.positions.add_zeros.Given as goal

abbrev pub invariant-loop-party : goal.invariant-loop-party
invariant-loop-party l = l.rows.items ≡ l.fn.rows.items ++ map (position [] l.currency) (take l.party-index l.parties)
