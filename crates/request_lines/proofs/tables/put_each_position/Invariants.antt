use Rattle.std.proofs.Common.{◌≡◌, ◌++◌, length, flat_map}
use Rattle.request_lines.specs.TableText.{position_object}
use Rattle.request_lines.proofs.tables.put_each_position.Given as goal

abbrev pub invariant-loop-position : goal.invariant-loop-position
invariant-loop-position l = record {
  tokens_are : l.out.tokens ++ flat_map (position_object l.config) l.rest ≡ l.initial.out.tokens ++ flat_map (position_object l.config) l.positions;
  before_is : l.out.before ≡ l.initial.out.before;
}

abbrev pub decreases-loop-position : goal.decreases-loop-position
decreases-loop-position l = length l.rest
