use Rattle.std.proofs.Common.{◌≡◌, ◌++◌, length, flat_map}
use Rattle.request_lines.specs.TableText.{row_object}
use Rattle.request_lines.proofs.tables.put_each_row.Given as goal

abbrev pub invariant-loop-row : goal.invariant-loop-row
invariant-loop-row l = record {
  tokens_are : l.out.tokens ++ flat_map (row_object l.config) l.rest ≡ l.initial.out.tokens ++ flat_map (row_object l.config) l.rows;
  before_is : l.out.before ≡ l.initial.out.before;
}

abbrev pub decreases-loop-row : goal.decreases-loop-row
decreases-loop-row l = length l.rest
