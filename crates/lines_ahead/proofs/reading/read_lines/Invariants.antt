use Rattle.std.proofs.Common.{All, length, ◌-◌}
use Rattle.lines_ahead.specs.ReadLines.{IsRead}
use Rattle.lines_ahead.proofs.reading.read_lines.Given as goal

abbrev pub invariant-loop-line : goal.invariant-loop-line
invariant-loop-line l = All (IsRead l.config l.bytes) l.lines.items

abbrev pub decreases-loop-line : goal.decreases-loop-line
decreases-loop-line l = length l.bytes - l.start
