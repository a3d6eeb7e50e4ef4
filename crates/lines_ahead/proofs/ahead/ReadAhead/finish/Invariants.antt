use Rattle.std.proofs.Common.{◌≡◌, length}
use Rattle.lines_ahead.proofs.ahead.ReadAhead.finish.Given as goal

abbrev pub invariant-loop : goal.invariant-loop
invariant-loop g l = l.self.config ≡ l.fn.self.config

abbrev pub decreases-loop : goal.decreases-loop
decreases-loop g l = length l.self.begun.items
