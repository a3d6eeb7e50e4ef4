use Rattle.std.proofs.Common.{◌≡◌, ◌≤◌}
use Rattle.lines_ahead.proofs.ahead.ReadAhead.start.Given as goal

abbrev pub invariant-loop : goal.invariant-loop
invariant-loop g l = (l.self.config ≡ l.fn.self.config) × (l.self.left ≡ l.fn.self.left) × (l.fn.self.next ≤ l.self.next)
