use Rattle.std.proofs.Common.{◌≡◌, ◌-◌, length}
use Rattle.lines_ahead.proofs.ahead.ReadAhead.help.Given as goal

abbrev pub invariant-loop-self : goal.invariant-loop-self
invariant-loop-self g l = l.self.config ≡ l.fn.self.config

abbrev pub decreases-loop-self : goal.decreases-loop-self
decreases-loop-self g l = length l.self.left.bytes.value.items - l.self.next
