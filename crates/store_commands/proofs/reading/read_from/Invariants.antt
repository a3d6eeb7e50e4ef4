use Rattle.std.proofs.Common.{◌≡◌, ◌-◌, ◌≤◌, ℕ, length}
use Rattle.store_commands.proofs.reading.read_from.Given as goal

-- so many bytes are read
abbrev pub invariant-loop-filled : goal.invariant-loop-filled
invariant-loop-filled l = l.filled ≤ l.count

abbrev pub decreases-loop-filled : goal.decreases-loop-filled
decreases-loop-filled l = l.count - l.filled
