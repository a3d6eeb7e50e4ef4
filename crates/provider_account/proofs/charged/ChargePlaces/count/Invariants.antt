use Rattle.std.proofs.Common.{length, ◌≤◌, ◌-◌}
use Rattle.provider_account.specs.Inner.DebtKeys.{charges_of}
use Rattle.provider_account.proofs.charged.ChargePlaces.count.Given as goal

abbrev pub invariant-loop-nth : goal.invariant-loop-nth
invariant-loop-nth l = l.nth ≤ length (charges_of l.cdr l.entries)

abbrev pub decreases-loop-nth : goal.decreases-loop-nth
decreases-loop-nth l = length (charges_of l.cdr l.entries) - l.nth
