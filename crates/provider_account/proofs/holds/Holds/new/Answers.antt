use Rattle.provider_account.proofs.HoldsKnown.{nothing_known}
use Rattle.provider_account.proofs.holds.Holds.new.Goals as goal

pub returns : goal.returns
returns c = nothing_known (record { «open» = c.new.result; sums = c.new-2.result }) c.new.ensures.empty c.new-2.ensures
