use Rattle.provider_account.proofs.HoldsKnown.{same_known}
use Rattle.provider_account.proofs.holds.Holds.reserve.Goals as goal

pub returns-clause-kept : goal.returns-clause-kept
returns-clause-kept c entries knows =
    same_known c.args.self.now (record { «open» = c.reserve.new.self; sums = c.reserve-2.new.self }) entries c.reserve.ensures.entries c.reserve-2.ensures.kept knows
