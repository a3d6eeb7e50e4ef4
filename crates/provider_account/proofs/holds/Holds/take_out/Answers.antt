use Rattle.std.proofs.Common.{sym, ◌∙◌}
use Rattle.indexmap.specs.IndexMap.{get}
use Rattle.provider_account.specs.Inner.Holds.{same_hold}
use Rattle.provider_account.proofs.OpenHolds.{put_back}
use Rattle.provider_account.proofs.holds.Holds.take_out.Goals as goal

pub returns-in-Some-clause-left : goal.returns-in-Some-clause-left
returns-in-Some-clause-left c =
    put_back c.args.self.now (get same_hold c.swap_remove.new.self) (get same_hold c.insert.new.self) c.args.key.now c.in_ok-hold.hold
    (sym c.swap_remove.ensures.value ∙ c.in_ok-hold.was) c.swap_remove.ensures.updates.0 (rw c.unwrap.ensures at c.insert.ensures.updates).0
