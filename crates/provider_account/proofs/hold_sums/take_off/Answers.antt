use Rattle.std.proofs.Common.{◌-◌}
use Rattle.plain_house.specs.Exposure.{of_pair, of_provider}
use Rattle.provider_account.proofs.HoldSumCells.{both_set, pair_stays, within_all, within_pair}
use Rattle.provider_account.proofs.hold_sums.take_off.Goals as goal

pub take-requires : goal.take-requires
take-requires c =
    let hold = c.args.hold.now in
    rw (c.key_of.ensures, c.get-amount.ensures.value) (c.requires (of_provider hold.provider hold.currency) (within_all hold))

pub take-requires-2 : goal.take-requires-2
take-requires-2 c =
    let hold = c.args.hold.now in
    let stays = pair_stays hold c.args.sums.now c.take.new.self _ (rw c.key_of.ensures at c.take.ensures.set) in
    rw (c.key_of-2.ensures, c.get-amount.ensures.value, stays) (c.requires (of_pair hold.operator hold.provider hold.currency) (within_pair hold))

pub returns : goal.returns
returns c =
    let hold = c.args.hold.now in
    both_set (λ sum. sum - hold.amount) hold c.args.sums.now c.take.new.self c.take-2.new.self
    (rw (c.key_of.ensures, c.get-amount.ensures.value) at c.take.ensures.set)
    (rw (c.key_of-2.ensures, c.get-amount.ensures.value) at c.take-2.ensures.set)
