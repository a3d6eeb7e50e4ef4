use Rattle.std.proofs.Common.{◌+◌}
use Rattle.plain_house.specs.Exposure.{of_pair, of_provider}
use Rattle.provider_account.proofs.HoldSumCells.{both_set, pair_stays}
use Rattle.provider_account.proofs.hold_sums.add.Goals as goal

pub add-requires-clause-fits : goal.add-requires-clause-fits
add-requires-clause-fits c =
    let hold = c.args.hold.now in
    rw (c.key_of.ensures, c.get-amount.ensures.value) (c.requires.fits (of_provider hold.provider hold.currency))

pub add-requires-2-clause-fits : goal.add-requires-2-clause-fits
add-requires-2-clause-fits c =
    let hold = c.args.hold.now in
    let stays = pair_stays hold c.args.sums.now c.add.new.self _ (rw c.key_of.ensures at c.add.ensures.set) in
    rw (c.key_of-2.ensures, c.get-amount.ensures.value, stays) (c.requires.fits (of_pair hold.operator hold.provider hold.currency))

pub returns : goal.returns
returns c =
    let hold = c.args.hold.now in
    both_set (λ sum. sum + hold.amount) hold c.args.sums.now c.add.new.self c.add-2.new.self
    (rw (c.key_of.ensures, c.get-amount.ensures.value) at c.add.ensures.set)
    (rw (c.key_of-2.ensures, c.get-amount.ensures.value) at c.add-2.ensures.set)
