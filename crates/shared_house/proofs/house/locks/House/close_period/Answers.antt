use Rattle.std.proofs.Common.{arith}
use Rattle.shared_house.proofs.house.locks.House.close_period.Goals as goal

pub returns-clause-share : goal.returns-clause-share
returns-clause-share g c = let right = c.end_close.ensures c.args.mine.now.amount c.in-Ok-in_order.ensures.at in omega (arith, right.counted, c.in-Ok-in_order.ensures.mine)

pub returns-clause-returns : goal.returns-clause-returns
returns-clause-returns g c = (c.end_close.ensures c.args.mine.now.amount c.in-Ok-in_order.ensures.at).returns
