use Rattle.std.proofs.Common.{◌+◌, ◌<◌, ◌^◌, arith, count_by}
use Rattle.std.proofs.lemmas.List.Sums.{count_by-le-length}
use Rattle.plain_house.specs.House.{is_hold_of}
use Rattle.provider_account.proofs.HoldBegun.{begun_known}
use Rattle.provider_account.proofs.holds.Holds.put_hold.Goals as goal

pub returns : goal.returns
returns c entries knows short next =
    let hold = c.args.hold.now in
    let small : count_by (is_hold_of hold.provider) entries + 1 < 2 ^ 64 = omega (arith, short, count_by-le-length (is_hold_of hold.provider) entries) in
    begun_known entries hold knows.numbered next small c.args.self.now c.begin.new.self knows.found knows.sums c.begin.ensures.opened c.begin.ensures.sums
