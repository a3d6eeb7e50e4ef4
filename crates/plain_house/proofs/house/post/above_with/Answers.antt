use Rattle.std.proofs.Common.{arith}
use Rattle.plain_house.specs.declared.entry.AccountEntry.TheVariants as account
use Rattle.plain_house.specs.Entries.{account_entries}
use Rattle.plain_house.proofs.ExposureLater.{exposure_later, weight_charge-le}
use Rattle.plain_house.proofs.house.post.above_with.Goals as goal

pub exposure_of-requires : goal.exposure_of-requires
exposure_of-requires c =
    omega (arith, exposure_later c.args.scope.now (account_entries c.args.events.now) (account.Charge c.args.charge.now), weight_charge-le c.args.scope.now c.args.charge.now, c.requires.limit, c.requires.cost, c.requires.exposure)

pub above-requires-clause-exposure : goal.above-requires-clause-exposure
above-requires-clause-exposure c =
    omega (arith, c.exposure_of.ensures, exposure_later c.args.scope.now (account_entries c.args.events.now) (account.Charge c.args.charge.now), weight_charge-le c.args.scope.now c.args.charge.now, c.requires.limit, c.requires.cost, c.requires.exposure)
