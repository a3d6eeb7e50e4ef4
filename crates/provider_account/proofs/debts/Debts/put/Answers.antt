use Rattle.std.proofs.Common.{ap}
use Rattle.plain_house.specs.Exposure.{charge_in}
use Rattle.provider_account.specs.Inner.DebtKeys.{credits, settles}
use Rattle.provider_account.proofs.DebtsLemmas.{debts_kept}
use Rattle.provider_account.proofs.debts.Debts.put.Goals as goal

pub returns-in-Token : goal.returns-in-Token
returns-in-Token c =
    debts_kept c.args.self.now c.args.entries.now c.args.entry.now (ap charge_in c.in-Token.is) (λ key. ap (credits key) c.in-Token.is)
    (λ key. ap (settles key) c.in-Token.is) c.requires.knows

pub returns-in-Hold : goal.returns-in-Hold
returns-in-Hold c =
    debts_kept c.args.self.now c.args.entries.now c.args.entry.now (ap charge_in c.in-Hold.is) (λ key. ap (credits key) c.in-Hold.is)
    (λ key. ap (settles key) c.in-Hold.is) c.requires.knows

pub returns-in-Release : goal.returns-in-Release
returns-in-Release c =
    debts_kept c.args.self.now c.args.entries.now c.args.entry.now (ap charge_in c.in-Release.is) (λ key. ap (credits key) c.in-Release.is)
    (λ key. ap (settles key) c.in-Release.is) c.requires.knows
