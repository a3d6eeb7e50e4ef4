use Rattle.std.proofs.Common.{List, subst}
use Rattle.plain_house.specs.declared.entry.AccountEntry.{AccountEntry}
use Rattle.plain_house.specs.LegalEntries.{IsLegalAccount}
use Rattle.shared_house.proofs.laws.locked_accounts_keep_limits.Goals as goal

pub returns : goal.returns
returns g c =
    let config = g.N.BookEntries.Configured.config in
    λ before later is. c.legal_accounts_keep_limits.ensures config before later (subst (λ (l : List AccountEntry). IsLegalAccount config l) is c.entries-entries.ensures.legal)
