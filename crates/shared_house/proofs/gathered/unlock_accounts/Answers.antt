use Rattle.std.proofs.Common.{List, arith, sym, subst}
use Rattle.std.specs.Prelude.{All}
use Rattle.std.proofs.lemmas.Grind.{common_steps}
use Rattle.std.proofs.lemmas.List.Elements.{All-push}
use Rattle.provider_account.specs.declared.account.Account.{Account}
use Rattle.plain_house.specs.LegalEntries.{IsLegalAccount}
use Rattle.shared_house.proofs.gathered.unlock_accounts.Goals as goal

pub loop-lock-preserved : goal.loop-lock-preserved
loop-lock-preserved g c = record {
  entry_parts = grind (arith, common_steps);
  amount_parts = grind (arith, common_steps);
  entries = grind (arith, common_steps);
  amounts = grind (arith, common_steps);
  len = grind (arith, common_steps);
  legal = subst (λ (l : List Account). All (λ (account : Account). IsLegalAccount g.N.BookEntries.Configured.config account.entries) l) (sym c.in_ok-push.ensures.items)
      (All-push (λ (account : Account). IsLegalAccount g.N.BookEntries.Configured.config account.entries) c.loop-lock.accounts.items c.account.inside.account c.loop-lock.invariant.legal c.account.invariant.legal);
}
