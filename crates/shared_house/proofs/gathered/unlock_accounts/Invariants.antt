use Rattle.std.proofs.Common.{◌≡◌, vec_len, length, sum_by}
use Rattle.std.specs.Prelude.{All}
use Rattle.plain_house.specs.LegalEntries.{IsLegalAccount}
use Rattle.shared_house.specs.Counts.{total_of_account}
use Rattle.shared_house.proofs.gathered.unlock_accounts.Given as goal

abbrev pub invariant-loop-lock : goal.invariant-loop-lock
invariant-loop-lock g l = record {
  entry_parts : l.entries.parts ≡ length l.yielded;
  amount_parts : l.amounts.parts ≡ length l.yielded;
  entries : l.entries.amount ≡ sum_by (λ account. length account.entries) l.accounts.items;
  amounts : l.amounts.amount ≡ sum_by (λ account. total_of_account account.entries) l.accounts.items;
  len : vec_len l.accounts ≡ length l.yielded;
  legal : All (λ account. IsLegalAccount g.N.BookEntries.Configured.config account.entries) l.accounts.items;
}
