use Rattle.std.proofs.Common.{◌≡◌, ◌+◌, ◌-◌, ◌≤◌, filter, length, take}
use Rattle.plain_house.specs.Exposure.{total_charged}
use Rattle.provider_account.specs.declared.debt_keys.DebtKey.{DebtKey}
use Rattle.provider_account.specs.Inner.DebtKeys.{charges_of, is_owed_at, owed_at}
use Rattle.provider_account.specs.Inner.Owed.{amount_of}
use Rattle.provider_account.proofs.debts.take_cdr.Given as goal

abbrev pub invariant-loop-nth : goal.invariant-loop-nth
invariant-loop-nth l = record {
  within : l.nth ≤ length (charges_of l.cdr l.entries);
  taken : (key : DebtKey) → amount_of l.owed.amounts key + total_charged (filter (is_owed_at key l.entries) (take l.nth (charges_of l.cdr l.entries))) ≡ owed_at key l.entries;
}

abbrev pub decreases-loop-nth : goal.decreases-loop-nth
decreases-loop-nth l = length (charges_of l.cdr l.entries) - l.nth
