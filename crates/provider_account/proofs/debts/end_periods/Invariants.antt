use Rattle.std.proofs.Common.{◌≡◌, take}
use Rattle.provider_account.specs.declared.debt_keys.DebtKey.{DebtKey}
use Rattle.provider_account.specs.Inner.Debts.{owed_once}
use Rattle.provider_account.specs.Inner.Owed.{amount_of}
use Rattle.provider_account.proofs.debts.end_periods.Given as goal

abbrev pub invariant-loop-operator : goal.invariant-loop-operator
invariant-loop-operator l =
    (key : DebtKey) → amount_of l.owed.amounts key ≡ owed_once (take l.operator-index l.operators) l.settlement key l.entries
