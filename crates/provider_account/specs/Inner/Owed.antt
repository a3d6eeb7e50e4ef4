-- The sums of what is owed, by their keys.
use Rattle.std.specs.Prelude.{ℕ, Option, if◌then◌else◌}
use Rattle.provider_account.specs.declared.debt_keys.DebtKey.{DebtKey}
use Rattle.provider_account.specs.declared.debt_keys.PeriodKey.{PeriodKey}
use Rattle.ocpi_types.specs.declared.party.Party.{Party}
use Rattle.provider_account.specs.declared.sums.SumsByKey.{SumsByKey}
use Rattle.provider_account.specs.Inner.DebtKeys.{same_key}
use Rattle.provider_account.specs.Inner.Sums.{sum_at}

-- what stands at a key, 0 where nothing does
abbrev pub amount_of : SumsByKey DebtKey → DebtKey → ℕ
amount_of amounts key = sum_at same_key amounts key

-- what a change at a key is at another
abbrev pub part_of : DebtKey → DebtKey → ℕ → ℕ
part_of key other amount = if same_key key other then amount else 0

-- the debts of a period with an operator, or with all
abbrev pub in_period : PeriodKey → Option ℕ → Option Party → DebtKey
in_period key period operator =
    record { period = period; operator = operator; provider = key.provider; currency = key.currency }
