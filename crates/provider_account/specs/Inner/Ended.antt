-- What is known of ended debts.
use Rattle.std.specs.Prelude.{◌≡◌, Bool, ◌||◌, List}
use Rattle.std.specs.List.{list_any}
use Rattle.indexmap.specs.IndexSet.{contains}
use Rattle.plain_house.specs.declared.entry.AccountEntry.{AccountEntry}
use Rattle.plain_house.specs.declared.entry.Charge.{Charge}
use Rattle.provider_account.specs.declared.debt_keys.CdrKey.{CdrKey}
use Rattle.provider_account.specs.declared.debt_keys.PeriodKey.{PeriodKey}
use Rattle.provider_account.specs.declared.ended.Ended.{Ended}
use Rattle.provider_account.specs.Inner.DebtKeys.{cdr_of, credits, period_of, same_cdr, same_period, settles}

-- the charge is credited or settled
abbrev pub has_ended : Ended → Charge → Bool
has_ended ended charge = contains same_cdr ended.credited (cdr_of charge) || contains same_period ended.settled (period_of charge)

-- the sets are those of the entries
pub record KnowsEnded (ended : Ended) (entries : List AccountEntry) : Type 0 where
  pub credited : (key : CdrKey) → contains same_cdr ended.credited key ≡ list_any (credits key) entries
  pub settled : (key : PeriodKey) → contains same_period ended.settled key ≡ list_any (settles key) entries
