use Rattle.period_order.proofs.JudgedLemmas.{judged_by_own}
use Rattle.period_order.proofs.laws.judged_by_own_entries.Goals as goal

pub returns : goal.returns
returns c =
    judged_by_own c.books_are_of_own_entries.ensures c.accounts_are_of_own_entries.ensures c.exposure_is_of_own_entries.ensures c.exposure_with_charge_is_of_own_entries.ensures
