-- What is summed up.
use Rattle.std.specs.Prelude.{◌≡◌, ℕ, ℤ, ◌*◌, ◌≤◌, ◌^◌, ◌==◌, List, length, Bool, ◌&&◌, Option, None, Some, if◌then◌else◌}
use Rattle.indexmap.specs.IndexMap.{get}
use Rattle.ocpi_types.specs.Currency.{same_currency}
use Rattle.ocpi_types.specs.Party.{same_party}
use Rattle.netting_positions.specs.Netting.{total_size}
use Rattle.netting_positions.specs.SameSums.{is_any_between, owed_between}
use Rattle.netting_positions.specs.declared.obligation.Obligation.{Obligation}
use Rattle.plain_house.specs.Obligations.{obligations}
use Rattle.plain_house.specs.declared.entry.BookEntry.{BookEntry}
use Rattle.operator_book.specs.declared.keys.SumKey.{SumKey}
use Rattle.operator_book.specs.declared.sums.OwedSums.{OwedSums}

abbrev pub same_sum_key : SumKey → SumKey → Bool
same_sum_key a b =
    same_party a.operator b.operator
    && (same_party a.provider b.provider && (same_currency a.currency b.currency && (a.period == b.period)))

-- what obligations of these parties in the currency add up to, where there are any
abbrev pub sum_among : SumKey → List Obligation → Option ℤ
sum_among key obligations =
    if is_any_between key.operator key.provider key.currency obligations
    then Some (owed_between key.operator key.provider key.currency obligations) else None

-- each key has the sum of its obligations, if there are any; an entry adds at most 10^12 to those of a period
pub record SumsUp (sums : OwedSums) (entries : List BookEntry) : Type 0 where
  pub sums_are : (key : SumKey) → get same_sum_key sums.rows key ≡ sum_among key (obligations key.period entries)
  pub small : (period : ℕ) → total_size (obligations period entries) ≤ 10 ^ 12 * length entries
