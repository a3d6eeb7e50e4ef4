-- What rows add up to.
use Rattle.std.specs.Prelude.{◌≡◌, ℕ, ◌+◌, Option}
use Rattle.jiff.specs.Types.{TimeZone as PlainZone}
use Rattle.ocpi_types.specs.declared.cdr.Cdr.{Cdr}
use Rattle.ocpi_types.specs.declared.tariff.Tariff.{Tariff}
use Rattle.cdr_rating.specs.Price.{sum_of}
use Rattle.input_reports.specs.explain_cost.Changes.{changes, less_by, more_by, units_of_amount}
use Rattle.input_reports.specs.explain_cost.Costs.{cost_rows, whole_cost}

-- the rows add up to what the session costs before minimum, maximum and rounding
abbrev pub RowsAddUp : Type 0
RowsAddUp = (cdr : Cdr) (zone : PlainZone) → whole_cost (cost_rows cdr zone) ≡ sum_of cdr zone

-- the sum and what the changes add, less what they take, is the amount
abbrev pub ChangesAddUp : Type 0
ChangesAddUp =
    (tariff : Option Tariff) (sum amount : ℕ) →
    sum + more_by (changes tariff sum amount) ≡ units_of_amount amount + less_by (changes tariff sum amount)
