-- What the minimum and the maximum of the session's tariff and the rounding make of the sum.
use Rattle.std.specs.Prelude.{ℕ, ◌-◌, ◌*◌, nat_lt, List, [], ◌∷◌, ◌++◌, true, false, sum_by, Option, Some, None, if◌then◌else◌}
use Rattle.ocpi_types.specs.declared.tariff.Tariff.{Tariff}
use Rattle.cdr_rating.specs.Price.{bounded, raised}
use Rattle.input_reports.specs.declared.explain_cost.change.Change.{Change}
use Rattle.input_reports.specs.declared.explain_cost.change.Reason.{Reason}
use Rattle.input_reports.specs.declared.explain_cost.change.Reason.TheVariants.{Minimum, Maximum, Rounding}

-- from one number of units to another; none where they are the same
abbrev pub change_between : Reason → ℕ → ℕ → List Change
change_between reason before after =
    if nat_lt before after then record { reason = reason; is_less = false; units = after - before } ∷ []
    else (if nat_lt after before then record { reason = reason; is_less = true; units = before - after } ∷ [] else [])

-- an amount in ten-thousandths, of which one is 9 * 10^8 units
abbrev pub units_of_amount : ℕ → ℕ
units_of_amount amount = 900_000_000 * amount

-- from the sum to what the minimum makes of it, from that to what the maximum makes of it, and from that to the amount
abbrev pub changes_over : ℕ → ℕ → ℕ → ℕ → List Change
changes_over sum raised bounded amount =
    change_between Minimum sum raised ++ change_between Maximum raised bounded ++ change_between Rounding bounded (units_of_amount amount)

-- raised to the tariff's minimum, and not yet lowered to its maximum
abbrev pub raised_by : Option Tariff → ℕ → ℕ
raised_by None units = units
raised_by (Some tariff) units = raised tariff.min_price units

abbrev pub changes : Option Tariff → ℕ → ℕ → List Change
changes tariff sum amount = changes_over sum (raised_by tariff sum) (bounded tariff sum) amount

-- what changes add, and what they take
abbrev pub more_by : List Change → ℕ
more_by changes = sum_by (λ change. if change.is_less then 0 else change.units) changes

abbrev pub less_by : List Change → ℕ
less_by changes = sum_by (λ change. if change.is_less then change.units else 0) changes
