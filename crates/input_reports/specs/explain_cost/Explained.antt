-- How a CDR that is given as JSON is explained.
use Rattle.std.specs.Prelude.{◌≡◌, ℕ, ℤ, List, false, Result, Ok, Err, if◌then◌else◌, unsigned_abs}
use Rattle.jiff.specs.Types.{TimeZone as PlainZone}
use Rattle.ocpi_types.specs.declared.cdr.Cdr.{Cdr}
use Rattle.ocpi_types.specs.declared.refusal.Refusal.{Refusal}
use Rattle.ocpi_types.specs.Cdr.{is_credit}
use Rattle.cdr_rating.specs.Price.{bounded, first_tariff, sum_of}
use Rattle.input_reports.specs.CdrText.{◌>>=◌, cdr_of}
use Rattle.input_reports.specs.Ratable.{rated_price}
use Rattle.input_reports.specs.explain_cost.Changes.{changes, raised_by}
use Rattle.input_reports.specs.explain_cost.CostText.{explanation}
use Rattle.input_reports.specs.explain_cost.Costs.{cost_rows}
use Rattle.input_reports.specs.declared.explain_cost.explained.Explained.{Explained}
use Rattle.input_reports.specs.declared.rating_fault.RatingFault.{RatingFault}
use Rattle.input_reports.specs.declared.rating_fault.RatingFault.TheVariants.{Refused, CreditCdr}

-- ---- a CDR

-- the rows, what they add up to, what the minimum and the maximum make of it, and the amount
pub record IsExplained (cdr : Cdr) (zone : PlainZone) (explained : Explained) : Type 0 where
  pub not_credit : is_credit cdr ≡ false
  pub rows : explained.rows.items ≡ cost_rows cdr zone
  pub sum : explained.sum ≡ sum_of cdr zone
  pub raised : explained.raised ≡ raised_by (first_tariff cdr cdr.charging_periods) (sum_of cdr zone)
  pub bounded : explained.bounded ≡ bounded (first_tariff cdr cdr.charging_periods) (sum_of cdr zone)
  pub amount : rated_price cdr zone ≡ Ok explained.amount

-- the text, or why there is none
abbrev pub explained_at : Cdr → PlainZone → Result ℤ Refusal → Result (List ℕ) RatingFault
explained_at cdr zone (Ok amount) =
    Ok (explanation (cost_rows cdr zone) (changes (first_tariff cdr cdr.charging_periods) (sum_of cdr zone) (unsigned_abs amount)) amount)
explained_at cdr zone (Err refusal) = Err (Refused refusal)

-- a Credit CDR is not rated
unfoldable pub explained_cdr : PlainZone → Cdr → Result (List ℕ) RatingFault
explained_cdr zone cdr = if is_credit cdr then Err CreditCdr else explained_at cdr zone (rated_price cdr zone)

-- ---- a text

unfoldable pub explained_text : List ℕ → PlainZone → Result (List ℕ) RatingFault
explained_text text zone = do
  cdr ← cdr_of text
  explained_cdr zone cdr
