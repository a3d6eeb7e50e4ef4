-- The text that explains a cost: comma-separated values (RFC 4180, section 2).
use Rattle.std.specs.Prelude.{ℕ, ℤ, List, [], ◌∷◌, ◌++◌, codes, decimal, flat_map, map}
use Rattle.std.specs.Fmt.{sign_text}
use Rattle.csv.specs.Writing.{default_writer, row_text}
use Rattle.exact_money.specs.Amount.{amount_text}
use Rattle.ocpi_types.specs.declared.component.ComponentKind.{ComponentKind}
use Rattle.ocpi_types.specs.declared.component.ComponentKind.TheVariants.{Energy, Flat, ParkingTime, Time}
use Rattle.input_reports.specs.explain_cost.Numbers.{cost_text, millionths_text}
use Rattle.input_reports.specs.declared.explain_cost.change.Change.{Change}
use Rattle.input_reports.specs.declared.explain_cost.change.Reason.{Reason}
use Rattle.input_reports.specs.declared.explain_cost.change.Reason.TheVariants.{Minimum, Maximum, Rounding}
use Rattle.input_reports.specs.declared.explain_cost.row.Row.{Row}
use Rattle.input_reports.specs.declared.explain_cost.row.Source.{Source}
use Rattle.input_reports.specs.declared.explain_cost.row.Source.TheVariants.{Period, Step, Once}

-- the fields with commas between them, quoted where they have to be, and a newline
unfoldable pub record_text : List (List ℕ) → List ℕ
record_text fields = row_text default_writer fields

-- one record after another
abbrev pub table_text : List (List (List ℕ)) → List ℕ
table_text records = flat_map record_text records

unfoldable pub header : List (List ℕ)
header = codes "component" ∷ codes "period" ∷ codes "volume" ∷ codes "price" ∷ codes "cost" ∷ []

-- ---- rows

abbrev pub component_name : ComponentKind → List ℕ
component_name Energy = codes "ENERGY"
component_name Flat = codes "FLAT"
component_name ParkingTime = codes "PARKING_TIME"
component_name Time = codes "TIME"

-- the number of the period
abbrev pub source_text : Source → List ℕ
source_text (Period number) = decimal number
source_text Step = codes "step"
source_text Once = []

-- energy in kWh, time in seconds
abbrev pub volume_text : ComponentKind → ℕ → List ℕ
volume_text Energy volume = millionths_text volume
volume_text Flat volume = decimal volume
volume_text ParkingTime volume = decimal volume
volume_text Time volume = decimal volume

unfoldable pub row_fields : Row → List (List ℕ)
row_fields row =
    component_name row.kind ∷ source_text row.source ∷ volume_text row.kind row.volume ∷ millionths_text row.price ∷ cost_text row.cost ∷ []

-- ---- changes, and the amount

abbrev pub reason_name : Reason → List ℕ
reason_name Minimum = codes "MINIMUM"
reason_name Maximum = codes "MAXIMUM"
reason_name Rounding = codes "ROUNDING"

-- nothing but a name and a cost
abbrev pub cost_fields : List ℕ → List ℕ → List (List ℕ)
cost_fields name cost = name ∷ [] ∷ [] ∷ [] ∷ cost ∷ []

unfoldable pub change_fields : Change → List (List ℕ)
change_fields change = cost_fields (reason_name change.reason) (sign_text change.is_less ++ cost_text change.units)

-- with four decimals
unfoldable pub total_fields : ℤ → List (List ℕ)
total_fields amount = cost_fields (codes "TOTAL") (amount_text amount)

-- ---- the text

-- a header, the rows, the changes, and the amount
unfoldable pub explanation : List Row → List Change → ℤ → List ℕ
explanation rows changes amount = table_text (header ∷ (map row_fields rows ++ map change_fields changes ++ total_fields amount ∷ []))
