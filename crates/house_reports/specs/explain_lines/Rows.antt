-- The rows of the lines that a house answers in turn.
use Rattle.std.specs.Prelude.{◌≡◌, ℕ, ◌+◌, Bool, false, ◌||◌, List, [], ◌∷◌, ◌++◌, Option, Some, None, is_some}
use Rattle.ocpi_types.specs.declared.config.Config.{Config}
use Rattle.plain_house.specs.declared.event.Event.{Event}
use Rattle.request_lines.specs.Script.{after, reply_in}
use Rattle.line_causes.specs.LineCauses.{IsCauseOfLine}
use Rattle.line_causes.specs.declared.line_cause.LineCause.{LineCause}
use Rattle.house_reports.specs.explain_lines.Table.{IsRow, header}
use Rattle.line_causes.specs.RefusalNames.{refused_by_reply}

-- a row of this number, this name and such a cause if the line is refused, and otherwise nothing
abbrev pub IsTold : ℕ → Option (List ℕ) → (LineCause → Type 0) → List ℕ → Type 0
IsTold number None IsCause text = text ≡ []
IsTold number (Some refusal) IsCause text = IsRow number refusal IsCause text

-- The rows of lines that come after this number of others, and that a house answers after these events. A refused line adds no event,
-- so its cause is the same after it.
abbrev pub AreTold : Config → List Event → ℕ → List (List ℕ) → List ℕ → Type 0
AreTold config events number [] text = text ≡ []
AreTold config events number (line ∷ lines) text =
    (first : List ℕ) × (others : List ℕ) × (text ≡ first ++ others)
    × IsTold (number + 1) (refused_by_reply (reply_in config events line)) (IsCauseOfLine config (after config events line) (reply_in config events line) line) first
    × AreTold config (after config events line) (number + 1) lines others

-- one of the lines is refused
abbrev pub is_any_refused : Config → List Event → List (List ℕ) → Bool
is_any_refused config events [] = false
is_any_refused config events (line ∷ lines) =
    is_some (refused_by_reply (reply_in config events line)) || is_any_refused config (after config events line) lines

-- the names of the columns, and the rows of all lines
abbrev pub IsTable : Config → List (List ℕ) → Bool → List ℕ → Type 0
IsTable config lines any text =
    (rows : List ℕ) × (text ≡ header ++ rows) × AreTold config [] 0 lines rows × (any ≡ is_any_refused config [] lines)
