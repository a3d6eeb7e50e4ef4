-- The rows of the lines of a stream that are refused.
use Rattle.std.specs.Prelude.{◌≡◌, ℕ, ◌+◌, Bool, false, ◌||◌, List, [], ◌∷◌, ◌++◌, Option, is_some}
use Rattle.ocpi_types.specs.declared.config.Config.{Config}
use Rattle.line_streams.specs.State.{StreamState, empty_under}
use Rattle.line_streams.specs.Stream.{IsAnswered}
use Rattle.line_streams.specs.declared.reply.StreamReply.{StreamReply}
use Rattle.line_causes.specs.Refused.{IsRefused}
use Rattle.line_causes.specs.StreamCauses.{IsCauseOfStreamLine}
use Rattle.house_reports.specs.explain_lines.Rows.{IsTold}
use Rattle.house_reports.specs.explain_lines.Table.{header}

-- A line is answered, and has a row of this number if it is refused. A refused line adds no event and leaves the configuration in force
-- as it is, so its cause is the same after it.
pub record HasRow (state : StreamState) (number : ℕ) (line row : List ℕ) (any : Bool) (now : StreamState) : Type 0 where
  pub answer : List ℕ
  pub done : Option StreamReply
  pub name : Option (List ℕ)
  pub answered : IsAnswered state line answer now
  pub refused : IsRefused state line done name
  pub row_is : IsTold number name (IsCauseOfStreamLine now.house.config now.house.events done line) row
  pub any_is : any ≡ is_some name

-- the row of one line, and then the rows of the others
pub record RowsInTurn (First : List ℕ → Bool → StreamState → Type 0) (Rest : StreamState → List ℕ → Bool → Type 0) (rows : List ℕ) (any : Bool) : Type 0 where
  pub row : List ℕ
  pub others : List ℕ
  pub here : Bool
  pub later : Bool
  pub middle : StreamState
  pub rows_are : rows ≡ row ++ others
  pub any_is : any ≡ (here || later)
  pub first : First row here middle
  pub rest : Rest middle others later

-- the rows of lines after this number of others, and whether one of the lines is refused, on the way from one state to another
abbrev pub AreRows : StreamState → ℕ → List (List ℕ) → List ℕ → Bool → StreamState → Type 0
AreRows state number [] rows any now = (rows ≡ []) × (any ≡ false) × (now ≡ state)
AreRows state number (line ∷ lines) rows any now =
    RowsInTurn (HasRow state (number + 1) line) (λ middle others later. AreRows middle (number + 1) lines others later now) rows any

-- the names of the columns, and the rows of the lines of a stream that begins under the configuration
pub record IsStreamTable (config : Config) (lines : List (List ℕ)) (any : Bool) (text : List ℕ) : Type 0 where
  pub rows : List ℕ
  pub last : StreamState
  pub text_is : text ≡ header ++ rows
  pub rows_are : AreRows (empty_under config) 0 lines rows any last
