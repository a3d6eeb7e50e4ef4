-- The file of a schedule: lines of requests, which are the calls, and behind them lines of steps.
use Rattle.std.specs.Prelude.{◌≡◌, ℕ, ◌+◌, Bool, List, [], ◌∷◌, ◌++◌, if◌then◌else◌, length, take, codes, Option, Some, option_map, option_and_then, All, flat_map}
use Rattle.std.specs.Result.{result_ok}
use Rattle.std.specs.Str.{bytes_eq}
use Rattle.ocpi_types.specs.declared.config.Config.{Config}
use Rattle.cdr_checks.specs.declared.request.Command.{Command}
use Rattle.house_core.specs.declared.step.Step.{Step}
use Rattle.request_lines.specs.Lines.{IsShort}
use Rattle.request_lines.specs.Script.{command_in}
use Rattle.clear_cli.specs.StepLine.{steps_of_line}

pub record PlainSchedule : Type 0 where
  pub commands : List Command
  pub steps : List Step

-- ---- which lines are which

abbrev pub begins_request : List ℕ → Bool
begins_request line = bytes_eq (take 1 line) (codes "{")

-- the lines before the first that is no request
abbrev pub requests : List (List ℕ) → List (List ℕ)
requests [] = []
requests (line ∷ lines) = if begins_request line then line ∷ requests lines else []

-- that line and what stands behind it
abbrev pub step_lines : List (List ℕ) → List (List ℕ)
step_lines [] = []
step_lines (line ∷ lines) = if begins_request line then step_lines lines else line ∷ lines

-- ---- what lines say

-- what is given for each, where something is given for all
abbrev pub each_given : {A B : Type 0} → (A → Option B) → List A → Option (List B)
each_given f [] = Some []
each_given f (x ∷ xs) = option_and_then (λ y. option_map (λ ys. y ∷ ys) (each_given f xs)) (f x)

-- the command of a request that is not refused before a house is asked
abbrev pub command_said : Config → List ℕ → Option Command
command_said config line = result_ok (command_in config line)

abbrev pub joined : List (List Step) → List Step
joined parts = flat_map (λ part. part) parts

abbrev pub schedule_with : Config → List (List ℕ) → List Command → Option PlainSchedule
schedule_with config lines commands =
    option_map (λ parts. record { commands = commands; steps = joined parts }) (each_given (steps_of_line config commands) lines)

-- the commands of the requests, and the steps of the lines of steps; none where a line says neither
abbrev pub schedule_of : Config → List (List ℕ) → Option PlainSchedule
schedule_of config lines = option_and_then (schedule_with config (step_lines lines)) (each_given (command_said config) (requests lines))

-- ---- a file

-- the lines are this schedule, and none is too long
pub record IsSchedule (config : Config) (lines : List (List ℕ)) (schedule : PlainSchedule) : Type 0 where
  pub each_short : All IsShort lines
  pub said : schedule_of config lines ≡ Some schedule

-- the line of this number, from 1, is the first with which the lines are no schedule
pub record IsAtFault (config : Config) (lines : List (List ℕ)) (number : ℕ) : Type 0 where
  pub before : List (List ℕ)
  pub line : List ℕ
  pub later : List (List ℕ)
  pub split : lines ≡ before ++ line ∷ later
  pub number_is : number ≡ length before + 1
  pub schedule : PlainSchedule
  pub before_is : IsSchedule config before schedule
  pub fails : (other : PlainSchedule) → IsSchedule config (before ++ line ∷ []) other → ⊥
