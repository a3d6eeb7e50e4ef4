-- A line of steps: the number of a call, a space, and the name of a step or `All`.
use Rattle.std.specs.Prelude.{ℕ, zero, suc, ◌-◌, ◌==◌, ◌&&◌, Bool, nat_le, not, List, [], ◌∷◌, ◌++◌, if◌then◌else◌, length, map, take, drop, slice_index, Option, Some, None, option_map, option_and_then, slice_get, codes}
use Rattle.std.specs.Char.{is_ascii, is_ascii_digit}
use Rattle.std.specs.List.{list_all, before_first, after_first}
use Rattle.std.specs.Str.{bytes_eq}
use Rattle.std.specs.Str.Parse.{digits_value}
use Rattle.ocpi_types.specs.declared.config.Config.{Config}
use Rattle.ocpi_types.specs.declared.party.Party.{Party}
use Rattle.ocpi_types.specs.Config.{is_operator}
use Rattle.ocpi_types.specs.Party.{party_of}
use Rattle.cdr_checks.specs.declared.request.Command.{Command}
use Rattle.cdr_checks.specs.declared.request.Command.TheVariants as command
use Rattle.period_order.specs.Places.{operator_number}
use Rattle.house_core.specs.declared.step.Action.{Action}
use Rattle.house_core.specs.declared.step.Action.TheVariants as action
use Rattle.house_core.specs.declared.step.Step.{Step}
use Rattle.clear_cli.specs.declared.step_line.StepName.{StepName}
use Rattle.clear_cli.specs.declared.step_line.StepName.TheVariants as name
use Rattle.clear_cli.specs.declared.step_line.StepLine.{StepLine}

-- ---- all steps of a command, in their order

abbrev pub steps_in_book : List Action
steps_in_book = action.Begin ∷ action.TakeBook ∷ action.Order ∷ action.PutBook ∷ action.End ∷ []

abbrev pub steps_in_account : List Action
steps_in_account = action.Begin ∷ action.TakeAccount ∷ action.Order ∷ action.PutAccount ∷ action.End ∷ []

abbrev pub steps_in_both : List Action
steps_in_both = action.Begin ∷ action.TakeBook ∷ action.TakeAccount ∷ action.Order ∷ action.PutAccount ∷ action.PutBook ∷ action.End ∷ []

-- so many books are collected, in the order of the configuration
abbrev pub collects : ℕ → List Action
collects zero = []
collects (suc number) = collects number ++ action.Collect number ∷ []

abbrev pub steps_through_books : Config → List Action
steps_through_books config = (action.Begin ∷ action.Order ∷ []) ++ (collects (length config.operators) ++ action.End ∷ [])

abbrev pub all_steps : Config → Command → List Action
all_steps config (command.PutTariff tariff) = steps_in_book
all_steps config (command.PutToken token) = steps_in_account
all_steps config (command.Authorize ask) = steps_in_account
all_steps config (command.Release release) = steps_in_account
all_steps config (command.Post checked) = steps_in_both
all_steps config (command.Close close) = steps_through_books config
all_steps config (command.Settle settlement) = steps_in_account
all_steps config (command.Exposure ask) = steps_in_account
all_steps config (command.Find find) = steps_in_book
all_steps config (command.Statement ask) = steps_through_books config

-- ---- the name of a step

-- `Collect ` and the party of an operator
abbrev pub if_operator : Config → Party → Option Action
if_operator config party = if is_operator config party then Some (action.Collect (operator_number config party)) else None

abbrev pub collect_named : Config → List ℕ → Option Action
collect_named config text =
    if bytes_eq (take 8 text) (codes "Collect ") then option_and_then (if_operator config) (party_of (drop 8 text)) else None

abbrev pub action_named : Config → List ℕ → Option Action
action_named config text =
    if bytes_eq text (codes "Begin") then Some action.Begin
    else (if bytes_eq text (codes "TakeBook") then Some action.TakeBook
    else (if bytes_eq text (codes "TakeAccount") then Some action.TakeAccount
    else (if bytes_eq text (codes "Order") then Some action.Order
    else (if bytes_eq text (codes "PutAccount") then Some action.PutAccount
    else (if bytes_eq text (codes "PutBook") then Some action.PutBook
    else (if bytes_eq text (codes "Abandon") then Some action.Abandon
    else (if bytes_eq text (codes "End") then Some action.End else collect_named config text)))))))

abbrev pub step_named : Config → List ℕ → Option StepName
step_named config text = if bytes_eq text (codes "All") then Some name.All else option_map name.One (action_named config text)

-- ---- a line

-- 1 to 18 digits, of which the first is no 0 (48)
abbrev pub is_call_number : List ℕ → Bool
is_call_number text = nat_le 1 (length text) && nat_le (length text) 18 && list_all is_ascii_digit text && not (slice_index text 0 == 48)

-- calls are numbered from 1 in a file, and from 0 in a world
abbrev pub call_named : List ℕ → Option ℕ
call_named text = if is_call_number text then Some (digits_value 10 text - 1) else None

abbrev pub is_space : ℕ → Bool
is_space byte = byte == 32

abbrev pub step_line_of : Config → List ℕ → Option StepLine
step_line_of config line =
    if list_all is_ascii line
    then option_and_then (λ call. option_map (λ named. record { call = call; named = named }) (step_named config (after_first is_space line))) (call_named (before_first is_space line))
    else None

-- ---- the steps of a line

abbrev pub actions_of : Config → Command → StepName → List Action
actions_of config command name.All = all_steps config command
actions_of config command (name.One action) = action ∷ []

abbrev pub taken_by : ℕ → Action → Step
taken_by call action = record { call = call; action = action }

-- where the call is one of those of these commands
abbrev pub steps_said : Config → List Command → StepLine → Option (List Step)
steps_said config commands said =
    option_map (λ command. map (taken_by said.call) (actions_of config command said.named)) (slice_get commands said.call)

abbrev pub steps_of_line : Config → List Command → List ℕ → Option (List Step)
steps_of_line config commands line = option_and_then (steps_said config commands) (step_line_of config line)
