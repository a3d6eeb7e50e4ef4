-- What follows from the definitions.
use Rattle.std.specs.Prelude.{All, ◌≡◌, ℕ, false, List, [], ◌∷◌, ◌++◌, map, Result, Ok, Err}
use Rattle.ocpi_types.specs.declared.config.Config.{Config}
use Rattle.ocpi_types.specs.declared.refusal.Refusal.{Refusal}
use Rattle.cdr_checks.specs.declared.request.Command.{Command}
use Rattle.plain_house.specs.Replies.{is_no_memory}
use Rattle.request_lines.specs.Script.{command_in}
use Rattle.shared_house.specs.declared.call.Call.{Call}
use Rattle.shared_house.specs.PassView.{PassView}
use Rattle.platform_workers.specs.Platforms.{LinesAnswered}

-- the command of a line before those of later lines; a line that is refused has none
abbrev pub command_before : Result Command Refusal → List Command → List Command
command_before (Ok command) commands = command ∷ commands
command_before (Err refusal) commands = commands

-- the commands of the lines that are admitted, in their order
abbrev pub commands_in : Config → List (List ℕ) → List Command
commands_in config [] = []
commands_in config (line ∷ lines) = command_before (command_in config line) (commands_in config lines)

-- the call's reply is not want of memory
abbrev pub FoundMemory : Call → Type 0
FoundMemory call = is_no_memory call.reply ≡ false

-- the pass has its earlier calls, and then these, one for each command; each found memory
pub record HasCalled (commands : List Command) (before after : PassView) : Type 0 where
  pub calls : List Call
  pub calls_are : after.calls ≡ before.calls ++ calls
  pub one_each : map (λ call. call.command) calls ≡ commands
  pub found_memory : All FoundMemory calls
  pub number_kept : after.number ≡ before.number

-- a pass that answered lines called the commands of those that are admitted
abbrev pub CallsAreThoseOfLines : Type 0
CallsAreThoseOfLines =
    (config : Config) (before after : PassView) (lines : List (List ℕ)) (text : List ℕ) → LinesAnswered config before lines text after →
    HasCalled (commands_in config lines) before after
