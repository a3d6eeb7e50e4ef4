-- What the words of a command line ask for.
use Rattle.std.specs.Prelude.{ℕ, ◌+◌, ◌-◌, ◌==◌, ◌||◌, ◌&&◌, Bool, false, List, [], ◌∷◌, Option, Some, None, if◌then◌else◌, codes, length, map, nat_lt, option_map, option_and_then}
use Rattle.std.specs.List.{list_any}
use Rattle.std.specs.Option.{option_or}
use Rattle.std.specs.Str.{bytes_eq}
use Rattle.std.specs.String.{string_bytes}
use Rattle.command_line.specs.Arguments.{PlainArguments, arguments_of, value_of}
use Rattle.command_line.specs.declared.arguments.CommandOption.{CommandOption}
use Rattle.command_line.specs.declared.arguments.CommandOption.TheVariants.{Threads}
use Rattle.clear_cli.specs.declared.words.Job.{Job}
use Rattle.clear_cli.specs.declared.words.Job.TheVariants as job

-- what a command line asks for
pub data Asked : Type 0 where
  -- the answers to the lines of standard input, under the configuration of this path, by so many threads if they are given
  Script : (config : List ℕ) (threads : Option ℕ) → Asked
  -- the calls and steps of the file of the second path, under the configuration of the first
  Schedule : (config file : List ℕ) → Asked
  -- the answers to the lines of the files of these paths, and what their house leaves, in the folder of the second path and under
  -- the configuration of the first
  Run : (config folder : List ℕ) (files : List (List ℕ)) → Asked
  -- a report by these words, which its command reads, the command's name first
  Report : (words : List (List ℕ)) → Asked
  -- the help of the program, or that of the command of this name
  Help : (command : Option (List ℕ)) → Asked
  -- the version of the program
  Version : Asked

-- a command that reads its own words: it reports of a configuration, of CDRs or of a house after its lines, or is over a store
abbrev pub is_report : List ℕ → Bool
is_report name = list_any (bytes_eq name)
    (codes "check_config" ∷ codes "check-config" ∷ codes "explain_lines" ∷ codes "explain-lines" ∷ codes "statements" ∷ codes "balances" ∷ codes "rate" ∷ codes "explain_cost" ∷ codes "explain-cost" ∷ codes "re_rate" ∷ codes "re-rate" ∷ codes "keep" ∷ codes "stream" ∷ codes "configure" ∷ codes "log" ∷ codes "check" ∷ codes "head" ∷ codes "upgrade" ∷ [])

-- a command by which a house answers
abbrev pub is_answering : List ℕ → Bool
is_answering name = list_any (bytes_eq name) (codes "script" ∷ codes "schedule" ∷ codes "run" ∷ [])

abbrev pub is_command : List ℕ → Bool
is_command name = is_answering name || is_report name

abbrev pub is_help_flag : List ℕ → Bool
is_help_flag word = list_any (bytes_eq word) (codes "--help" ∷ codes "-h" ∷ [])

abbrev pub is_version_flag : List ℕ → Bool
is_version_flag word = list_any (bytes_eq word) (codes "--version" ∷ codes "-V" ∷ [])

-- the help of the command of this name, if there is one
abbrev pub help_of : List ℕ → Option Asked
help_of name = if is_command name then Some (Help (Some name)) else None

-- what the first word shows: the version, or the help of the program
abbrev pub shown_first : List ℕ → Option Asked
shown_first word = if is_version_flag word then Some Version else (if is_help_flag word then Some (Help None) else None)

-- one of the words before `--` asks for help
abbrev pub asks_help : List (List ℕ) → Bool
asks_help [] = false
asks_help (word ∷ words) = if bytes_eq word (codes "--") then false else is_help_flag word || asks_help words

-- what `help` shows: the help of the program, or that of the command of this name
abbrev pub shown_help : List (List ℕ) → Option Asked
shown_help [] = Some (Help None)
shown_help (name ∷ []) = help_of name
shown_help words = None

-- what a command shows whose words ask for help
abbrev pub shown_by : List ℕ → List (List ℕ) → Option Asked
shown_by name words = if bytes_eq name (codes "help") then shown_help words else (if asks_help words then help_of name else None)

-- what the words after the program's name show, if they ask for help or the version
abbrev pub shown : List (List ℕ) → Option Asked
shown [] = None
shown (first ∷ words) = option_or (shown_first first) (shown_by first words)

-- what the words after the program's name ask for, if that is a report
abbrev pub reported : List (List ℕ) → Option Asked
reported (name ∷ words) = if is_report name then Some (Report (name ∷ words)) else None
reported [] = None

-- the number from 1 to 16 that these digits write
abbrev pub threads_of : List ℕ → Option ℕ
threads_of (digit ∷ []) = if nat_lt 48 digit && nat_lt digit 58 then Some (digit - 48) else None
threads_of (ten ∷ digit ∷ []) = if (ten == 49) && (nat_lt 47 digit && nat_lt digit 55) then Some (10 + (digit - 48)) else None
threads_of word = None

-- the options of a command by which a house answers
abbrev pub house_options : List ℕ → List CommandOption
house_options name = if bytes_eq name (codes "script") then Threads ∷ [] else []

-- what `script` asks for with this configuration and the value of `--threads`
abbrev pub script_with : List ℕ → Option (List ℕ) → Option Asked
script_with config None = Some (Script config None)
script_with config (Some count) = option_map (λ threads. Script config (Some threads)) (threads_of count)

-- what the words after `script` ask for, with the value of `--threads`
abbrev pub script_of : Option (List ℕ) → List (List ℕ) → Option Asked
script_of threads (config ∷ []) = script_with config threads
script_of threads words = None

-- what the words after `schedule` ask for
abbrev pub schedule_of : List (List ℕ) → Option Asked
schedule_of (config ∷ file ∷ []) = Some (Schedule config file)
schedule_of words = None

-- what the words after `run` ask for: 1 to 128 files
abbrev pub run_of : List (List ℕ) → Option Asked
run_of (config ∷ folder ∷ files) = if nat_lt 0 (length files) && nat_lt (length files) 129 then Some (Run config folder files) else None
run_of words = None

-- what a command by which a house answers asks for with these arguments
abbrev pub asked_with : List ℕ → PlainArguments → Option Asked
asked_with name arguments =
    if bytes_eq name (codes "script") then script_of (value_of Threads arguments) arguments.words
    else (if bytes_eq name (codes "schedule") then schedule_of arguments.words
    else (if bytes_eq name (codes "run") then run_of arguments.words else None))

-- what the words after the program's name ask a house for
abbrev pub asked_of_house : List (List ℕ) → Option Asked
asked_of_house [] = None
asked_of_house (name ∷ words) = option_and_then (asked_with name) (arguments_of (house_options name) words)

-- what the words ask for, the program's name first
abbrev pub asked : List (List ℕ) → Option Asked
asked (program ∷ words) = option_or (shown words) (option_or (reported words) (asked_of_house words))
asked [] = None

abbrev pub asked_by : Job → Asked
asked_by (job.Script config threads) = Script config.now threads
asked_by (job.Schedule config file) = Schedule config.now file.now
asked_by (job.Run config folder files) = Run config.now folder.now (map (λ file. file.now) files.items)
asked_by (job.Report words) = Report (map string_bytes words.now)
asked_by (job.Help command) = Help (option_map (λ name. name.now) command)
asked_by job.Version = Version
