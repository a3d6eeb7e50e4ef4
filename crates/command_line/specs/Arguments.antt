-- The arguments of a command.
use Rattle.std.specs.Prelude.{ℕ, ◌==◌, Bool, true, false, List, [], ◌∷◌, ◌++◌, Option, Some, None, if◌then◌else◌, codes, drop, find, is_some, length, map, option_map, option_and_then, take}
use Rattle.std.specs.Str.{bytes_eq}
use Rattle.command_line.specs.declared.arguments.CommandOption.{CommandOption}
use Rattle.command_line.specs.declared.arguments.CommandOption.TheVariants.{Threads, Table, Store, From, At, Head, Answers, Causes, Progress}
use Rattle.command_line.specs.declared.arguments.Given.{Given}
use Rattle.command_line.specs.declared.arguments.Arguments.{Arguments}
use Rattle.command_line.specs.declared.arguments.Reading.{Reading}

abbrev pub Text : Type 0
Text = List ℕ

-- ---- one option

-- its name, without hyphens
abbrev pub option_name : CommandOption → Text
option_name Threads = codes "threads"
option_name Table = codes "table"
option_name Store = codes "store"
option_name From = codes "from"
option_name At = codes "at"
option_name Head = codes "head"
option_name Answers = codes "answers"
option_name Causes = codes "causes"
option_name Progress = codes "progress"

-- a value follows it
abbrev pub has_value : CommandOption → Bool
has_value Threads = true
has_value Table = false
has_value Store = true
has_value From = true
has_value At = true
has_value Head = true
has_value Answers = false
has_value Causes = false
has_value Progress = false

-- a value may follow it after `=`, where none has to
abbrev pub may_have_value : CommandOption → Bool
may_have_value Threads = false
may_have_value Table = false
may_have_value Store = false
may_have_value From = false
may_have_value At = false
may_have_value Head = false
may_have_value Answers = false
may_have_value Causes = false
may_have_value Progress = true

-- an option that was given, and its value
pub record PlainGiven : Type 0 where
  pub option : CommandOption
  pub value : Option Text

abbrev pub plain_given : Given → PlainGiven
plain_given given = record { option = given.option; value = option_map (λ value. value.now) given.value }

abbrev pub is_given_as : CommandOption → PlainGiven → Bool
is_given_as option given = bytes_eq (option_name option) (option_name given.option)

-- ---- one word

-- a hyphen (45), and more after it
abbrev pub is_flag : Text → Bool
is_flag [] = false
is_flag (only ∷ []) = false
is_flag (first ∷ second ∷ rest) = first == 45

-- what comes after the beginning of a text
abbrev pub after : Text → Text → Option Text
after beginning text = if bytes_eq (take (length beginning) text) beginning then Some (drop (length beginning) text) else None

-- a flag without its two hyphens; `-table` is `--table`
abbrev pub body_of : Text → Option Text
body_of word = if bytes_eq word (codes "-table") then Some (codes "table") else after (codes "--") word

-- the option with what comes after its name: nothing, or `=` and its value
abbrev pub given_as : CommandOption → Text → Option PlainGiven
given_as option [] = Some (record { option = option; value = None })
given_as option (first ∷ rest) = option_map (λ value. record { option = option; value = Some value }) (after (codes "=") (first ∷ rest))

abbrev pub given_by : CommandOption → Text → Option PlainGiven
given_by option body = option_and_then (given_as option) (after (option_name option) body)

abbrev pub is_given : Text → CommandOption → Bool
is_given body option = is_some (given_by option body)

-- the first of these options that the flag without its hyphens is
abbrev pub first_given : List CommandOption → Text → Option PlainGiven
first_given options body = option_and_then (λ option. given_by option body) (find (is_given body) options)

-- ---- all words

pub record PlainArguments : Type 0 where
  -- the words that are no options and no values of options
  pub words : List Text
  pub given : List PlainGiven

abbrev pub plain_arguments : Arguments → PlainArguments
plain_arguments arguments = record { words = map (λ word. word.now) arguments.words.items; given = map plain_given arguments.given.items }

-- the option of this kind, if it was given
abbrev pub given_option : CommandOption → PlainArguments → Option PlainGiven
given_option option arguments = find (is_given_as option) arguments.given

-- the value of an option, if it was given
abbrev pub value_of : CommandOption → PlainArguments → Option Text
value_of option arguments = option_and_then (λ given. given.value) (given_option option arguments)

-- the arguments so far, the option whose value is the next word, and whether `--` was read
pub record PlainReading : Type 0 where
  pub arguments : PlainArguments
  pub waiting : Option CommandOption
  pub ended : Bool

abbrev pub plain_reading : Reading → PlainReading
plain_reading reading = record { arguments = plain_arguments reading.arguments; waiting = reading.waiting; ended = reading.ended }

abbrev pub with_word : Text → PlainReading → PlainReading
with_word word reading = record reading { arguments = record reading.arguments { words = reading.arguments.words ++ word ∷ [] } }

-- an option is given once
abbrev pub with_given : PlainGiven → PlainReading → Option PlainReading
with_given given reading =
    if is_some (given_option given.option reading.arguments) then None
    else Some (record reading { arguments = record reading.arguments { given = reading.arguments.given ++ given ∷ [] }; waiting = None })

-- an option and its value in the same word, an option whose value is the next word, one that may have a value after `=`, or one that
-- has none
abbrev pub with_option : PlainReading → PlainGiven → Option PlainReading
with_option reading given =
    if has_value given.option
    then (if is_some given.value then with_given given reading else Some (record reading { waiting = Some given.option }))
    else (if may_have_value given.option then with_given given reading else (if is_some given.value then None else with_given given reading))

abbrev pub with_flag : List CommandOption → PlainReading → Text → Option PlainReading
with_flag options reading word =
    if bytes_eq word (codes "--") then Some (record reading { ended = true })
    else option_and_then (with_option reading) (option_and_then (first_given options) (body_of word))

-- the value of an option in the next word
abbrev pub with_value : CommandOption → PlainReading → Text → Option PlainReading
with_value option reading word = if is_flag word then None else with_given (record { option = option; value = Some word }) reading

-- a word, where no option waits for its value
abbrev pub with_first : List CommandOption → PlainReading → Text → Option PlainReading
with_first options reading word = if is_flag word then with_flag options reading word else Some (with_word word reading)

abbrev pub with_next : List CommandOption → PlainReading → Text → Option CommandOption → Option PlainReading
with_next options reading word (Some option) = with_value option reading word
with_next options reading word None = with_first options reading word

-- what is read after one more word; nothing, if it cannot be there
abbrev pub next_reading : List CommandOption → PlainReading → Text → Option PlainReading
next_reading options reading word = if reading.ended then Some (with_word word reading) else with_next options reading word reading.waiting

unfoldable pub arguments_after : List CommandOption → PlainReading → List Text → Option PlainArguments
arguments_after options reading [] = if is_some reading.waiting then None else Some reading.arguments
arguments_after options reading (word ∷ words) = option_and_then (λ next. arguments_after options next words) (next_reading options reading word)

abbrev pub nothing_read : PlainReading
nothing_read = record { arguments = record { words = []; given = [] }; waiting = None; ended = false }

-- The arguments of these words for a command that has these options, as clap reads them: an option may be anywhere, once; its value is
-- the next word or comes after `=`; after `--` no word is an option.
abbrev pub arguments_of : List CommandOption → List Text → Option PlainArguments
arguments_of options words = arguments_after options nothing_read words
