-- A schedule file on its way.
use Rattle.std.specs.Prelude.{◌≡◌, ℕ, ◌+◌, ◌^◌, ◌<◌, List, [], ◌∷◌, ◌++◌, length, Option, Some, None, Result, Ok, Err, refl, unwrap_or}
use Rattle.std.proofs.Common.{sym, ap₂, ◌∙◌, subst, arith, append-nil, append_assoc, length-append}
use Rattle.ocpi_types.specs.declared.config.Config.{Config}
use Rattle.request_lines.specs.declared.faults.Count.{Count}
use Rattle.request_lines.specs.declared.faults.ScriptFault.{ScriptFault}
use Rattle.request_lines.specs.declared.faults.ScriptFault.TheVariants as script
use Rattle.clear_cli.specs.declared.schedule_file.ScheduleFault.{ScheduleFault}
use Rattle.clear_cli.specs.declared.schedule_file.ScheduleFault.TheVariants as fault
use Rattle.clear_cli.specs.ScheduleFile.{PlainSchedule, schedule_of}

-- the schedule of the lines so far, how many they are, and the number of the first that is at fault
pub record PlainReading : Type 0 where
  pub schedule : PlainSchedule
  pub lines : ℕ
  pub fault : Option ℕ

-- a line of this number is the first with which the lines say no schedule, whether they are short or not
pub record SaysNone (config : Config) (lines : List (List ℕ)) (number : ℕ) : Type 0 where
  pub before : List (List ℕ)
  pub line : List ℕ
  pub later : List (List ℕ)
  pub split : lines ≡ before ++ line ∷ later
  pub number_is : number ≡ length before + 1
  pub schedule : PlainSchedule
  pub before_says : schedule_of config before ≡ Some schedule
  pub fails : schedule_of config (before ++ line ∷ []) ≡ None

abbrev pub Stands : Config → List (List ℕ) → PlainSchedule → Option ℕ → Type 0
Stands config lines schedule None = schedule_of config lines ≡ Some schedule
Stands config lines schedule (Some number) = SaysNone config lines number

-- these lines are read
pub record AreRead (config : Config) (lines : List (List ℕ)) (reading : PlainReading) : Type 0 where
  pub counted : reading.lines ≡ length lines
  pub stands : Stands config lines reading.schedule reading.fault

-- these lines more, while they can be counted
abbrev pub ReadsOn : Config → PlainReading → List (List ℕ) → PlainReading → Type 0
ReadsOn config reading lines reading' =
    (before : List (List ℕ)) → length (before ++ lines) < 2 ^ 128 → AreRead config before reading → AreRead config (before ++ lines) reading'

-- and nothing is written
abbrev pub Goes : Config → Config → PlainReading → List (List ℕ) → List ℕ → PlainReading → Type 0
Goes config config' reading lines text reading' = (config' ≡ config) × (text ≡ []) × ReadsOn config reading lines reading'

pub reads_none : (config : Config) (reading : PlainReading) → Goes config config reading [] [] reading
reads_none config reading = (refl, refl, λ before few are. subst (λ (lines : List (List ℕ)). AreRead config lines reading) (sym (append-nil before)) are)

pub reads_more : (f g h : Config) (a b c : PlainReading) (ls ms : List (List ℕ)) (t u : List ℕ) →
    Goes f g a ls t b → Goes g h b ms u c → Goes f h a (ls ++ ms) (t ++ u) c
reads_more f g h a b c ls ms t u p q = (
  q.0 ∙ p.0,
  ap₂ (λ (x y : List ℕ). x ++ y) p.1 q.1,
  λ before few are.
      let all : before ++ (ls ++ ms) ≡ (before ++ ls) ++ ms = sym (append_assoc before ls ms) in
      let long : length ((before ++ ls) ++ ms) < 2 ^ 128 = subst (λ (l : List (List ℕ)). length l < 2 ^ 128) all few in
      let short : length (before ++ ls) < 2 ^ 128 = omega (arith, long, length-append (before ++ ls) ms) in
      let first : AreRead f (before ++ ls) b = p.2 before short are in
      let second : ReadsOn f b ms c = subst (λ (k : Config). ReadsOn k b ms c) p.0 q.2 in
      subst (λ (l : List (List ℕ)). AreRead f l c) (sym all) (second (before ++ ls) long first),
)

-- ---- at the end

abbrev pub unless_fault : PlainSchedule → Option ℕ → Result PlainSchedule ScheduleFault
unless_fault schedule None = Ok schedule
unless_fault schedule (Some line) = Err (fault.Line line)

abbrev pub ended_as : Result Count ScriptFault → PlainSchedule → Option ℕ → Result PlainSchedule ScheduleFault
ended_as (Ok count) schedule at = unless_fault schedule at
ended_as (Err script.Read) schedule at = Err fault.Read
ended_as (Err (script.Write written)) schedule at = Err fault.Read
ended_as (Err script.NoMemory) schedule at = Err fault.NoMemory
ended_as (Err (script.LineTooLong line)) schedule at = Err (fault.Line (unwrap_or at line))

-- the numbers of a run are below this
abbrev pub AreCounted : Result Count ScriptFault → Type 0
AreCounted (Ok count) = count.lines < 2 ^ 128
AreCounted (Err script.Read) = Unit {0}
AreCounted (Err (script.Write count)) = Unit {0}
AreCounted (Err script.NoMemory) = Unit {0}
AreCounted (Err (script.LineTooLong number)) = number < 2 ^ 128
