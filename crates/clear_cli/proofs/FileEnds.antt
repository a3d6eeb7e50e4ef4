-- How the reading of a schedule file ends.
use Rattle.std.proofs.Common.{◌≡◌, ℕ, ◌+◌, ◌<◌, ◌≤◌, ◌^◌, Bool, false, List, [], ◌∷◌, ◌++◌, length, Option, Some, None, unwrap_or, Result, Ok, Err, IfErr, MatchResult, refl, sym, ap, subst, ◌∙◌, arith, length-append, append-nil, append_assoc}
use Rattle.std.specs.List.{All}
use Rattle.std.proofs.lemmas.List.{get_or_append_left}
use Rattle.std.proofs.Math.Seq.{get_or-append_seam}
use Rattle.ocpi_types.specs.declared.config.Config.{Config}
use Rattle.request_lines.specs.declared.faults.Count.{Count}
use Rattle.request_lines.specs.declared.faults.ScriptFault.{ScriptFault}
use Rattle.request_lines.specs.declared.faults.ScriptFault.TheVariants as script
use Rattle.request_lines.specs.Answering.{AreAllAnswered, IsFault, Rule, StopsAtWrite, is_write_fault, lines_read}
use Rattle.request_lines.specs.Lines.{IsShort, lines_of}
use Rattle.clear_cli.specs.declared.schedule_file.ScheduleFault.{ScheduleFault}
use Rattle.clear_cli.specs.ScheduleFile.{IsAtFault, IsSchedule, PlainSchedule, schedule_of}
use Rattle.clear_cli.specs.ScheduleRead.{FailsToRead}
use Rattle.clear_cli.specs.Inner.ReadingFile.{AreCounted, AreRead, Goes, PlainReading, SaysNone, Stands, ended_as}

-- ---- lines that are short

short_first : (lines more : List (List ℕ)) → All IsShort (lines ++ more) → All IsShort lines
short_first lines more short = λ k d within. subst IsShort (get_or_append_left lines more d k within) (short k d (omega (arith, within, length-append lines more)))

-- the first line at fault is at fault also where long lines are none
says_none : (config : Config) (lines more : List (List ℕ)) (number : ℕ) → All IsShort lines → SaysNone config lines number → IsAtFault config (lines ++ more) number
says_none config lines more number short says = record {
  before = says.before;
  line = says.line;
  later = says.later ++ more;
  split = ap (λ (l : List (List ℕ)). l ++ more) says.split ∙ append_assoc says.before (says.line ∷ says.later) more;
  number_is = says.number_is;
  schedule = says.schedule;
  before_is = record { each_short = short_first says.before (says.line ∷ says.later) (subst (All IsShort) says.split short); said = says.before_says };
  fails = λ other is. let some : None ≡ Some other = sym says.fails ∙ is.said in absurd cc;
}

-- a line that is too long is at fault
too_long : (config : Config) (before others : List (List ℕ)) (line : List ℕ) (schedule : PlainSchedule) → All IsShort before → 1048576 < length line
    → schedule_of config before ≡ Some schedule → IsAtFault config (before ++ line ∷ others) (length before + 1)
too_long config before others line schedule short long says = record {
  before = before;
  line = line;
  later = others;
  split = refl;
  number_is = refl;
  schedule = schedule;
  before_is = record { each_short = short; said = says };
  fails = λ other is. absurd (omega (arith, long, last_short is.each_short));
}
  where
    last_short : All IsShort (before ++ line ∷ []) → length line ≤ 1048576
    last_short all = subst IsShort (get_or-append_seam before line [] []) (all (length before) [] (omega (arith, length-append before (line ∷ []))))

-- ---- the run

abbrev pub nothing_read : PlainReading
nothing_read = record { schedule = record { commands = []; steps = [] }; lines = 0; fault = None }

-- a rule by which lines are read, whatever it keeps beside
module _ {A : Type 0} (rule : Rule A) (config_of : A → Config) (reading_of : A → PlainReading)
    (goes : (a b : A) (lines : List (List ℕ)) (text : List ℕ) → rule.answers a lines text b → Goes (config_of a) (config_of b) (reading_of a) lines text (reading_of b))
    (start now : A) (begins : reading_of start ≡ nothing_read) where
  are_read : (lines : List (List ℕ)) (text : List ℕ) → rule.answers start lines text now → length lines < 2 ^ 128 → AreRead (config_of start) lines (reading_of now)
  are_read lines text answers few =
      let all = (goes start now lines text answers).2 in
      all [] few (subst (AreRead (config_of start) []) (sym begins) (record { counted = refl; stands = refl }))

  abbrev pub Ends : List ℕ → ℕ → Bool → Result PlainSchedule ScheduleFault → Type 0
  Ends bytes calls has_failed result = MatchResult result (λ schedule. IsSchedule (config_of start) (lines_of bytes) schedule)
      (λ fault. FailsToRead (config_of start) (record { calls = calls; bytes = bytes; has_failed = has_failed }) fault)

  abbrev pub Told : ℕ → List ℕ → Bool → Type 0 → List ℕ → Result Count ScriptFault → Type 0
  Told calls bytes has_failed at_end written run = MatchResult run
      (λ count. AreAllAnswered rule bytes (record { start = start; written = written; now = now }) count)
      (λ fault. IsFault rule (record { calls = calls; bytes = bytes; has_failed = has_failed; at_end = at_end }) (record { start = start; written = written; now = now }) fault)

  -- a writer that is given no byte cannot fail
  writes_nothing : (bytes : List ℕ) (calls : ℕ) (has_failed : Bool) (at_end : Type 0) (written : List ℕ)
      → StopsAtWrite rule (lines_read (record { calls = calls; bytes = bytes; has_failed = has_failed; at_end = at_end })) (record { start = start; written = written; now = now }) → ⊥
  writes_nothing bytes calls has_failed at_end written stop =
      let none : stop.answer ≡ [] = (goes stop.middle now (stop.line ∷ []) stop.answer stop.answered_last).1 in
      let less : stop.sent < length stop.answer = stop.sent_is_less in
      absurd (omega (arith, less, ap length none))

  pub no_write_fault : (calls : ℕ) (bytes : List ℕ) (has_failed : Bool) (at_end : Type 0) (written : List ℕ) (run : Result Count ScriptFault)
      → Told calls bytes has_failed at_end written run → IfErr run (λ fault. is_write_fault fault ≡ false)
  no_write_fault calls bytes has_failed at_end written (Ok count) told = tt
  no_write_fault calls bytes has_failed at_end written (Err script.Read) told = refl
  no_write_fault calls bytes has_failed at_end written (Err (script.Write count)) told = absurd (writes_nothing bytes calls has_failed at_end written told.1)
  no_write_fault calls bytes has_failed at_end written (Err script.NoMemory) told = refl
  no_write_fault calls bytes has_failed at_end written (Err (script.LineTooLong number)) told = refl

  pub ended_so : (calls : ℕ) (bytes : List ℕ) (has_failed : Bool) (at_end : Type 0) (written : List ℕ) (run : Result Count ScriptFault) → AreCounted run
      → Told calls bytes has_failed at_end written run → Ends bytes calls has_failed (ended_as run (reading_of now).schedule (reading_of now).fault)
  ended_so calls bytes has_failed at_end written (Ok count) few told =
      by (reading_of now).fault (are_read (lines_of bytes) written told.answered (omega (arith, few, told.lines_is))).stands
    where
      by : (fault : Option ℕ) → Stands (config_of start) (lines_of bytes) (reading_of now).schedule fault → Ends bytes calls has_failed (ended_as (Ok count) (reading_of now).schedule fault)
      by None stands = record { each_short = told.each_short; said = stands }
      by (Some number) stands = subst (λ (l : List (List ℕ)). IsAtFault (config_of start) l number) (append-nil (lines_of bytes)) (says_none (config_of start) (lines_of bytes) [] number told.each_short stands)
  ended_so calls bytes has_failed at_end written (Err script.Read) few told = told.cause
  ended_so calls bytes has_failed at_end written (Err (script.Write count)) few told = absurd (writes_nothing bytes calls has_failed at_end written told.1)
  ended_so calls bytes has_failed at_end written (Err script.NoMemory) few told = tt
  ended_so calls bytes has_failed at_end written (Err (script.LineTooLong number)) few told =
      subst (λ (l : List (List ℕ)). IsAtFault (config_of start) l (unwrap_or (reading_of now).fault number)) (sym told.split)
      (by (reading_of now).fault (are_read told.before written told.answered (omega (arith, few, told.number_is))).stands)
    where
      by : (fault : Option ℕ) → Stands (config_of start) told.before (reading_of now).schedule fault → IsAtFault (config_of start) (told.before ++ told.line ∷ told.others) (unwrap_or fault number)
      by None stands = subst (IsAtFault (config_of start) (told.before ++ told.line ∷ told.others)) (sym told.number_is)
          (too_long (config_of start) told.before told.others told.line (reading_of now).schedule told.each_short told.is_long stands)
      by (Some other) stands = says_none (config_of start) told.before (told.line ∷ told.others) other told.each_short stands
