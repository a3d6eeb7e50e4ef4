-- A schedule file on its way, line by line and at its end.
use Rattle.std.proofs.Common.{◌≡◌, ◌⊎◌, ℕ, ◌+◌, ◌<◌, ◌^◌, ◌==◌, Bool, true, false, List, [], ◌∷◌, ◌++◌, length, Option, Some, None, is_some, Result, Ok, Err, IfOk, MatchOption, inl, inr, refl, ap, ap₂, ◌∙◌, arith, eqb-true, length-append, append_assoc}
use Rattle.ocpi_types.specs.declared.config.Config.{Config}
use Rattle.cdr_checks.specs.declared.request.Command.{Command}
use Rattle.house_core.specs.declared.step.Step.{Step}
use Rattle.clear_cli.specs.ScheduleFile.{PlainSchedule, begins_request, command_said, schedule_of}
use Rattle.clear_cli.specs.StepLine.{steps_of_line}
use Rattle.clear_cli.specs.Inner.ReadingFile.{PlainReading, ReadsOn, SaysNone, Stands}
use Rattle.clear_cli.proofs.ScheduleLines.{Comes, Puts, comes_by, schedule_more-call, schedule_more-steps, with_call, with_steps}

-- ---- one line

none_in : {A : Type 0} (xs : List A) → (length xs == 0) ≡ true → xs ≡ []
none_in [] e = refl
none_in (x ∷ xs) e = let none : length (x ∷ xs) ≡ 0 = eqb-true (length (x ∷ xs)) 0 e in absurd (omega (arith, none))

some_in : {A : Type 0} (xs : List A) → (length xs == 0) ≡ false → xs ≡ [] → ⊥
some_in [] e none = absurd cc
some_in (x ∷ xs) e none = absurd cc

pub line_is_call : {E : Type 0} (config : Config) (line : List ℕ) (schedule schedule' : PlainSchedule) (r : Result Bool E)
    → begins_request line ≡ true → (length schedule.steps == 0) ≡ true → schedule'.steps ≡ schedule.steps
    → IfOk r (λ is_call. MatchOption (command_said config line) ((is_call ≡ false) × (schedule'.commands ≡ schedule.commands)) (λ told. (is_call ≡ true) × (schedule'.commands ≡ schedule.commands ++ told ∷ [])))
    → IfOk r (λ is_sound. (lines : List (List ℕ)) → schedule_of config lines ≡ Some schedule → Comes config (lines ++ line ∷ []) is_sound schedule')
line_is_call config line schedule schedule' (Err e) b none same puts = tt
line_is_call config line schedule schedule' (Ok is_call) b none same puts = λ lines says.
    comes_by config (lines ++ line ∷ []) (command_said config line) (with_call schedule) is_call schedule' (schedule'.commands ≡ schedule.commands)
    (schedule_more-call config lines line schedule says (none_in schedule.steps none) b) (by (command_said config line) puts)
  where
    by : (given : Option Command) → MatchOption given ((is_call ≡ false) × (schedule'.commands ≡ schedule.commands)) (λ told. (is_call ≡ true) × (schedule'.commands ≡ schedule.commands ++ told ∷ []))
        → Puts given is_call (schedule'.commands ≡ schedule.commands) (λ told. schedule' ≡ with_call schedule told)
    by None puts = puts
    by (Some told) puts = (puts.0, ap₂ (λ (c : List Command) (s : List Step). record { commands = c; steps = s }) puts.1 same)

pub line_is_steps : {E : Type 0} (config : Config) (line : List ℕ) (schedule schedule' : PlainSchedule) (r : Result Bool E)
    → (begins_request line ≡ false) ⊎ ((length schedule.steps == 0) ≡ false) → schedule'.commands ≡ schedule.commands
    → IfOk r (λ has_steps. MatchOption (steps_of_line config schedule.commands line) ((has_steps ≡ false) × (schedule'.steps ≡ schedule.steps)) (λ more. (has_steps ≡ true) × (schedule'.steps ≡ schedule.steps ++ more)))
    → IfOk r (λ is_sound. (lines : List (List ℕ)) → schedule_of config lines ≡ Some schedule → Comes config (lines ++ line ∷ []) is_sound schedule')
line_is_steps config line schedule schedule' (Err e) behind same puts = tt
line_is_steps config line schedule schedule' (Ok has_steps) behind same puts = λ lines says.
    comes_by config (lines ++ line ∷ []) (steps_of_line config schedule.commands line) (with_steps schedule) has_steps schedule' (schedule'.steps ≡ schedule.steps)
    (schedule_more-steps config lines line schedule says (no_request behind)) (by (steps_of_line config schedule.commands line) puts)
  where
    no_request : (begins_request line ≡ false) ⊎ ((length schedule.steps == 0) ≡ false) → (begins_request line ≡ false) ⊎ (schedule.steps ≡ [] → ⊥)
    no_request (inl b) = inl b
    no_request (inr some) = inr (some_in schedule.steps some)

    by : (given : Option (List Step)) → MatchOption given ((has_steps ≡ false) × (schedule'.steps ≡ schedule.steps)) (λ more. (has_steps ≡ true) × (schedule'.steps ≡ schedule.steps ++ more))
        → Puts given has_steps (schedule'.steps ≡ schedule.steps) (λ more. schedule' ≡ with_steps schedule more)
    by None puts = puts
    by (Some more) puts = (puts.0, ap₂ (λ (c : List Command) (s : List Step). record { commands = c; steps = s }) same puts.1)

-- ---- the first line at fault

fault_stays : (config : Config) (lines : List (List ℕ)) (line : List ℕ) (number : ℕ) → SaysNone config lines number → SaysNone config (lines ++ line ∷ []) number
fault_stays config lines line number says = record {
  before = says.before;
  line = says.line;
  later = says.later ++ line ∷ [];
  split = ap (λ (l : List (List ℕ)). l ++ line ∷ []) says.split ∙ append_assoc says.before (says.line ∷ says.later) (line ∷ []);
  number_is = says.number_is;
  schedule = says.schedule;
  before_says = says.before_says;
  fails = says.fails;
}

pub stays : (config : Config) (lines : List (List ℕ)) (line : List ℕ) (schedule : PlainSchedule) (fault : Option ℕ) → is_some fault ≡ true
    → Stands config lines schedule fault → Stands config (lines ++ line ∷ []) schedule fault
stays config lines line schedule None some stands = absurd cc
stays config lines line schedule (Some number) some stands = fault_stays config lines line number stands

pub goes_well : (config : Config) (lines : List (List ℕ)) (line : List ℕ) (schedule schedule' : PlainSchedule) (fault : Option ℕ) (is_sound : Bool) → is_some fault ≡ false → is_sound ≡ true
    → (schedule_of config lines ≡ Some schedule → Comes config (lines ++ line ∷ []) is_sound schedule')
    → Stands config lines schedule fault → Stands config (lines ++ line ∷ []) schedule' None
goes_well config lines line schedule schedule' None true none sound comes stands = comes stands
goes_well config lines line schedule schedule' None false none sound comes stands = absurd cc
goes_well config lines line schedule schedule' (Some number) is_sound none sound comes stands = absurd cc

pub goes_wrong : (config : Config) (lines : List (List ℕ)) (line : List ℕ) (schedule schedule' : PlainSchedule) (fault : Option ℕ) (number : ℕ) (is_sound : Bool) → is_some fault ≡ false → is_sound ≡ false
    → number ≡ length lines + 1 → (schedule_of config lines ≡ Some schedule → Comes config (lines ++ line ∷ []) is_sound schedule')
    → Stands config lines schedule fault → Stands config (lines ++ line ∷ []) schedule' (Some number)
goes_wrong config lines line schedule schedule' None number true none wrong is comes stands = absurd cc
goes_wrong config lines line schedule schedule' None number false none wrong is comes stands = record {
  before = lines;
  line = line;
  later = [];
  split = refl;
  number_is = is;
  schedule = schedule;
  before_says = stands;
  fails = comes stands;
}
goes_wrong config lines line schedule schedule' (Some other) number is_sound none wrong is comes stands = absurd cc

-- one line more is read, where it is counted
pub line_read : (config : Config) (line : List ℕ) (a b : PlainReading)
    → ((before : List (List ℕ)) → length (before ++ line ∷ []) < 2 ^ 128 → a.lines ≡ length before → b.lines ≡ length before + 1)
    → ((before : List (List ℕ)) → b.lines ≡ length before + 1 → Stands config before a.schedule a.fault → Stands config (before ++ line ∷ []) b.schedule b.fault)
    → ReadsOn config a (line ∷ []) b
line_read config line a b counts stands = λ before few are.
    let count : b.lines ≡ length before + 1 = counts before few are.counted in
    record { counted = omega (arith, count, length-append before (line ∷ [])); stands = stands before count are.stands }
