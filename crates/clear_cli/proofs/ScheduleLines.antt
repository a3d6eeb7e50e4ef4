-- What one line more makes of a schedule.
use Rattle.std.proofs.Common.{◌≡◌, ◌⊎◌, ℕ, Bool, true, false, List, [], ◌∷◌, ◌++◌, map, Option, Some, None, option_map, option_and_then, slice_get, Result, Ok, Err, inl, inr, refl, sym, ap, subst, ◌∙◌, append-nil, append_assoc, MatchBool, MatchOption}
use Rattle.std.proofs.lemmas.Option.{same_Some}
use Rattle.std.specs.Result.{result_ok}
use Rattle.std.specs.List.{All}
use Rattle.std.proofs.lemmas.List.Elements.{All-nil, All-cons}
use Rattle.ocpi_types.specs.declared.config.Config.{Config}
use Rattle.ocpi_types.specs.declared.refusal.Refusal.{Refusal}
use Rattle.cdr_checks.specs.declared.request.Command.{Command}
use Rattle.cdr_checks.specs.declared.request.Command.TheVariants as command
use Rattle.cdr_checks.specs.declared.request.Request.{Request}
use Rattle.cdr_checks.specs.Admission.{IsAdmitted, admission}
use Rattle.house_core.specs.declared.step.Action.{Action}
use Rattle.house_core.specs.declared.step.Step.{Step}
use Rattle.request_lines.specs.RequestText.{request_of}
use Rattle.request_lines.specs.Script.{admitted, command_in}
use Rattle.clear_cli.specs.declared.step_line.StepLine.{StepLine}
use Rattle.clear_cli.specs.declared.step_line.StepName.{StepName}
use Rattle.clear_cli.specs.declared.step_line.StepName.TheVariants as name
use Rattle.clear_cli.specs.StepLine.{actions_of, step_line_of, steps_of_line, steps_said, taken_by}
use Rattle.clear_cli.specs.ScheduleFile.{PlainSchedule, begins_request, command_said, each_given, joined, requests, schedule_of, schedule_with, step_lines}

-- ---- what is given for each

module _ {A B : Type 0} (f : A → Option B) where
  one_given : (given : Option B) → option_and_then (λ y. option_map (λ ys. y ∷ ys) (Some [])) given ≡ option_and_then (λ ys. option_map (λ y. ys ++ y ∷ []) given) (Some [])
  one_given None = refl
  one_given (Some y) = refl

  more_given : (first : Option B) (rest : Option (List B)) (last : Option B) →
      option_and_then (λ y. option_map (λ ys. y ∷ ys) (option_and_then (λ ys. option_map (λ z. ys ++ z ∷ []) last) rest)) first
      ≡ option_and_then (λ ys. option_map (λ z. ys ++ z ∷ []) last) (option_and_then (λ y. option_map (λ ys. y ∷ ys) rest) first)
  more_given None rest last = refl
  more_given (Some y) None last = refl
  more_given (Some y) (Some ys) None = refl
  more_given (Some y) (Some ys) (Some z) = refl

  pub each_given-more : (xs : List A) (x : A) → each_given f (xs ++ x ∷ []) ≡ option_and_then (λ ys. option_map (λ y. ys ++ y ∷ []) (f x)) (each_given f xs)
  each_given-more [] x = one_given (f x)
  each_given-more (first ∷ xs) x =
      ap (λ (rest : Option (List B)). option_and_then (λ y. option_map (λ ys. y ∷ ys) rest) (f first)) (each_given-more xs x)
      ∙ more_given (f first) (each_given f xs) (f x)

-- ---- which lines are which

record Sorted (lines calls steps : List (List ℕ)) : Type 0 where
  pub calls_are : requests lines ≡ calls
  pub steps_are : step_lines lines ≡ steps

behind_request : (first : List ℕ) (lines calls steps : List (List ℕ)) → begins_request first ≡ true → Sorted lines calls steps → Sorted (first ∷ lines) (first ∷ calls) steps
behind_request first lines calls steps b parts = record {
  calls_are = rw b (ap (λ (rest : List (List ℕ)). first ∷ rest) parts.calls_are);
  steps_are = rw b parts.steps_are;
}

requests_are : (first : List ℕ) (lines : List (List ℕ)) → begins_request first ≡ true → requests (first ∷ lines) ≡ first ∷ requests lines
requests_are first lines b = rw b refl

steps_are : (first : List ℕ) (lines : List (List ℕ)) → begins_request first ≡ true → step_lines (first ∷ lines) ≡ step_lines lines
steps_are first lines b = rw b refl

steps_begin : (first : List ℕ) (lines : List (List ℕ)) → begins_request first ≡ false → step_lines (first ∷ lines) ≡ first ∷ lines
steps_begin first lines b = rw b refl

-- a request behind requests
one_request : (lines : List (List ℕ)) (line : List ℕ) → step_lines lines ≡ [] → begins_request line ≡ true → Sorted (lines ++ line ∷ []) (requests lines ++ line ∷ []) []
one_request [] line none b = record { calls_are = rw b refl; steps_are = rw b refl }
one_request (first ∷ lines) line none b = by (begins_request first) refl (λ less. one_request lines line less b)
  where
    by : (k : Bool) → begins_request first ≡ k → (step_lines lines ≡ [] → Sorted (lines ++ line ∷ []) (requests lines ++ line ∷ []) [])
        → Sorted (first ∷ (lines ++ line ∷ [])) (requests (first ∷ lines) ++ line ∷ []) []
    by true k more =
        rw (requests_are first lines k)
        (behind_request first (lines ++ line ∷ []) (requests lines ++ line ∷ []) [] k (more (sym (steps_are first lines k) ∙ none)))
    by false k more = let bad : first ∷ lines ≡ [] = sym (steps_begin first lines k) ∙ none in absurd cc

-- a line that is no request, or stands behind a line that is none
abbrev IsBehind : List (List ℕ) → List ℕ → Type 0
IsBehind lines line = (begins_request line ≡ false) ⊎ (step_lines lines ≡ [] → ⊥)

one_step_line : (lines : List (List ℕ)) (line : List ℕ) → IsBehind lines line → Sorted (lines ++ line ∷ []) (requests lines) (step_lines lines ++ line ∷ [])
one_step_line [] line (inl b) = record { calls_are = rw b refl; steps_are = rw b refl }
one_step_line [] line (inr some) = absurd (some refl)
one_step_line (first ∷ lines) line behind = by (begins_request first) refl (λ less. one_step_line lines line less)
  where
    further : begins_request first ≡ true → IsBehind (first ∷ lines) line → IsBehind lines line
    further k (inl b) = inl b
    further k (inr some) = inr (λ none. some (steps_are first lines k ∙ none))

    by : (k : Bool) → begins_request first ≡ k → (IsBehind lines line → Sorted (lines ++ line ∷ []) (requests lines) (step_lines lines ++ line ∷ []))
        → Sorted (first ∷ (lines ++ line ∷ [])) (requests (first ∷ lines)) (step_lines (first ∷ lines) ++ line ∷ [])
    by true k more =
        rw (requests_are first lines k, steps_are first lines k)
        (behind_request first (lines ++ line ∷ []) (requests lines) (step_lines lines ++ line ∷ []) k (more (further k behind)))
    by false k more = record { calls_are = rw k refl; steps_are = rw k refl }

-- ---- each line of steps says some

some_actions : (config : Config) (told : Command) (named : StepName) → actions_of config told named ≡ [] → ⊥
some_actions config told (name.One action) e = absurd cc
some_actions config (command.PutTariff tariff) name.All e = absurd cc
some_actions config (command.PutToken token) name.All e = absurd cc
some_actions config (command.Authorize ask) name.All e = absurd cc
some_actions config (command.Release release) name.All e = absurd cc
some_actions config (command.Post checked) name.All e = absurd cc
some_actions config (command.Close close) name.All e = absurd cc
some_actions config (command.Settle settlement) name.All e = absurd cc
some_actions config (command.Exposure ask) name.All e = absurd cc
some_actions config (command.Find find) name.All e = absurd cc
some_actions config (command.Statement ask) name.All e = absurd cc

module _ (config : Config) (commands : List Command) where
  some_said : (said : Option StepLine) → option_and_then (steps_said config commands) said ≡ Some [] → ⊥
  some_said None e = absurd cc
  some_said (Some said) e = by (slice_get commands said.call) e
    where
      by : (found : Option Command) → option_map (λ told. map (taken_by said.call) (actions_of config told said.named)) found ≡ Some [] → ⊥
      by None e = absurd cc
      by (Some told) e = of (actions_of config told said.named) refl (same_Some _ _ e)
        where
          of : (actions : List Action) → actions_of config told said.named ≡ actions → map (taken_by said.call) actions ≡ [] → ⊥
          of [] a m = some_actions config told said.named a
          of (action ∷ actions) a m = absurd cc

  some_steps : (line : List ℕ) → steps_of_line config commands line ≡ Some [] → ⊥
  some_steps line e = some_said (step_line_of config line) e

  -- so where no steps are said, there is no line of steps
  no_lines : (lines : List (List ℕ)) (parts : List (List Step)) → each_given (steps_of_line config commands) lines ≡ Some parts → joined parts ≡ [] → lines ≡ []
  no_lines [] parts e j = refl
  no_lines (line ∷ lines) parts e j = by (steps_of_line config commands line) refl (each_given (steps_of_line config commands) lines) e
    where
      by : (first : Option (List Step)) → steps_of_line config commands line ≡ first → (rest : Option (List (List Step)))
          → option_and_then (λ y. option_map (λ ys. y ∷ ys) rest) first ≡ Some parts → (line ∷ lines) ≡ []
      by None s rest e = absurd cc
      by (Some steps) s None e = absurd cc
      by (Some []) s (Some ys) e = absurd (some_steps line s)
      by (Some (step ∷ steps)) s (Some ys) e =
          let joined_is : joined parts ≡ joined ((step ∷ steps) ∷ ys) = ap joined (sym (same_Some _ _ e)) in
          let bad : step ∷ (steps ++ joined ys) ≡ [] = sym joined_is ∙ j in absurd cc

-- ---- a schedule with one line more

abbrev pub with_call : PlainSchedule → Command → PlainSchedule
with_call schedule told = record { commands = schedule.commands ++ told ∷ []; steps = schedule.steps }

abbrev pub with_steps : PlainSchedule → List Step → PlainSchedule
with_steps schedule more = record { commands = schedule.commands; steps = schedule.steps ++ more }

-- the parts of a schedule
record Said (config : Config) (lines : List (List ℕ)) (schedule : PlainSchedule) : Type 0 where
  pub commands_are : each_given (command_said config) (requests lines) ≡ Some schedule.commands
  pub parts : List (List Step)
  pub parts_are : each_given (steps_of_line config schedule.commands) (step_lines lines) ≡ Some parts
  pub steps_are : joined parts ≡ schedule.steps

said : (config : Config) (lines : List (List ℕ)) (schedule : PlainSchedule) → schedule_of config lines ≡ Some schedule → Said config lines schedule
said config lines schedule e = by (each_given (command_said config) (requests lines)) refl e
  where
    by : (given : Option (List Command)) → each_given (command_said config) (requests lines) ≡ given
        → option_and_then (schedule_with config (step_lines lines)) given ≡ Some schedule → Said config lines schedule
    by None g e = absurd cc
    by (Some commands) g e = of (each_given (steps_of_line config commands) (step_lines lines)) refl e
      where
        of : (given : Option (List (List Step))) → each_given (steps_of_line config commands) (step_lines lines) ≡ given
            → option_map (λ parts. record { commands = commands; steps = joined parts }) given ≡ Some schedule → Said config lines schedule
        of None p e = absurd cc
        of (Some parts) p e =
            let is : record { commands = commands; steps = joined parts } ≡ schedule = same_Some _ _ e in
            let commands_is : commands ≡ schedule.commands = ap (λ (s : PlainSchedule). s.commands) is in
            record {
              commands_are = g ∙ ap Some commands_is;
              parts = parts;
              parts_are = subst (λ (c : List Command). each_given (steps_of_line config c) (step_lines lines) ≡ Some parts) commands_is p;
              steps_are = ap (λ (s : PlainSchedule). s.steps) is;
            }

joined_more : (parts : List (List Step)) (more : List Step) → joined (parts ++ more ∷ []) ≡ joined parts ++ more
joined_more [] more = append-nil more
joined_more (part ∷ parts) more = ap (λ (rest : List Step). part ++ rest) (joined_more parts more) ∙ sym (append_assoc part (joined parts) more)

pub schedule_more-call : (config : Config) (lines : List (List ℕ)) (line : List ℕ) (schedule : PlainSchedule) → schedule_of config lines ≡ Some schedule
    → schedule.steps ≡ [] → begins_request line ≡ true → schedule_of config (lines ++ line ∷ []) ≡ option_map (with_call schedule) (command_said config line)
schedule_more-call config lines line schedule e none b =
    let is = said config lines schedule e in
    let no_step_lines : step_lines lines ≡ [] = no_lines config schedule.commands (step_lines lines) is.parts is.parts_are (is.steps_are ∙ none) in
    let parts = one_request lines line no_step_lines b in
    let given : each_given (command_said config) (requests (lines ++ line ∷ [])) ≡ option_map (λ told. schedule.commands ++ told ∷ []) (command_said config line) =
    ap (each_given (command_said config)) parts.calls_are ∙ each_given-more (command_said config) (requests lines) line
    ∙ ap (option_and_then (λ ys. option_map (λ y. ys ++ y ∷ []) (command_said config line))) is.commands_are in
    rw (given, parts.steps_are) (by (command_said config line))
  where
    by : (told : Option Command) → option_and_then (schedule_with config []) (option_map (λ told. schedule.commands ++ told ∷ []) told) ≡ option_map (with_call schedule) told
    by None = refl
    by (Some told) = ap (λ (steps : List Step). Some (record { commands = schedule.commands ++ told ∷ []; steps = steps })) (sym none)

pub schedule_more-steps : (config : Config) (lines : List (List ℕ)) (line : List ℕ) (schedule : PlainSchedule) → schedule_of config lines ≡ Some schedule
    → (begins_request line ≡ false) ⊎ (schedule.steps ≡ [] → ⊥)
    → schedule_of config (lines ++ line ∷ []) ≡ option_map (with_steps schedule) (steps_of_line config schedule.commands line)
schedule_more-steps config lines line schedule e behind =
    let is = said config lines schedule e in
    let parts = one_step_line lines line (behind_is is behind) in
    let given : each_given (steps_of_line config schedule.commands) (step_lines (lines ++ line ∷ [])) ≡ option_map (λ more. is.parts ++ more ∷ []) (steps_of_line config schedule.commands line) =
    ap (each_given (steps_of_line config schedule.commands)) parts.steps_are ∙ each_given-more (steps_of_line config schedule.commands) (step_lines lines) line
    ∙ ap (option_and_then (λ ys. option_map (λ y. ys ++ y ∷ []) (steps_of_line config schedule.commands line))) is.parts_are in
    ap (λ (calls : List (List ℕ)). option_and_then (schedule_with config (step_lines (lines ++ line ∷ []))) (each_given (command_said config) calls)) parts.calls_are
    ∙ ap (option_and_then (schedule_with config (step_lines (lines ++ line ∷ [])))) is.commands_are
    ∙ ap (option_map (λ parts. record { commands = schedule.commands; steps = joined parts })) given
    ∙ by is.parts is.steps_are (steps_of_line config schedule.commands line)
  where
    behind_is : Said config lines schedule → (begins_request line ≡ false) ⊎ (schedule.steps ≡ [] → ⊥) → IsBehind lines line
    behind_is is (inl b) = inl b
    behind_is is (inr some) = inr (λ none. some (sym is.steps_are ∙ ap joined (same_Some _ _ (sym is.parts_are ∙ ap (each_given (steps_of_line config schedule.commands)) none))))

    by : (parts : List (List Step)) → joined parts ≡ schedule.steps → (more : Option (List Step))
        → option_map (λ parts. record { commands = schedule.commands; steps = joined parts }) (option_map (λ more. parts ++ more ∷ []) more) ≡ option_map (with_steps schedule) more
    by parts j None = refl
    by parts j (Some more) = ap (λ (steps : List Step). Some (record { commands = schedule.commands; steps = steps })) (joined_more parts more ∙ ap (λ (steps : List Step). steps ++ more) j)

-- what a line that is tried puts, and whether it puts anything
abbrev pub Puts : {A : Type 0} → Option A → Bool → Type 0 → (A → Type 0) → Type 0
Puts given is_put nothing puts = MatchOption given ((is_put ≡ false) × nothing) (λ x. (is_put ≡ true) × puts x)

abbrev pub Comes : Config → List (List ℕ) → Bool → PlainSchedule → Type 0
Comes config lines is_sound schedule = MatchBool is_sound (schedule_of config lines ≡ Some schedule) (schedule_of config lines ≡ None)

pub comes_by : {A : Type 0} (config : Config) (lines : List (List ℕ)) (given : Option A) (with : A → PlainSchedule) (is_put : Bool) (schedule' : PlainSchedule) (nothing : Type 0)
    → schedule_of config lines ≡ option_map with given → Puts given is_put nothing (λ x. schedule' ≡ with x) → Comes config lines is_put schedule'
comes_by config lines None with false schedule' nothing e puts = e
comes_by config lines None with true schedule' nothing e puts = let bad : true ≡ false = puts.0 in absurd cc
comes_by config lines (Some x) with true schedule' nothing e puts = e ∙ ap Some (sym puts.1)
comes_by config lines (Some x) with false schedule' nothing e puts = let bad : false ≡ true = puts.0 in absurd cc

-- ---- the commands are admitted

admitted_said : (config : Config) (line : List ℕ) (told : Command) → command_said config line ≡ Some told → IsAdmitted config told
unfolding command_in IsAdmitted
admitted_said config line told e = by (request_of line) e
  where
    by : (asked : Result Request Refusal) → result_ok (admitted config asked) ≡ Some told → (request : Request) × (admission config request ≡ Ok told)
    by (Ok request) e = (request, of (admission config request) e)
      where
        of : (answer : Result Command Refusal) → result_ok answer ≡ Some told → answer ≡ Ok told
        of (Ok other) e = ap Ok (same_Some _ _ e)
        of (Err why) e = absurd cc
    by (Err why) e = absurd cc

all_admitted : (config : Config) (lines : List (List ℕ)) (commands : List Command) → each_given (command_said config) lines ≡ Some commands → All (IsAdmitted config) commands
all_admitted config [] commands e = subst (All (IsAdmitted config)) (same_Some _ _ e) (All-nil (IsAdmitted config))
all_admitted config (line ∷ lines) commands e =
    by (command_said config line) refl (each_given (command_said config) lines) refl e (λ others r. all_admitted config lines others r)
  where
    by : (first : Option Command) → command_said config line ≡ first → (rest : Option (List Command)) → each_given (command_said config) lines ≡ rest
        → option_and_then (λ y. option_map (λ ys. y ∷ ys) rest) first ≡ Some commands
        → ((others : List Command) → each_given (command_said config) lines ≡ Some others → All (IsAdmitted config) others) → All (IsAdmitted config) commands
    by None f rest r e more = absurd cc
    by (Some told) f None r e more = absurd cc
    by (Some told) f (Some others) r e more =
        subst (All (IsAdmitted config)) (same_Some _ _ e) (All-cons (IsAdmitted config) told others (admitted_said config line told f) (more others r))

pub commands_are_admitted : (config : Config) (lines : List (List ℕ)) (schedule : PlainSchedule) → schedule_of config lines ≡ Some schedule → All (IsAdmitted config) schedule.commands
commands_are_admitted config lines schedule e = all_admitted config (requests lines) schedule.commands (said config lines schedule e).commands_are
