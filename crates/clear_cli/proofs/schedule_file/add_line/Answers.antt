use Rattle.std.proofs.Common.{rules, ◌≡◌, ◌⊎◌, ◌==◌, List, ℕ, [], ◌∷◌, ◌++◌, Some, IfOk, MatchOption, true, false, inl, inr, length, subst}
use Rattle.cdr_checks.specs.declared.request.Command.{Command}
use Rattle.clear_cli.specs.StepLine.{steps_of_line}
use Rattle.clear_cli.specs.ScheduleFile.{PlainSchedule, begins_request, schedule_of}
use Rattle.clear_cli.proofs.ReadingLemmas.{line_is_call, line_is_steps}
use Rattle.clear_cli.proofs.ScheduleLines.{Comes}
use Rattle.clear_cli.proofs.schedule_file.add_line.Goals as goal
use Rattle.clear_cli.proofs.schedule_file.add_line.Goals.{else-begins_request-via-then-begins_request+else-is_empty, else-begins_request-via-else-begins_request}

pub returns-then-is_empty : goal.returns-then-is_empty
returns-then-is_empty c =
    let before : PlainSchedule = record { commands = c.schedule.inside.commands.items; steps = c.schedule.inside.steps.items } in
    let now : PlainSchedule = record { commands = c.add_call.new.commands.items; steps = c.schedule.inside.steps.items } in
    subst (λ (s : PlainSchedule). IfOk c.add_call.result (λ is_sound. (lines : List (List ℕ)) → schedule_of c.args.config.now lines ≡ Some s → Comes c.args.config.now (lines ++ c.args.line.now ∷ []) is_sound now)) c.schedule.view_is
    (line_is_call c.args.config.now c.args.line.now before now c.add_call.result (search rules) (search rules) (search rules) (search rules))

pub returns : goal.returns
returns c =
    let before : PlainSchedule = record { commands = c.schedule.inside.commands.items; steps = c.schedule.inside.steps.items } in
    let now : PlainSchedule = record { commands = c.schedule.inside.commands.items; steps = c.add_steps.new.steps.items } in
    let behind : (begins_request c.args.line.now ≡ false) ⊎ ((length before.steps == 0) ≡ false) = elim c.else-begins_request.branch [
      | else-begins_request-via-then-begins_request+else-is_empty w ↦ inr (search rules)
      | else-begins_request-via-else-begins_request w ↦ inl (search rules)
    ] in
    subst (λ (s : PlainSchedule). IfOk c.add_steps.result (λ is_sound. (lines : List (List ℕ)) → schedule_of c.args.config.now lines ≡ Some s → Comes c.args.config.now (lines ++ c.args.line.now ∷ []) is_sound now)) c.schedule.view_is
    (line_is_steps c.args.config.now c.args.line.now before now c.add_steps.result behind (search rules)
    (subst (λ (l : List Command). IfOk c.add_steps.result (λ has_steps. MatchOption (steps_of_line c.args.config.now l c.args.line.now) ((has_steps ≡ false) × (now.steps ≡ before.steps)) (λ more. (has_steps ≡ true) × (now.steps ≡ before.steps ++ more)))) c.as_slice.ensures.value c.add_steps.ensures))
