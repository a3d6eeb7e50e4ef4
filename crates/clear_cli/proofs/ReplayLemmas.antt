-- A schedule that is replayed: its lines are written, or not all of them.
use Rattle.std.proofs.Common.{◌≡◌, List, Result, Ok, Err, OnOk, IfErr, MatchResult, inr, subst, sym}
use Rattle.ocpi_types.specs.declared.config.Config.{Config}
use Rattle.cdr_checks.specs.declared.request.Command.{Command}
use Rattle.plain_house.specs.declared.event.Event.{Event}
use Rattle.house_core.specs.declared.finished.Finished.{Finished}
use Rattle.house_core.specs.declared.step.Step.{Step}
use Rattle.house_core.specs.OneHouse.{KeepsRules, OneHouse}
use Rattle.request_lines.specs.Streams.{Writing}
use Rattle.command_line.specs.declared.fault.Fault.{Fault}
use Rattle.clear_cli.specs.Inner.UnderConfig.{IsCutFor, IsLeftUnwritten}
use Rattle.clear_cli.specs.Schedule.{IsTraced, IsWritten}
use Rattle.clear_cli.specs.ScheduleFile.{PlainSchedule}
use Rattle.clear_cli.specs.ScheduleText.{trace_text}

written_or_left : {W A : Type 0} (writing : Writing W) (config : Config) (schedule : PlainSchedule) (writer writer' : W)
    (finished : List Finished) (events : List Event) (result : Result A Fault) → IsTraced config schedule finished events →
    OnOk result (writing.takes writer (trace_text config finished) writer') → OnOk result (writing.failed writer' ≡ writing.failed writer) →
    IfErr result (λ fault. IsCutFor writing config finished writer writer' fault) →
    MatchResult result (λ _. IsWritten writing config schedule writer writer') (λ fault. IsLeftUnwritten writing config schedule writer writer' fault)
written_or_left writing config schedule writer writer' finished events (Ok done) traced took kept cut =
    record { finished = finished; events = events; traced = traced; took = took; kept = kept }
written_or_left writing config schedule writer writer' finished events (Err fault) traced took kept cut =
    inr (record { finished = finished; events = events; traced = traced; cause = cut.0; fault_is = cut.1; stopped = cut.2 })

pub replayed : {W A : Type 0} (writing : Writing W) (config : Config) (schedule : PlainSchedule) (writer writer' : W)
    (commands : List Command) (steps : List Step) (ended finished : List Finished) (events : List Event) (result : Result A Fault) →
    schedule.commands ≡ commands → schedule.steps ≡ steps → ended ≡ finished →
    OneHouse config commands steps ended events → KeepsRules config events →
    OnOk result (writing.takes writer (trace_text config finished) writer') → OnOk result (writing.failed writer' ≡ writing.failed writer) →
    IfErr result (λ fault. IsCutFor writing config finished writer writer' fault) →
    MatchResult result (λ _. IsWritten writing config schedule writer writer') (λ fault. IsLeftUnwritten writing config schedule writer writer' fault)
replayed writing config schedule writer writer' commands steps ended finished events result of_commands of_steps same one_house rules =
    written_or_left writing config schedule writer writer' finished events result (record {
      one_house = subst (λ of. OneHouse config schedule.commands schedule.steps of events) same
          (subst (λ of. OneHouse config schedule.commands of ended events) (sym of_steps)
          (subst (λ of. OneHouse config of steps ended events) (sym of_commands) one_house));
      rules = rules;
    })
