use Rattle.std.proofs.Common.{List, None, Result, MatchResult, ap₂, subst, sym}
use Rattle.cdr_checks.specs.declared.request.Command.{Command}
use Rattle.house_core.specs.declared.step.Step.{Step}
use Rattle.request_lines.specs.Lines.{lines_of}
use Rattle.clear_cli.specs.declared.schedule_file.Reading.{Reading}
use Rattle.clear_cli.specs.declared.schedule_file.ScheduleFault.{ScheduleFault}
use Rattle.clear_cli.specs.ScheduleFile.{IsSchedule, PlainSchedule}
use Rattle.clear_cli.specs.ScheduleRead.{FailsToRead}
use Rattle.clear_cli.proofs.FileEnds.{ended_so}
use Rattle.clear_cli.proofs.schedule_file.read_schedule.Goals as goal

pub returns-clause-told : goal.returns-clause-told
returns-clause-told g c =
    let told = c.run_lines-run.ensures.told in
    let failed = g.R.Source.reading.failed c.run_lines-run.new.reader in
    let at_end = g.R.Source.reading.at_end c.run_lines-run.new.reader in
    let begins = ap₂ (λ (commands : List Command) (steps : List Step). record { schedule = record { commands = commands; steps = steps }; lines = 0; fault = None }) c.new.ensures.items c.new-2.ensures.items in
    let so = ended_so _ (λ (a : Reading). a.config.now) (λ a. record { schedule = a.schedule; lines = a.lines; fault = a.fault }) (λ a b lines text answers. answers) _ c.run_lines-run.new.answerer begins told.0 told.1 failed at_end told.2 c.run_lines-run.result c.ended.ensures.counted told.6 in (
      told.0,
      told.1,
      told.3,
      told.4,
      subst (λ (r : Result PlainSchedule ScheduleFault). MatchResult r (λ schedule. IsSchedule c.args.config.now (lines_of told.1) schedule)
          (λ fault. FailsToRead c.args.config.now (record { calls = told.0; bytes = told.1; has_failed = failed }) fault)) (sym c.ended.ensures.ended) so,
    )
