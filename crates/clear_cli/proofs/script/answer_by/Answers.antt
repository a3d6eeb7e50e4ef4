use Rattle.std.proofs.Common.{◌≡◌, inr, List, Result, Ok, Err, subst}
use Rattle.std.specs.Result.{IsErrAnd}
use Rattle.ocpi_types.specs.declared.config.Config.{Config}
use Rattle.plain_house.specs.declared.event.Event.{Event}
use Rattle.request_lines.specs.declared.faults.ScriptFault.{ScriptFault}
use Rattle.request_lines.specs.Answering.{IsFault, Input, Run}
use Rattle.request_lines.specs.Script.{script_rule}
use Rattle.request_lines.proofs.AheadLemmas.{fault_up_to}
use Rattle.command_line.specs.declared.fault.Fault.{Fault}
use Rattle.command_line.specs.Fault.{script_fault}
use Rattle.clear_cli.specs.Script.{IsStopped, Streams, streams_of}
use Rattle.clear_cli.specs.Inner.UnderConfig.{AnswersUnder}
use Rattle.clear_cli.proofs.script.answer_by.Goals as goal

ended_by : {R W A : Type 0} (streams : Streams R W) (config : Config) (cause : ScriptFault) (result : Result A Fault) → IsErrAnd result (λ fault. fault ≡ script_fault cause) → IsStopped streams config cause
    → AnswersUnder streams config result
ended_by streams config cause (Ok x) told stopped = absurd told
ended_by streams config cause (Err fault) told stopped = inr (cause, told, stopped)

pub returns-in_err-run_script_ahead-clause-ended : goal.returns-in_err-run_script_ahead-clause-ended
returns-in_err-run_script_ahead-clause-ended g c =
    let told = c.in_err-run_script_ahead.ensures.told in
    let cause = c.in_err-run_script_ahead.field-0.0 in
    let config = c.args.config.now in
    let reader = c.run_script_ahead.new.reader in
    let input : Input = record { calls = told.calls; bytes = told.bytes; has_failed = g.R.Source.reading.failed reader; at_end = g.R.Source.reading.at_end reader } in
    let run : Run (List Event) = record { start = g.S.Sequential.events c.args.house.now; written = told.written; now = told.left } in
    ended_by (streams_of g.R.Source.reading g.W.Sink.writing c.args.reader.now reader c.args.writer.now c.run_script_ahead.new.writer) config cause c.from_residual.result c.from_residual.ensures.1
    (record {
      calls = told.calls;
      bytes = told.bytes;
      written = told.written;
      left = told.left;
      few = told.few;
      gave = told.gave;
      took = told.took;
      fails = subst (λ (start : List Event). IsFault (script_rule config) input (record { start = start; written = told.written; now = told.left }) cause) c.requires.empty
          (fault_up_to (script_rule config) g.R.Source.reading c.args.reader.now reader input run (g.S.Sequential.events c.run_script_ahead.new.house) cause told.ended);
      reader_kept = c.in_err-run_script_ahead.ensures.reader;
      writer_failed_is = c.in_err-run_script_ahead.ensures.failed;
      writer_kept = c.in_err-run_script_ahead.ensures.kept;
    })
