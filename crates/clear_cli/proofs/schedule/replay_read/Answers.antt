use Rattle.std.proofs.Common.{inl, inr, refl}
use Rattle.request_lines.specs.Lines.{lines_of}
use Rattle.clear_cli.proofs.ScheduleLines.{commands_are_admitted}
use Rattle.clear_cli.proofs.schedule.replay_read.Goals as goal

pub replay_onto-requires : goal.replay_onto-requires
replay_onto-requires g c =
    let told = c.in-Ok.ensures.told in
    record { admitted = commands_are_admitted c.args.config.now (lines_of told.1) c.in-Ok.schedule told.4.said }

pub returns-in-Err-clause-ended : goal.returns-in-Err-clause-ended
returns-in-Err-clause-ended g c =
    let told = c.in-Err.ensures.told in
    inl (record {
      writer_is = refl;
      cause = inr (inr (record {
        bytes = told.1;
        reader' = c.read_schedule.new.reader;
        gave = record { reader = c.args.reader.now; is_given = refl; calls = told.0; few = told.2; gave = told.3 };
        cause = c.in-Err.fault;
        fault_is = c.fault_of.ensures;
        fails = told.4;
      }));
    })
