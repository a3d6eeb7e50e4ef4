use Rattle.std.proofs.Common.{rules, [], ◌∷◌, inl, refl}
use Rattle.command_line.specs.Fault.{fault_line}
use Rattle.clear_cli.proofs.ToldLines.{told_one}
use Rattle.clear_cli.proofs.RunLemmas.{fails, fails_by}
use Rattle.clear_cli.proofs.run.run.Goals as goal

pub returns-in-Err-clause-fault : goal.returns-in-Err-clause-fault
returns-in-Err-clause-fault g c = λ one. (
  fault_line c.in-Err.fault ∷ [],
  inl (record { fault = c.in-Err.fault; folder_is = refl; writer_is = refl; reads = c.in-Err.ensures.err; lines_are = refl }),
  told_one g.F.Sink.writing (fault_line c.in-Err.fault) c.args.faults.now c.tell.new.faults c.tell.ensures,
)

pub returns-in-Ok-false-default-clause-fault : goal.returns-in-Ok-false-default-clause-fault
returns-in-Ok-false-default-clause-fault g c = λ one.
    fails _ g.F.Sink.writing c.in-Ok.config _ c.args.config.now c.run_under.result.0 c.args.faults.now c.run_under.new.faults (search rules) c.in-Ok.ensures.ok c.run_under.ensures.ended

pub returns-clause-fault : goal.returns-clause-fault
returns-clause-fault g c = λ one.
    fails_by _ g.F.Sink.writing c.in-Ok.config _ c.args.config.now c.in-Err-default.fault c.run_under.result.0 c.args.faults.now c.run_under.new.faults c.tell-in-Err-default.new.faults
    c.in-Err-default.is-0 c.in-Ok.ensures.ok c.run_under.ensures.ended c.tell-in-Err-default.ensures
