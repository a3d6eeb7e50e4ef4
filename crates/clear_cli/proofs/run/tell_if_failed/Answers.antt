use Rattle.command_line.specs.Fault.{fault_text}
use Rattle.clear_cli.proofs.RunLemmas.{worker_told}
use Rattle.clear_cli.proofs.run.tell_if_failed.Goals as goal

pub returns-in-Failed-clause-told : goal.returns-in-Failed-clause-told
returns-in-Failed-clause-told g c =
    worker_told g.F.Sink.writing c.args.named.now c.in-Failed.fault c.args.end c.number.result c.path.result.now (fault_text c.worker_fault-fault.result)
    c.args.faults.now c.tell_of_file.new.faults c.in-Failed.is c.number.ensures c.path.ensures c.worker_fault-fault.ensures c.tell_of_file.ensures
