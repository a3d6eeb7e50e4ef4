use Rattle.std.proofs.Common.{rules, append-nil, refl, subst, sym}
use Rattle.command_line.specs.declared.fault.Fault.{Fault}
use Rattle.command_line.specs.Fault.{IsTold, fault_text, file_line}
use Rattle.clear_cli.specs.Opening.{Opened, Unmade}
use Rattle.clear_cli.proofs.opening.add_answered.Goals as goal

pub returns-in-Ok-clause-added : goal.returns-in-Ok-clause-added
returns-in-Ok-clause-added g c = record {
  fate = Opened c.args.reader c.in-Ok.answers;
  has = (refl, search rules);
  named_is = search rules;
  pairs_is = search rules;
  told = refl;
}

pub returns-in-Err-clause-added : goal.returns-in-Err-clause-added
returns-in-Err-clause-added g c = record {
  fate = Unmade c.in-Err.fault;
  has = c.in-Err.ensures.unmade;
  named_is = sym (append-nil c.args.opened.now.named.items);
  pairs_is = sym (append-nil c.args.opened.now.pairs.items);
  told = (
    c.tell_of_file.new.faults,
    subst (λ (f : Fault). IsTold g.F.Sink.writing c.args.faults.now (file_line c.args.number (fault_text f)) c.tell_of_file.new.faults) c.from.ensures c.tell_of_file.ensures,
    refl,
  );
}
