use Rattle.std.proofs.Common.{Ok}
use Rattle.cdr_checks.proofs.AdmissionLemmas.{admitted, not_handed_back}
use Rattle.cdr_checks.proofs.admission.admit.Goals as goal

pub returns-in-Ok-clause-admitted : goal.returns-in-Ok-clause-admitted
returns-in-Ok-clause-admitted c =
    admitted c.args.config.now c.args.request (Ok c.in-Ok.command) (not_handed_back c.args.request.ask _ c.in-Ok.command c.in-Ok.ensures)
