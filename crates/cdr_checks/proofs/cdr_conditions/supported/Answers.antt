use Rattle.cdr_checks.proofs.ConditionLemmas.{told_supported}
use Rattle.cdr_checks.proofs.cdr_conditions.supported.Goals as goal

pub returns : goal.returns
returns c = told_supported c.args.tariff.now c.unsupported.result c.is_none.result c.unsupported.ensures c.is_none.ensures
