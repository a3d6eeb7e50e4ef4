use Rattle.lines_ahead.proofs.AheadLemmas.{if_admitted}
use Rattle.lines_ahead.proofs.ahead.ReadAhead.command.Goals as goal
use Rattle.std.proofs.Common.{refl}

pub returns-in-Some-clause-admitted : goal.returns-in-Some-clause-admitted
returns-in-Some-clause-admitted g c = if_admitted _ _ _ _ refl c.in-Some.ensures.command
