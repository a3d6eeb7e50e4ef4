use Rattle.event_commands.proofs.AskLemmas.{not_admitted, refused_alike}
use Rattle.event_commands.proofs.platforms.admitted_by.Goals as goal

pub returns-in-Err-clause-none : goal.returns-in-Err-clause-none
returns-in-Err-clause-none c =
    refused_alike c.args.config.now c.args.asked c.args.platform c.in-Err._cause c.requires (not_admitted _ c.in-Err._request _ c.in-Err._cause c.in-Err.ensures.judged)
