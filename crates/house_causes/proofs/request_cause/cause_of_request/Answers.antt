use Rattle.house_causes.specs.Causes.{said_in}
use Rattle.house_causes.proofs.RequestLemmas.{by_house}
use Rattle.house_causes.proofs.request_cause.cause_of_request.Goals as goal

pub returns-in_ok-cause_of-in-Ok : goal.returns-in_ok-cause_of-in-Ok
returns-in_ok-cause_of-in-Ok c =
    by_house c.args.config.now c.args.events.now c.args.request c.in-Ok.command (said_in c.args.reply.now) c.in_ok-cause_of-in-Ok.field-0 c.in-Ok.ensures.judged c.in_ok-cause_of-in-Ok.ensures
