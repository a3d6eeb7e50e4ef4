use Rattle.event_commands.proofs.AskLemmas.{none_admitted}
use Rattle.event_commands.proofs.platforms.Platforms.admitted_for.Goals as goal

pub returns-in-None-clause-none : goal.returns-in-None-clause-none
returns-in-None-clause-none c = none_admitted c.args.self.now c.args.asked c.in-None.ensures.none
