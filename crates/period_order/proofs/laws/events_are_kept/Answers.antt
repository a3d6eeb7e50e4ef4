use Rattle.period_order.proofs.LawLemmas.{are_kept}
use Rattle.period_order.proofs.laws.events_are_kept.Goals as goal

pub returns : goal.returns
returns c = are_kept c.commands_have_parties.ensures c.commands_keep_lists_legal.ensures c.events_are_of_their_command.ensures
