use Rattle.std.proofs.Common.{sym, ◌∙◌}
use Rattle.plain_house.proofs.EntriesLemmas.{holds_of_in_events}
use Rattle.plain_house.proofs.house.authorize.holds_so_far.Goals as goal

pub returns-clause-value : goal.returns-clause-value
returns-clause-value c = c.holds_in.ensures.value ∙ sym (holds_of_in_events c.args.provider.now c.args.events.now)
