use Rattle.std.proofs.Common.{sym, ◌∙◌}
use Rattle.plain_house.proofs.EntriesLemmas.{versions_of_in_events}
use Rattle.plain_house.proofs.house.full.versions_of.Goals as goal

pub returns : goal.returns
returns c = c.versions_in.ensures ∙ sym (versions_of_in_events c.args.operator.now c.args.events.now)
