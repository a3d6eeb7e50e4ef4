use Rattle.std.proofs.Common.{sym, ◌∙◌}
use Rattle.plain_house.proofs.EntriesLemmas.{entries_of_in_events}
use Rattle.plain_house.proofs.house.full.entries_of.Goals as goal

pub returns : goal.returns
returns c = c.entries_in.ensures ∙ sym (entries_of_in_events c.args.provider.now c.args.events.now)
