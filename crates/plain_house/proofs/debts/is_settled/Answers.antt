use Rattle.std.proofs.Common.{sym, ◌∙◌}
use Rattle.plain_house.proofs.EntriesLemmas.{settled_in_events}
use Rattle.plain_house.proofs.debts.is_settled.Goals as goal

pub returns : goal.returns
returns c = c.is_settled_by_any.ensures ∙ sym (settled_in_events c.args.settlement.now c.args.events.now)
