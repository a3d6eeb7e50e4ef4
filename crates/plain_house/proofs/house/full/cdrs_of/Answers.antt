use Rattle.std.proofs.Common.{sym, ◌∙◌}
use Rattle.plain_house.proofs.EntriesLemmas.{cdrs_in_events}
use Rattle.plain_house.proofs.house.full.cdrs_of.Goals as goal

pub returns : goal.returns
returns c = c.cdrs_in.ensures ∙ sym (cdrs_in_events c.args.operator.now c.args.events.now)
