use Rattle.tariff_elements.proofs.LocalLemmas.{shown_moment}
use Rattle.tariff_elements.proofs.placing.moment.Goals as goal

pub returns : goal.returns
returns c = shown_moment c.local.result c.args.zone.now c.args.instant.nanosecond c.args.energy c.args.seconds c.local.ensures
