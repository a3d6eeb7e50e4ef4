use Rattle.plain_house.proofs.ExposureLater.{adds_at_most}
use Rattle.plain_house.proofs.laws.entries_add_at_most.Goals as goal

pub returns : goal.returns
returns c = adds_at_most
