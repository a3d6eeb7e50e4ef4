use Rattle.kept_house.proofs.OneConfig.{one_config}
use Rattle.kept_house.proofs.laws.records_have_one_config.Goals as goal

pub returns : goal.returns
returns c = one_config
