use Rattle.exact_money.proofs.Spelled.{found, some_of}
use Rattle.exact_money.proofs.millionths.millionths_of_is_value.Goals as goal

pub returns : goal.returns
returns c text m = (found text m, some_of text m)
