use Rattle.operator_book.specs.Due.{due}
use Rattle.operator_book.proofs.AlikeLemmas.{rows_least}
use Rattle.operator_book.proofs.laws.sums_are_no_larger.Goals as goal

pub returns : goal.returns
returns c config operator period entries different apart =
    rows_least operator (due operator period entries) config.currencies config.providers different apart
