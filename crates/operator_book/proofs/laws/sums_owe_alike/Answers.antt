use Rattle.ocpi_types.specs.Party.{same_party}
use Rattle.netting_positions.specs.declared.obligation.Obligation.{Obligation}
use Rattle.plain_house.specs.Obligations.{obligations}
use Rattle.operator_book.specs.Due.{due}
use Rattle.operator_book.proofs.AlikeLemmas.{all_kept, rows_owe_alike}
use Rattle.operator_book.proofs.laws.sums_owe_alike.Goals as goal

pub returns : goal.returns
returns c config operator period entries different apart known =
    rows_owe_alike config operator (due operator period entries) different apart
    (all_kept (λ (o : Obligation). same_party o.operator operator) (obligations period entries)) known
