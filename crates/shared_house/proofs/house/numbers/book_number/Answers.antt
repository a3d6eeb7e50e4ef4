use Rattle.std.proofs.Common.{◌≡◌, ◌<◌, ◌∙◌, sym, subst, length, Some}
use Rattle.ocpi_types.specs.declared.config.Operator.{Operator}
use Rattle.ocpi_types.specs.Party.{same_party}
use Rattle.cdr_checks.specs.Parties.{operator_of_command}
use Rattle.shared_house.proofs.NumberLemmas.{place_within}
use Rattle.shared_house.proofs.house.numbers.book_number.Goals as goal

pub returns-clause-within : goal.returns-clause-within
returns-clause-within c =
    let party = c.in_ok-operator.operator in
    let named : operator_of_command c.args.command.now ≡ Some party = sym c.operator.ensures ∙ c.in_ok-operator.was in
    subst (λ n. n < length c.args.config.now.operators) (sym c.operator_number.ensures)
    (place_within (λ (operator : Operator). same_party operator.party party) c.args.config.now.operators (c.requires.operator party named))
