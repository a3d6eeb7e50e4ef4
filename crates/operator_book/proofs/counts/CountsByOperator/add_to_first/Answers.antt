use Rattle.std.proofs.Common.{◌≡◌, is_some, not, true, unwrap_or, sym, ap, ◌∙◌, arith}
use Rattle.ocpi_types.specs.Party.{same_party}
use Rattle.operator_book.specs.Inner.Counts.{first_if}
use Rattle.operator_book.proofs.FirstLemmas.{first_more, first_value}
use Rattle.operator_book.proofs.KeyLemmas.{party_laws}
use Rattle.operator_book.proofs.counts.CountsByOperator.add_to_first.Goals as goal

pub overflow_add-count : goal.overflow_add-count
overflow_add-count c =
    let entries = c.args.self.now.counts.entries in
    let there : is_some (first_if (same_party c.args.operator.now) entries) ≡ true = ap is_some (sym c.first.ensures) ∙ c.is_none.ensures ∙ ap not c.if-is_none.false in
    let count = ap (λ value. unwrap_or value 0) (first_value (same_party c.args.operator.now) entries c.in-Some.count.now there c.in-Some.ensures.value) in
    omega (arith, count, c.requires)

pub returns-in-Some-clause-added : goal.returns-in-Some-clause-added
returns-in-Some-clause-added c added asked =
    let entries = c.args.self.now.counts.entries in
    let operator = c.args.operator.now in
    let there : is_some (first_if (same_party operator) entries) ≡ true = ap is_some (sym c.first.ensures) ∙ c.is_none.ensures ∙ ap not c.if-is_none.false in
    first_more party_laws operator entries c.in-Some.count.now there c.in-Some.ensures.value asked
