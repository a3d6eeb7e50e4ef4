use Rattle.std.proofs.Common.{rules, ◌≡◌, [], length, arith, ap, sym, ◌∙◌, subst}
use Rattle.ocpi_json.specs.Inner.Begun.{listed}
use Rattle.ocpi_json.specs.Inner.Places.{tokens_from, listed_if_any, IsRow}
use Rattle.ocpi_json.proofs.Places.{linked_too}
use Rattle.ocpi_json.proofs.Tapes.{next-listed, next-placed, next-row, none_left}
use Rattle.std.specs.Prelude.{Some}
use Rattle.ocpi_json.proofs.node.NodesIterator.next.Goals as goal

pub overflow_sub-self : goal.overflow_sub-self
overflow_sub-self c =
    let row : IsRow (Some c.in-Some.left) c.self.inside.len = subst (λ left. IsRow left c.self.inside.len) c.in-Some.is c.self.invariant in
    omega (arith, row.1.full, ap length (next-listed (tokens_from c.in-Some.left) (tokens_from c.in-Some-next_item.place) (tokens_from c.next_item.new.self) row.1.has c.in-Some-next_item.ensures.value))

pub invariant_of-result : goal.invariant_of-result
invariant_of-result c =
    let row : IsRow (Some c.in-Some.left) c.self.inside.len = subst (λ left. IsRow left c.self.inside.len) c.in-Some.is c.self.invariant in (
      linked_too c.in-Some.left c.in-Some-next_item.place c.in-Some-next_item.ensures.same row.0,
      next-placed (tokens_from c.in-Some.left) (tokens_from c.in-Some-next_item.place) (tokens_from c.next_item.new.self) row.1.has c.in-Some-next_item.ensures.value row.1.few,
    )

pub invariant_of-self-in-Some-next_item : goal.invariant_of-self-in-Some-next_item
invariant_of-self-in-Some-next_item c =
    let row : IsRow (Some c.in-Some.left) c.self.inside.len = subst (λ left. IsRow left c.self.inside.len) c.in-Some.is c.self.invariant in (
      linked_too c.in-Some.left c.next_item.new.self c.in-Some-next_item.ensures.tape row.0,
      next-row (tokens_from c.in-Some.left) (tokens_from c.in-Some-next_item.place) (tokens_from c.next_item.new.self) row.1.has c.in-Some-next_item.ensures.value row.1.few _
          (omega (arith, row.1.full, ap length (next-listed (tokens_from c.in-Some.left) (tokens_from c.in-Some-next_item.place) (tokens_from c.next_item.new.self) row.1.has c.in-Some-next_item.ensures.value))),
    )

pub returns-in-Some-next_item-clause-steps : goal.returns-in-Some-next_item-clause-steps
returns-in-Some-next_item-clause-steps c =
    let row : IsRow (Some c.in-Some.left) c.self.inside.len = subst (λ left. IsRow left c.self.inside.len) c.in-Some.is c.self.invariant in
    sym c.self.view_is ∙ ap listed_if_any c.in-Some.is
    ∙ next-listed (tokens_from c.in-Some.left) (tokens_from c.in-Some-next_item.place) (tokens_from c.next_item.new.self) row.1.has c.in-Some-next_item.ensures.value

pub returns-in-None-clause-steps : goal.returns-in-None-clause-steps
returns-in-None-clause-steps c =
    let row : IsRow (Some c.in-Some.left) c.self.inside.len = subst (λ left. IsRow left c.self.inside.len) c.in-Some.is c.self.invariant in
    let none : listed (tokens_from c.in-Some.left) ≡ [] = none_left (tokens_from c.in-Some.left) (tokens_from c.next_item.new.self) row.1.has c.in-None.ensures.value in
    (sym c.self.view_is ∙ ap listed_if_any c.in-Some.is ∙ none, ap (λ p. listed (tokens_from p)) c.in-None.ensures.stays ∙ none)

pub returns-in-Some-next_item-clause-goes : goal.returns-in-Some-next_item-clause-goes
returns-in-Some-next_item-clause-goes c =
    let row : IsRow (Some c.in-Some.left) c.self.inside.len = subst (λ left. IsRow left c.self.inside.len) c.in-Some.is c.self.invariant in
    let steps =
    sym c.self.view_is ∙ ap listed_if_any c.in-Some.is
    ∙ next-listed (tokens_from c.in-Some.left) (tokens_from c.in-Some-next_item.place) (tokens_from c.next_item.new.self) row.1.has c.in-Some-next_item.ensures.value in
    let shorter = ap length steps in
    search rules
