use Rattle.std.proofs.Common.{rules, ◌≡◌, [], length, sym, ap, ◌∙◌}
use Rattle.ocpi_json.specs.Inner.Begun.{named}
use Rattle.ocpi_json.specs.Inner.Places.{tokens_from}
use Rattle.ocpi_json.proofs.Places.{linked_too}
use Rattle.ocpi_json.proofs.Tapes.{front-named, front-placed, front-row, none_named}
use Rattle.ocpi_json.proofs.node.MembersIterator.next.Goals as goal

pub invariant_of-result : goal.invariant_of-result
invariant_of-result c = (
  linked_too c.self.inside.left c.in-Some.place c.in-Some.ensures.same c.self.invariant.0,
  front-placed (tokens_from c.self.inside.left) (tokens_from c.in-Some.place) (tokens_from c.next_member.new.self) c.in-Some.name.now c.self.invariant.1 c.in-Some.ensures.value,
)

pub invariant_of-self-2 : goal.invariant_of-self-2
invariant_of-self-2 c = (
  linked_too c.self.inside.left c.next_member.new.self c.in-Some.ensures.tape c.self.invariant.0,
  front-row (tokens_from c.self.inside.left) (tokens_from c.in-Some.place) (tokens_from c.next_member.new.self) c.in-Some.name.now c.self.invariant.1 c.in-Some.ensures.value,
)

pub returns-clause-steps : goal.returns-clause-steps
returns-clause-steps c =
    sym c.self.view_is ∙ front-named (tokens_from c.self.inside.left) (tokens_from c.in-Some.place) (tokens_from c.next_member.new.self) c.in-Some.name.now c.self.invariant.1 c.in-Some.ensures.value

pub returns-in_default-clause-steps : goal.returns-in_default-clause-steps
returns-in_default-clause-steps c =
    let ts = tokens_from c.self.inside.left in
    let none : named ts ≡ [] = none_named ts (tokens_from c.next_member.new.self) c.self.invariant.1 c.in_default.ensures.value in
    (sym c.self.view_is ∙ none, ap (λ p. named (tokens_from p)) c.in_default.ensures.stays ∙ none)

pub returns-clause-goes : goal.returns-clause-goes
returns-clause-goes c =
    let steps =
    sym c.self.view_is ∙ front-named (tokens_from c.self.inside.left) (tokens_from c.in-Some.place) (tokens_from c.next_member.new.self) c.in-Some.name.now c.self.invariant.1 c.in-Some.ensures.value in
    let shorter = ap length steps in
    search rules
