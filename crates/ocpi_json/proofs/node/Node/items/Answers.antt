use Rattle.std.proofs.Common.{◌≡◌, None, ap, ◌∙◌, arith}
use Rattle.ocpi_json.specs.Fields.{as_items}
use Rattle.ocpi_json.specs.Inner.Places.{tokens_from}
use Rattle.ocpi_json.proofs.Places.{linked_too}
use Rattle.ocpi_json.proofs.Tapes.{inside-has, inside-few, inside-listed, inside-row, no_items_in}
use Rattle.ocpi_json.proofs.node.Node.items.Goals as goal

pub returns-in_err-left : goal.returns-in_err-left
returns-in_err-left c =
    let gone : c.from_residual.result ≡ None = grind arith in
    gone ∙ no_items_in (tokens_from c.self.inside.place) c.self.invariant.1 c.in_err-left.ensures.value ∙ ap as_items c.self.view_is

pub count-requires : goal.count-requires
count-requires c =
    let ts = tokens_from c.self.inside.place in
    let us = tokens_from c.in_ok-left.left in
    let opens = c.in_ok-left.ensures.value in (
      linked_too c.self.inside.place c.in_ok-left.left c.in_ok-left.ensures.tape c.self.invariant.0,
      inside-has ts us c.self.invariant.1 opens,
      inside-few ts us c.self.invariant.1 opens,
    )

pub invariant_of-result : goal.invariant_of-result
invariant_of-result c =
    let ts = tokens_from c.self.inside.place in
    let us = tokens_from c.in_ok-left.left in (
      linked_too c.self.inside.place c.in_ok-left.left c.in_ok-left.ensures.tape c.self.invariant.0,
      inside-row ts us c.self.invariant.1 c.in_ok-left.ensures.value c.count.result c.count.ensures,
    )

pub returns : goal.returns
returns c = inside-listed (tokens_from c.self.inside.place) (tokens_from c.in_ok-left.left) c.self.invariant.1 c.in_ok-left.ensures.value ∙ ap as_items c.self.view_is
