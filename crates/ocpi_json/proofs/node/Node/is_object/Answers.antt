use Rattle.std.proofs.Common.{ap, ◌∙◌, is_some}
use Rattle.json.specs.Find.{as_object}
use Rattle.ocpi_json.specs.Inner.Places.{tokens_from}
use Rattle.ocpi_json.proofs.Tapes.{is_told_object}
use Rattle.ocpi_json.proofs.node.Node.is_object.Goals as goal

pub returns : goal.returns
returns c =
    c.is_some.ensures ∙ is_told_object tokens_from (tokens_from c.self.inside.place) c.members.result c.self.invariant.1 c.members.ensures.value
    ∙ ap (λ j. is_some (as_object j)) c.self.view_is
