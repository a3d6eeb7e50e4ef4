use Rattle.std.proofs.Common.{ap, ◌∙◌, option_map}
use Rattle.json.specs.Find.{as_number}
use Rattle.ocpi_json.specs.Inner.Places.{tokens_from}
use Rattle.ocpi_json.proofs.Tapes.{told}
use Rattle.ocpi_json.proofs.node.Node.as_number.Goals as goal

pub returns : goal.returns
returns c = told as_number (tokens_from c.self.inside.place) (option_map (λ t. t.now) c.as_number.result) c.self.invariant.1 c.as_number.ensures ∙ ap as_number c.self.view_is
