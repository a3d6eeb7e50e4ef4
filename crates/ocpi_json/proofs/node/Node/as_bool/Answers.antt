use Rattle.std.proofs.Common.{ap, ◌∙◌}
use Rattle.json.specs.Find.{as_bool}
use Rattle.ocpi_json.specs.Inner.Places.{tokens_from}
use Rattle.ocpi_json.proofs.Tapes.{told}
use Rattle.ocpi_json.proofs.node.Node.as_bool.Goals as goal

pub returns : goal.returns
returns c = told as_bool (tokens_from c.self.inside.place) c.as_bool.result c.self.invariant.1 c.as_bool.ensures ∙ ap as_bool c.self.view_is
