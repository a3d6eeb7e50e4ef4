use Rattle.std.proofs.Common.{ap, ◌∙◌}
use Rattle.json.specs.Find.{is_null}
use Rattle.ocpi_json.specs.Inner.Places.{tokens_from}
use Rattle.ocpi_json.proofs.Tapes.{told}
use Rattle.ocpi_json.proofs.node.Node.is_null.Goals as goal

pub returns : goal.returns
returns c = told is_null (tokens_from c.self.inside.place) c.is_null.result c.self.invariant.1 c.is_null.ensures ∙ ap is_null c.self.view_is
