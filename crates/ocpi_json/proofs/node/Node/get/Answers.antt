use Rattle.std.proofs.Common.{ap, ◌∙◌}
use Rattle.json.specs.Find.{get}
use Rattle.ocpi_json.specs.Inner.Places.{tokens_from}
use Rattle.ocpi_json.proofs.Places.{linked_too}
use Rattle.ocpi_json.proofs.Tapes.{found_at, missing_at}
use Rattle.ocpi_json.proofs.node.Node.get.Goals as goal

pub invariant_of-result : goal.invariant_of-result
invariant_of-result c = (
  linked_too c.self.inside.place c.in-Some.place c.in-Some.ensures.tape c.self.invariant.0,
  (found_at (tokens_from c.self.inside.place) (tokens_from c.in-Some.place) c.args.name.now c.self.invariant.1 c.in-Some.ensures.value).1,
)

pub returns-in-Some : goal.returns-in-Some
returns-in-Some c =
    (found_at (tokens_from c.self.inside.place) (tokens_from c.in-Some.place) c.args.name.now c.self.invariant.1 c.in-Some.ensures.value).0 ∙ ap (get c.args.name.now) c.self.view_is

pub returns-in-None : goal.returns-in-None
returns-in-None c = missing_at (tokens_from c.self.inside.place) c.args.name.now c.self.invariant.1 c.in-None.ensures.value ∙ ap (get c.args.name.now) c.self.view_is
