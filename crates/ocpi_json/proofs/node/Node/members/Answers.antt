use Rattle.std.proofs.Common.{ap, ◌∙◌}
use Rattle.ocpi_json.specs.Fields.{as_members}
use Rattle.ocpi_json.specs.Inner.Places.{tokens_from}
use Rattle.ocpi_json.proofs.Places.{linked_too}
use Rattle.ocpi_json.proofs.Tapes.{no_members_in, within-named, within-row}
use Rattle.ocpi_json.proofs.node.Node.members.Goals as goal

pub invariant_of-result : goal.invariant_of-result
invariant_of-result c = (
  linked_too c.self.inside.place c.in-Some.left c.in-Some.ensures.tape c.self.invariant.0,
  within-row (tokens_from c.self.inside.place) (tokens_from c.in-Some.left) c.self.invariant.1 c.in-Some.ensures.value,
)

pub returns-in-Some : goal.returns-in-Some
returns-in-Some c = within-named (tokens_from c.self.inside.place) (tokens_from c.in-Some.left) c.self.invariant.1 c.in-Some.ensures.value ∙ ap as_members c.self.view_is

pub returns-in-None : goal.returns-in-None
returns-in-None c = no_members_in (tokens_from c.self.inside.place) c.self.invariant.1 c.in-None.ensures.value ∙ ap as_members c.self.view_is
