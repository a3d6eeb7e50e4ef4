use Rattle.std.proofs.Common.{ap, ◌∙◌}
use Rattle.ocpi_json.specs.Fields.{member_at}
use Rattle.ocpi_json.specs.Inner.Places.{tokens_from}
use Rattle.ocpi_json.specs.Name.{key_text}
use Rattle.ocpi_json.proofs.Places.{linked_too}
use Rattle.ocpi_json.proofs.Tapes.{found_at, missing_at}
use Rattle.ocpi_json.proofs.picked.PickedHasMembers.find.Goals as goal

pub invariant_of-result : goal.invariant_of-result
invariant_of-result c =
    let object = c.self.inside.object in (
      linked_too object c.in-Some.place c.in-Some.ensures.tape c.self.invariant.0,
      (found_at (tokens_from object) (tokens_from c.in-Some.place) (key_text c.args.name) c.self.invariant.1 c.in-Some.ensures.value).1,
    )

pub returns-in-Some : goal.returns-in-Some
returns-in-Some c =
    (found_at (tokens_from c.self.inside.object) (tokens_from c.in-Some.place) (key_text c.args.name) c.self.invariant.1 c.in-Some.ensures.value).0
    ∙ ap (member_at c.args.name) c.self.view_is

pub returns-in-None : goal.returns-in-None
returns-in-None c = missing_at (tokens_from c.self.inside.object) (key_text c.args.name) c.self.invariant.1 c.in-None.ensures.value ∙ ap (member_at c.args.name) c.self.view_is
