use Rattle.std.proofs.Common.{map, sym, ◌∙◌, arith}
use Rattle.std.proofs.lemmas.List.{length-map}
use Rattle.json.specs.declared.tape.Node.TheVariants.{Object}
use Rattle.json.specs.Tape.{node_token}
use Rattle.ocpi_json.proofs.Levels.{few_passed, linked_at}
use Rattle.ocpi_json.proofs.reading.after_few.Goals as goal

pub returns-then-after-at-clause-same : goal.returns-then-after-at-clause-same
returns-then-after-at-clause-same c =
    let has = sym c.link.ensures ∙ c.in_ok-after.was in
    let link = linked_at c.args.nodes.now c.args.at c.in_ok-after.after (Object 0) c.requires.linked c.requires.inside has in
    few_passed (map node_token c.args.nodes.now) c.args.at c.in_ok-after.after c.args.deep c.requires.within link c.if-after-at.true

pub returns-then-after-at-clause-later : goal.returns-then-after-at-clause-later
returns-then-after-at-clause-later c =
    let has = sym c.link.ensures ∙ c.in_ok-after.was in
    let link = linked_at c.args.nodes.now c.args.at c.in_ok-after.after (Object 0) c.requires.linked c.requires.inside has in
    (link.2, omega (arith, link.3, length-map c.args.nodes.now node_token))
