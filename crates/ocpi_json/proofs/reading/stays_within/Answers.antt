use Rattle.std.proofs.Common.{◌+◌, ◌∙◌, ap, sym, get_or, map, drop, arith}
use Rattle.json.specs.Tape.{node_token}
use Rattle.json.specs.declared.tape.Node.TheVariants.{Object}
use Rattle.ocpi_json.specs.Inner.Levels.{stays_within}
use Rattle.ocpi_json.proofs.Levels.{one_within, one_beyond}
use Rattle.ocpi_json.proofs.Tokens.{here}
use Rattle.ocpi_json.proofs.reading.stays_within.Goals as goal

pub returns-then-deep-gt-MAX_DEPTH : goal.returns-then-deep-gt-MAX_DEPTH
returns-then-deep-gt-MAX_DEPTH c =
    let held = c.loop-at.invariant in
    let node = get_or c.args.nodes.now c.loop-at.at (Object 0) in
    sym (held.same ∙ ap (stays_within c.loop-at.deep) (here c.args.nodes.now c.loop-at.at (Object 0) c.loop-at-test.true)
    ∙ one_beyond c.loop-at.deep (node_token node) (drop (c.loop-at.at + 1) (map node_token c.args.nodes.now)) c.level-deep.result c.level-deep.ensures c.if-deep-gt-MAX_DEPTH.true)

pub loop-at-preserved : goal.loop-at-preserved
loop-at-preserved c =
    let held = c.loop-at.invariant in
    let node = get_or c.args.nodes.now c.loop-at.at (Object 0) in
    record {
      inside = omega (arith, c.loop-at-test.true);
      within = c.if-deep-gt-MAX_DEPTH.false;
      same = held.same ∙ ap (stays_within c.loop-at.deep) (here c.args.nodes.now c.loop-at.at (Object 0) c.loop-at-test.true)
          ∙ one_within c.loop-at.deep (node_token node) (drop (c.loop-at.at + 1) (map node_token c.args.nodes.now)) c.level-deep.result c.level-deep.ensures c.if-deep-gt-MAX_DEPTH.false;
    }
