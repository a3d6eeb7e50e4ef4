use Rattle.std.proofs.Common.{◌∙◌, sym}
use Rattle.indexmap.specs.IndexMap.{get}
use Rattle.ocpi_types.specs.Party.{same_party}
use Rattle.event_commands.proofs.TableLemmas.{added, kept}
use Rattle.event_commands.proofs.platform_table.add_parties.Goals as goal

pub loop-party-preserved-then-contains_key : goal.loop-party-preserved-then-contains_key
loop-party-preserved-then-contains_key c asked =
    kept c.loop-party.acting (get same_party c.args.acting.now asked) c.as_slice-parties.result.now c.loop-party.party-index c.party-item.result asked c.args.platform.now.name
    c.loop-party-test.true c.party-item.is (sym c.contains_key.ensures ∙ c.if-contains_key.true) (c.loop-party.invariant asked)

pub loop-party-preserved : goal.loop-party-preserved
loop-party-preserved c asked =
    c.in_ok-insert.ensures.updates.0 asked
    ∙ added c.loop-party.acting (get same_party c.args.acting.now asked) c.as_slice-parties.result.now c.loop-party.party-index c.party-item.result asked c.args.platform.now.name
    c.loop-party-test.true c.party-item.is (sym c.contains_key.ensures ∙ c.if-contains_key.false) (c.loop-party.invariant asked)
