use Rattle.std.proofs.Common.{rules}
use Rattle.clear_cli.proofs.RecordLemmas.{no_events, one_event_more}
use Rattle.clear_cli.proofs.differences.lists_of.Goals as goal

pub loop-event-init : goal.loop-event-init
loop-event-init c = let start = no_events c.args.config.now 0 c.args.config.now.operators in search rules

pub loop-event-preserved : goal.loop-event-preserved
loop-event-preserved c =
    let one = one_event_more c.args.config.now c.args.events.now c.loop-event.event-index _ c.event-item.result c.event-item.is in
    search rules
