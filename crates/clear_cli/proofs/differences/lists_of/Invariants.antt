use Rattle.std.proofs.Common.{◌≡◌, map, take}
use Rattle.clear_cli.specs.Inner.RecordLists.{record_lists}
use Rattle.clear_cli.proofs.differences.lists_of.Given as goal

abbrev pub invariant-loop-event : goal.invariant-loop-event
invariant-loop-event l = map (λ list. list.items) l.lists.items ≡ record_lists l.config (take l.event-index l.events) 0 l.config.operators
