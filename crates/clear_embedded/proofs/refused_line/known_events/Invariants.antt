use Rattle.std.proofs.Common.{◌≡◌, ◌++◌}
use Rattle.line_streams.specs.State.{state_of}
use Rattle.clear_embedded.proofs.refused_line.known_events.Given as goal

-- the events that are known and those that are left are all
abbrev pub invariant-loop-event : goal.invariant-loop-event
invariant-loop-event l = l.known ++ l.event-iterator.rest.items ≡ (state_of l.stream).house.events
