use Rattle.std.proofs.Common.{◌≡◌, ◌++◌, length}
use Rattle.house_core.specs.Events.{events_of}
use Rattle.house_core.specs.OneHouse.{after, finished}
use Rattle.house_core.specs.Start.{start}
use Rattle.house_core.proofs.replaying.replay.Given as goal

abbrev pub invariant-loop-step : goal.invariant-loop-step
invariant-loop-step l = record {
  world : after l.world l.rest ≡ after (start l.config l.fn.commands.items) l.steps;
  finished : l.trace.finished.items ++ finished l.world l.rest ≡ finished (start l.config l.fn.commands.items) l.steps;
  events : l.trace.events.items ≡ events_of l.world;
}

abbrev pub decreases-loop-step : goal.decreases-loop-step
decreases-loop-step l = length l.rest
