use Rattle.std.proofs.Common.{◌≡◌, ◌++◌, map}
use Rattle.house_core.specs.Start.{call_of}
use Rattle.house_core.proofs.running_call.waiting_calls.Given as goal

abbrev pub invariant-loop-command : goal.invariant-loop-command
invariant-loop-command l = l.calls.items ++ map (call_of l.config) l.command-iterator.rest.items ≡ map (call_of l.config) l.fn.commands.items
