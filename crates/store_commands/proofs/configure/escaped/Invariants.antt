use Rattle.std.proofs.Common.{◌≡◌, take}
use Rattle.store_commands.specs.Change.{escaped}
use Rattle.store_commands.proofs.configure.escaped.Given as goal

abbrev pub invariant-loop-byte : goal.invariant-loop-byte
invariant-loop-byte l = l.bytes.items ≡ escaped (take l.byte-index l.text)
