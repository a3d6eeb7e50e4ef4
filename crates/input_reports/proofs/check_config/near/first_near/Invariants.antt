use Rattle.std.proofs.Common.{◌≡◌, drop, find}
use Rattle.input_reports.specs.check_config.Known.{is_near}
use Rattle.input_reports.proofs.check_config.near.first_near.Given as goal

abbrev pub invariant-loop-name : goal.invariant-loop-name
invariant-loop-name l = find (is_near l.key) l.names ≡ find (is_near l.key) (drop l.name-index l.names)
