use Rattle.std.proofs.Common.{rules}
use Rattle.clear_cli.proofs.ReadingLemmas.{stays}
use Rattle.clear_cli.proofs.schedule_file.fault_with.Goals as goal

pub returns-then-is_some : goal.returns-then-is_some
returns-then-is_some c = λ lines is stands. stays c.args.config.now lines c.args.line.now c.args.schedule.now c.args.fault (search rules) stands
