use Rattle.command_line.proofs.ArgumentLemmas.{after_is}
use Rattle.command_line.proofs.arguments.after.Goals as goal

pub returns : goal.returns
returns c = after_is c.args.beginning.now c.args.text.now c.strip_prefix.result c.strip_prefix.ensures.cases
