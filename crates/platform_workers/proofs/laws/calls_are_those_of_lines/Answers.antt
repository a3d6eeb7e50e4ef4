use Rattle.platform_workers.proofs.CallLemmas.{calls_of_lines}
use Rattle.platform_workers.proofs.laws.calls_are_those_of_lines.Goals as goal

pub returns : goal.returns
returns c = calls_of_lines
