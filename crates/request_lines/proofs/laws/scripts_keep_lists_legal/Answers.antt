use Rattle.request_lines.proofs.ScriptLegal.{scripts_keep_lists_legal}
use Rattle.request_lines.proofs.laws.scripts_keep_lists_legal.Goals as goal

pub returns : goal.returns
returns c = scripts_keep_lists_legal c.commands_keep_lists_legal.ensures
