use Rattle.std.proofs.Common.{[]}
use Rattle.request_lines.specs.Script.{script_rule}
use Rattle.kept_answers.proofs.RunLemmas.{leads_one_way, runs_are_one}
use Rattle.kept_answers.proofs.ScriptLemmas.{scripts_are_determined}
use Rattle.kept_answers.proofs.laws.script_runs_are_one.Goals as goal

pub returns : goal.returns
returns c = λ config first file runs kept are.
    let one = runs_are_one (script_rule config) [] first file runs (leads_one_way (script_rule config) (scripts_are_determined config)) kept are in
    (one.0, one.1, one.2, one.3.1.0)
