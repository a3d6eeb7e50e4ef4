use Rattle.std.proofs.Common.{refl}
use Rattle.kept_answers.specs.Runs.{LeadsOneWay}
use Rattle.kept_answers.proofs.RunLemmas.{runs_are_one}
use Rattle.line_streams.specs.State.{empty_under}
use Rattle.line_causes.specs.AnswersWithCauses.{causes_rule}
use Rattle.line_causes.specs.Inner.TurnsWithCauses.{more_with_causes}
use Rattle.store_commands.proofs.laws.streams_with_causes_run_as_one.Goals as goal

pub returns : goal.returns
returns c =
    let leads : LeadsOneWay causes_rule = record {
      one_end = λ start lines text other end last told again. c.causes_lead_one_way.ensures start lines text other end last told again;
      no_lines = λ start. (refl, refl);
      more_lines = λ start middle end some others text more told then. more_with_causes start middle end some others text more told then;
    } in
    λ config first file runs kept are. runs_are_one causes_rule (empty_under config) first file runs leads kept are
