use Rattle.line_streams.specs.State.{empty_under}
use Rattle.line_streams.specs.Stream.{stream_rule}
use Rattle.kept_answers.proofs.RunLemmas.{leads_one_way, runs_are_one}
use Rattle.kept_house.proofs.laws.streams_run_as_one.Goals as goal

pub returns : goal.returns
returns c = λ config first file runs kept are. runs_are_one stream_rule (empty_under config) first file runs (leads_one_way stream_rule c.streams_are_answered_one_way.ensures) kept are
