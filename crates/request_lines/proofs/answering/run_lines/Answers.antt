use Rattle.std.proofs.Common.{[], arith}
use Rattle.request_lines.proofs.RunLemmas.{stops_for_memory}
use Rattle.request_lines.proofs.answering.run_lines.Goals as goal

pub returns-in-Err-clause-told : goal.returns-in-Err-clause-told
returns-in-Err-clause-told g c =
    (0, [], [], omega arith, g.met.R.Source.gives_none _, g.met.W.Sink.takes_none _, stops_for_memory _ _ _ (g.met.A.Answerer.answers_none _))
