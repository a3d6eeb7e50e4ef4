use Rattle.std.proofs.Common.{refl}
use Rattle.request_lines.proofs.SeenRuns.{Shows}
use Rattle.request_lines.proofs.SeenTogether.{seen_together}
use Rattle.line_streams.proofs.running.run_stream_together.Goals as goal

pub run_lines_together-requires-clause-ready : goal.run_lines_together-requires-clause-ready
run_lines_together-requires-clause-ready g c = g.met.A.LineStream.may_look_ahead

pub returns-clause-told : goal.returns-clause-told
returns-clause-told g c =
    let Stays : _ → _ → Type 0 = λ s a. Unit {0} in
    let shows : (s : _) → Shows _ g.A.LineStream.state_rule g.A.LineStream.state (Stays s) =
    λ s. record {
      answers = λ a b lines text k h. (tt, g.met.A.LineStream.answers_in_state a b lines text h);
      gives_up = λ a b line k h. (tt, g.met.A.LineStream.gives_up_in_state a b line h);
    } in
    (seen_together _ _ _ Stays shows _ _ _ _ _ _ _ _ c.run_lines_together.result c.run_lines_together.ensures.told tt).1 _ refl
