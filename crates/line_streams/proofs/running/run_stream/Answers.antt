use Rattle.std.proofs.Common.{refl}
use Rattle.request_lines.proofs.SeenRuns.{Shows, told_seen}
use Rattle.line_streams.specs.State.{state_of}
use Rattle.line_streams.specs.Stream.{stream_rule}
use Rattle.line_streams.specs.declared.stream.Stream.{Stream}
use Rattle.line_streams.proofs.running.run_stream.Goals as goal

pub returns-clause-told : goal.returns-clause-told
returns-clause-told g c =
    let t = c.run_lines.ensures.told in
    let Stays : Stream → Stream → Type 0 = λ s a. Unit {0} in
    let shows : (s : Stream) → Shows _ stream_rule state_of (Stays s) =
    λ s. record { answers = λ a b lines text k h. (tt, h); gives_up = λ a b line k h. (tt, h) } in
    (t.0, t.1, t.2, t.3, t.4, t.5, told_seen _ _ _ Stays shows c.run_lines.result t.0 t.1 _ _ _ _ t.2 _ t.6 tt refl)
