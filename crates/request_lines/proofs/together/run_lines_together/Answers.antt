use Rattle.std.proofs.Common.{◌≡◌, [], true, false, refl, rules, sym, arith}
use Rattle.request_lines.specs.Answering.{is_write_fault}
use Rattle.request_lines.proofs.AheadLemmas.{err_at, ok_at, run_at}
use Rattle.request_lines.proofs.RunLemmas.{stops_for_memory}
use Rattle.request_lines.proofs.together.run_lines_together.Goals as goal

pub returns-in-Err-clause-told : goal.returns-in-Err-clause-told
returns-in-Err-clause-told g c = record {
  calls = 0;
  bytes = [];
  written = [];
  left = _;
  few = omega arith;
  gave = g.met.R.Source.gives_none _;
  took = g.met.W.Sink.takes_none _;
  ended = (refl, stops_for_memory _ _ _ (g.met.A.Answerer.answers_none _));
}

pub returns-clause-told : goal.returns-clause-told
returns-clause-told g c =
    let e = c.run_by_calls.ensures in
    run_at _ _ _ _ _ _ _ _ _ _ _ _ e.told (search (rules, sym e.answerer)) (search (rules, sym e.writer))

pub returns-clause-unfailed : goal.returns-clause-unfailed
returns-clause-unfailed g c =
    let e = c.run_by_calls.ensures in
    ok_at c.run_by_calls.result (λ writer. g.W.Sink.writing.failed writer ≡ g.W.Sink.writing.failed c.args.writer.now) _ _ e.unfailed (search (rules, sym e.writer))

pub returns-clause-failed : goal.returns-clause-failed
returns-clause-failed g c =
    let e = c.run_by_calls.ensures in
    err_at c.run_by_calls.result (λ writer fault. is_write_fault fault ≡ true → g.W.Sink.writing.failed writer ≡ true) _ _ e.failed (search (rules, sym e.writer))

pub returns-clause-kept : goal.returns-clause-kept
returns-clause-kept g c =
    let e = c.run_by_calls.ensures in
    err_at c.run_by_calls.result (λ writer fault. is_write_fault fault ≡ false → g.W.Sink.writing.failed writer ≡ g.W.Sink.writing.failed c.args.writer.now) _ _ e.kept (search (rules, sym e.writer))
