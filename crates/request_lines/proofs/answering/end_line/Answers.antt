use Rattle.std.proofs.Common.{◌≡◌, [], ◌∷◌, ◌++◌, refl, arith, ◌∙◌, append_assoc}
use Rattle.std.proofs.lemmas.Bool.Decides.{nat_tests}
use Rattle.std.proofs.lemmas.Grind.{common_steps}
use Rattle.std.proofs.lemmas.Result.{err_from_is_err_and, IfErr-weaker}
use Rattle.request_lines.specs.Inner.Progress.{lines_from}
use Rattle.request_lines.proofs.RunLemmas.{stops_at_line, stops_at_keep, keeping_writes_none}
use Rattle.request_lines.proofs.answering.end_line.Goals as goal

pub returns-then-end-le-MOST_LINE_BYTES-clause-err : goal.returns-then-end-le-MOST_LINE_BYTES-clause-err
returns-then-end-le-MOST_LINE_BYTES-clause-err g c =
    let none : c.args.part.now.items ≡ [] = grind (arith, common_steps, nat_tests) in
    let same : c.args.end.now ≡ c.args.part.now.items ++ c.args.end.now = rw none refl in
    IfErr-weaker c.finish_line.result _ _ (λ fault h others. let stopped = h (lines_from [] others) in record {
      text = stopped.text;
      taken = stopped.taken;
      stops = stops_at_line _ c.args.part.now.items c.args.end.now _ _ _ _ _ c.requires.end same others stopped.stops;
      has_failed = stopped.has_failed;
      unfailed = stopped.unfailed;
      counted = stopped.counted;
    }) c.finish_line.ensures.err

pub returns-in_err-keep-clause-err : goal.returns-in_err-keep-clause-err
returns-in_err-keep-clause-err g c =
    let p = err_from_is_err_and c.from_residual.result c.from_residual.ensures.1 in
    let end = c.args.end.now in
    let h = c.in_err-keep.ensures.err in
    rw (p.1, p.2) (λ others. record {
      text = [];
      taken = g.met.W.Sink.takes_none _;
      stops = rw (append_assoc end (10 ∷ []) others)
          (stops_at_keep _ _ c.args.part.now.items end _ _ _ (g.met.A.Answerer.answers_none _) c.requires.end h (10 ∷ others));
      has_failed = λ e. absurd (keeping_writes_none _ _ _ h e);
      unfailed = λ _. refl;
      counted = λ _. omega arith;
    })

pub returns-in_err-finish_line-clause-err : goal.returns-in_err-finish_line-clause-err
returns-in_err-finish_line-clause-err g c =
    let p = err_from_is_err_and c.from_residual-in_err-finish_line.result c.from_residual-in_err-finish_line.ensures.1 in
    let same = c.as_slice.ensures.value ∙ c.in_ok-keep.ensures.part in
    rw (p.1, p.2) (λ others. let h = c.in_err-finish_line.ensures.err (lines_from [] others) in record {
      text = h.text;
      taken = h.taken;
      stops = stops_at_line _ c.args.part.now.items c.args.end.now _ _ _ _ _ c.requires.end same others h.stops;
      has_failed = h.has_failed;
      unfailed = h.unfailed;
      counted = h.counted;
    })
