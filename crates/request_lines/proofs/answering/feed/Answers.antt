use Rattle.std.proofs.Common.{◌≡◌, ℕ, ◌+◌, List, [], ◌∷◌, ◌++◌, ◌∙◌, ap, sym, length, arith, append_assoc, length-append}
use Rattle.std.proofs.lemmas.List.{append-nil}
use Rattle.std.proofs.lemmas.List.Elements.{All-append}
use Rattle.std.proofs.lemmas.Result.{err_from_is_err_and, on_ok_weaker, IfErr-weaker}
use Rattle.request_lines.specs.Lines.{IsShort, with_newline}
use Rattle.request_lines.specs.Inner.Progress.{whole_from}
use Rattle.request_lines.proofs.RunLemmas.{one_short, whole_kept, rest_kept, whole_ended, rest_ended, stops_after, stops_at_keep, keeping_writes_none}
use Rattle.request_lines.proofs.answering.feed.Goals as goal

pub returns-in_err-end_line-clause-err : goal.returns-in_err-end_line-clause-err
returns-in_err-end_line-clause-err g c =
    let p = err_from_is_err_and c.from_residual.result c.from_residual.ensures.1 in
    let v = c.loop-line.invariant in
    let others = c.in-Some.others.now in
    let h = c.in_err-end_line.ensures.err others in
    rw (p.1, p.2) (record {
      text = v.answered.text ++ h.text;
      taken = g.met.W.Sink.takes_more _ _ _ _ _ v.answered.taken h.taken;
      stops = stops_after _ g.met.A.Answerer.answers_more c.args.answerer.now c.loop-line.answerer c.end_line.new.answerer c.args.part.now.items c.args.bytes.now v.fed (with_newline c.in-Some.line.now ++ others) c.loop-line.part.items
          _ _ _ _ _ v.answered.text h.text (v.cut ∙ ap (λ (ys : List ℕ). v.fed ++ ys) c.in-Some.ensures.0) v.answered.answered v.each_short v.part_is v.answered.lines_are v.answered.written_is h.stops;
      has_failed = h.has_failed;
      unfailed = λ e. h.unfailed e ∙ v.answered.unfailed;
      counted = λ e. omega (arith, h.counted e, v.answered.written_is, length-append v.answered.text h.text);
    })

pub loop-line-preserved : goal.loop-line-preserved
loop-line-preserved g c =
    let e = c.in_ok-end_line.ensures in
    let v = c.loop-line.invariant in
    let line = c.in-Some.line.now in
    let ys = with_newline line in
    let others = c.in-Some.others.now in
    let p = c.args.part.now.items in
    let part = c.loop-line.part.items in
    let whole = whole_ended p v.fed line part v.part_is c.in-Some.ensures.1 in
    let count : length (whole_from p (v.fed ++ ys)) ≡ length (whole_from p v.fed) + 1 = ap length whole ∙ length-append (whole_from p v.fed) ((part ++ line) ∷ []) in
    record {
      fed = v.fed ++ ys;
      cut = v.cut ∙ ap (λ (zs : List ℕ). v.fed ++ zs) c.in-Some.ensures.0 ∙ sym (append_assoc v.fed ys others);
      answered = record {
        text = v.answered.text ++ e.ok.text;
        taken = g.met.W.Sink.takes_more _ _ _ _ _ v.answered.taken e.ok.taken;
        answered = rw whole (g.met.A.Answerer.answers_more _ _ _ _ _ _ _ v.answered.answered e.ok.answered);
        written_is = omega (arith, e.ok.written_is, v.answered.written_is, length-append v.answered.text e.ok.text);
        lines_are = omega (arith, count, e.ok.lines_are, v.answered.lines_are);
        unfailed = e.ok.unfailed ∙ v.answered.unfailed;
      };
      part_is = e.part ∙ sym (rest_ended p v.fed line part v.part_is c.in-Some.ensures.1);
      short = rw e.part (omega arith);
      each_short = rw whole (All-append IsShort (whole_from p v.fed) ((part ++ line) ∷ []) v.each_short (one_short (part ++ line) e.line_short));
      few = omega (arith, e.ok.lines_are, v.few, length-append v.fed ys, length-append line (10 ∷ []));
    }

pub returns-clause-ok : goal.returns-clause-ok
returns-clause-ok g c =
    let v = c.loop-line.invariant in
    let kept = whole_kept c.args.part.now.items v.fed c.loop-line.rest.now c.loop-line.part.items c.args.bytes.now v.cut v.part_is c.in_default.ensures in
    on_ok_weaker c.keep.result (λ _. rw kept v.answered) c.keep.ensures.short

pub returns-clause-part : goal.returns-clause-part
returns-clause-part g c =
    let v = c.loop-line.invariant in
    let kept = rest_kept c.args.part.now.items v.fed c.loop-line.rest.now c.loop-line.part.items c.args.bytes.now v.cut v.part_is c.in_default.ensures in
    on_ok_weaker c.keep.result (λ k. k ∙ sym kept) c.keep.ensures.part

pub returns-clause-each_short : goal.returns-clause-each_short
returns-clause-each_short g c =
    let v = c.loop-line.invariant in
    let kept = whole_kept c.args.part.now.items v.fed c.loop-line.rest.now c.loop-line.part.items c.args.bytes.now v.cut v.part_is c.in_default.ensures in
    on_ok_weaker c.keep.result (λ _. rw kept v.each_short) c.keep.ensures.short

pub returns-clause-err : goal.returns-clause-err
returns-clause-err g c =
    let v = c.loop-line.invariant in
    let rest = c.loop-line.rest.now in
    let part = c.loop-line.part.items in
    IfErr-weaker c.keep.result _ _ (λ fault h. record {
      text = v.answered.text ++ [];
      taken = g.met.W.Sink.takes_more _ _ _ _ _ v.answered.taken (g.met.W.Sink.takes_none _);
      stops = stops_after _ g.met.A.Answerer.answers_more c.args.answerer.now c.loop-line.answerer c.loop-line.answerer c.args.part.now.items c.args.bytes.now v.fed rest part
          _ _ _ _ _ v.answered.text [] v.cut v.answered.answered v.each_short v.part_is v.answered.lines_are v.answered.written_is
          (rw (append-nil rest) at (stops_at_keep g.A.Answerer.rule c.loop-line.answerer part rest c.loop-line.progress.lines c.loop-line.progress.written fault (g.met.A.Answerer.answers_none _) c.in_default.ensures h []));
      has_failed = λ e. absurd (keeping_writes_none _ _ _ h e);
      unfailed = λ _. v.answered.unfailed;
      counted = λ _. omega (arith, v.answered.written_is, length-append v.answered.text []);
    }) c.keep.ensures.err
