use Rattle.std.proofs.Common.{◌≡◌, ℕ, ◌+◌, ◌^◌, List, ◌++◌, ◌∙◌, refl, ap, inl, inr, subst, take, arith}
use Rattle.std.proofs.lemmas.List.{append-nil}
use Rattle.std.proofs.lemmas.Grind.{common_steps}
use Rattle.std.proofs.lemmas.Result.{err_from_is_err_and}
use Rattle.request_lines.proofs.RunLemmas.{at_read, done, fault_in, fault_at_last, further}
use Rattle.request_lines.proofs.answering.run_by_parts.Goals as goal

none_taken : (xs ys : List ℕ) (n : ℕ) → n ≡ 0 → xs ++ take n ys ≡ xs
none_taken xs ys n e = ap (λ m. xs ++ take m ys) e ∙ append-nil xs

pub returns-in-Err-clause-told : goal.returns-in-Err-clause-told
returns-in-Err-clause-told g c =
    let v = c.loop-turn.invariant in (
      c.loop-turn.turn + 1,
      v.read,
      v.written,
      omega (arith, c.loop-turn-test.true),
      subst (λ (xs : List ℕ). g.R.Source.reading.gives c.args.reader.now (c.loop-turn.turn + 1) xs c.read_into.new.reader) (append-nil v.read) (g.met.R.Source.gives_more _ _ _ _ _ _ _ v.given c.in-Err.ensures.err_gives),
      v.taken,
      at_read _ _ _ _ _ v.under_way (inl c.in-Err.ensures.err),
    )

pub returns-in_err-finish_last-clause-told : goal.returns-in_err-finish_last-clause-told
returns-in_err-finish_last-clause-told g c =
    let p = err_from_is_err_and c.from_residual.result c.from_residual.ensures.1 in
    let v = c.loop-turn.invariant in
    let h = c.in_err-finish_last.ensures.err in
    rw (p.1, p.2) (
      c.loop-turn.turn + 1,
      v.read,
      v.written ++ h.text,
      omega (arith, c.loop-turn-test.true),
      subst (λ (xs : List ℕ). g.R.Source.reading.gives c.args.reader.now (c.loop-turn.turn + 1) xs c.read_into.new.reader) (none_taken v.read c.read_into.new.buffer.items _ c.if-n-eq0.true) (g.met.R.Source.gives_more _ _ _ _ _ _ _ v.given c.in-Ok.ensures.gives),
      g.met.W.Sink.takes_more _ _ _ _ _ v.taken h.taken,
      fault_at_last _ g.met.A.Answerer.answers_more _ c.loop-turn.answerer _ _ _ _ _ _ _ _ (c.in-Ok.ensures.end c.if-n-eq0.true) v.under_way c.as_slice.ensures.value h.stops,
    )

pub returns-then-n-eq0-clause-told : goal.returns-then-n-eq0-clause-told
returns-then-n-eq0-clause-told g c =
    let v = c.loop-turn.invariant in
    let e = c.in_ok-finish_last.ensures in (
      c.loop-turn.turn + 1,
      v.read,
      v.written ++ e.ok.text,
      omega (arith, c.loop-turn-test.true),
      subst (λ (xs : List ℕ). g.R.Source.reading.gives c.args.reader.now (c.loop-turn.turn + 1) xs c.read_into.new.reader) (none_taken v.read c.read_into.new.buffer.items _ c.if-n-eq0.true) (g.met.R.Source.gives_more _ _ _ _ _ _ _ v.given c.in-Ok.ensures.gives),
      g.met.W.Sink.takes_more _ _ _ _ _ v.taken e.ok.taken,
      done _ g.met.A.Answerer.answers_more _ _ _ _ _ _ _ _ _ _ _ v.under_way v.bytes_are c.as_slice.ensures.value e.ok.answered e.ok.lines_are,
    )

pub returns-in_err-feed-clause-told : goal.returns-in_err-feed-clause-told
returns-in_err-feed-clause-told g c =
    let p = err_from_is_err_and c.from_residual-in_err-feed.result c.from_residual-in_err-feed.ensures.1 in
    let v = c.loop-turn.invariant in
    let h = c.in_err-feed.ensures.err in
    rw (p.1, p.2) (
      c.loop-turn.turn + 1,
      v.read ++ c.first-chunk.result.now,
      v.written ++ h.text,
      omega (arith, c.loop-turn-test.true),
      rw c.first-chunk.ensures (g.met.R.Source.gives_more _ _ _ _ _ _ _ v.given c.in-Ok.ensures.gives),
      g.met.W.Sink.takes_more _ _ _ _ _ v.taken h.taken,
      fault_in _ g.met.A.Answerer.answers_more _ c.loop-turn.answerer _ _ _ _ _ _ _ _ _ refl v.under_way h.stops,
    )

pub loop-turn-preserved : goal.loop-turn-preserved
loop-turn-preserved g c =
    let v = c.loop-turn.invariant in
    let e = c.in_ok-feed.ensures in
    let more = c.first-chunk.result.now in record {
      read = v.read ++ more;
      written = v.written ++ e.ok.text;
      given = rw c.first-chunk.ensures (g.met.R.Source.gives_more _ _ _ _ _ _ _ v.given c.in-Ok.ensures.gives);
      taken = g.met.W.Sink.takes_more _ _ _ _ _ v.taken e.ok.taken;
      under_way = further _ g.met.A.Answerer.answers_more _ _ _ _ more _ _ _ _ _ _ v.under_way e.ok.answered e.part e.short e.each_short e.ok.lines_are e.ok.written_is;
      buffer_is = c.read_into.ensures.same ∙ v.buffer_is;
      bytes_are = grind (arith, common_steps);
      bound = grind (arith, common_steps);
      few = grind (arith, common_steps);
      reader_unfailed = c.in-Ok.ensures.ok ∙ v.reader_unfailed;
      writer_unfailed = e.ok.unfailed ∙ v.writer_unfailed;
    }

pub returns-clause-told : goal.returns-clause-told
returns-clause-told g c =
    let v = c.loop-turn.invariant in
    let all : c.loop-turn.turn ≡ 2 ^ 40 = omega (arith, c.loop-turn-test.false, c.loop-turn.auto.turn-end) in
    (c.loop-turn.turn, v.read, v.written, omega (arith, all), v.given, v.taken, at_read _ _ _ _ _ v.under_way (inr all))
