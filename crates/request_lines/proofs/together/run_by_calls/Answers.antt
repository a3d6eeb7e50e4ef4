use Rattle.std.proofs.Common.{◌≡◌, ℕ, ◌+◌, ◌^◌, List, ◌++◌, ◌∙◌, refl, ap, sym, inl, inr, subst, take, arith}
use Rattle.std.proofs.lemmas.List.{append-nil}
use Rattle.std.proofs.lemmas.Grind.{common_steps}
use Rattle.std.proofs.lemmas.Result.{err_from_is_err_and}
use Rattle.request_lines.proofs.AheadLemmas.{ahead_at_last, ahead_in}
use Rattle.request_lines.proofs.RunLemmas.{at_read, done, further, looked}
use Rattle.request_lines.proofs.together.run_by_calls.Goals as goal

none_taken : (xs ys : List ℕ) (n : ℕ) → n ≡ 0 → xs ++ take n ys ≡ xs
none_taken xs ys n e = ap (λ m. xs ++ take m ys) e ∙ append-nil xs

pub returns-in-Err-clause-told : goal.returns-in-Err-clause-told
returns-in-Err-clause-told g c =
    let v = c.loop-turn.invariant in record {
      calls = c.loop-turn.turn + 1;
      bytes = v.read;
      written = v.written;
      left = _;
      few = omega (arith, c.loop-turn-test.true);
      gave = subst (λ (xs : List ℕ). g.R.Source.reading.gives c.args.reader.now (c.loop-turn.turn + 1) xs c.read_into.new.reader) (append-nil v.read) (g.met.R.Source.gives_more _ _ _ _ _ _ _ v.given c.in-Err.ensures.err_gives);
      took = v.taken;
      ended = (refl, at_read _ _ _ _ _ v.under_way (inl c.in-Err.ensures.err));
    }

pub returns-in_err-finish_together-clause-told : goal.returns-in_err-finish_together-clause-told
returns-in_err-finish_together-clause-told g c =
    let p = err_from_is_err_and c.from_residual.result c.from_residual.ensures.1 in
    let v = c.loop-turn.invariant in
    let h = c.in_err-finish_together.ensures.err in
    let none = none_taken v.read c.read_into.new.buffer.items _ c.if-n-eq0.true in
    rw (p.1, p.2) (record {
      calls = c.loop-turn.turn + 1;
      bytes = v.read;
      written = v.written ++ h.text;
      left = h.left;
      few = omega (arith, c.loop-turn-test.true);
      gave = subst (λ (xs : List ℕ). g.R.Source.reading.gives c.args.reader.now (c.loop-turn.turn + 1) xs c.read_into.new.reader) none (g.met.R.Source.gives_more _ _ _ _ _ _ _ v.given c.in-Ok.ensures.gives);
      took = g.met.W.Sink.takes_more _ _ _ _ _ v.taken h.taken;
      ended = ahead_at_last _ g.met.A.Answerer.answers_more _ _ _ _ c.loop-turn.chained.answerer.now _ _ _ _ _ _ _ _ _ (c.in-Ok.ensures.end c.if-n-eq0.true) v.under_way c.as_slice.ensures.value
          (record {
            others = c.loop-turn.turn;
            earlier = v.read;
            last = _;
            between = c.loop-turn.reader;
            calls_are = refl;
            bytes_are = sym none;
            gave_earlier = v.given;
            gave_last = c.in-Ok.ensures.gives;
          }) refl h.stops;
    })

pub returns-then-n-eq0-clause-told : goal.returns-then-n-eq0-clause-told
returns-then-n-eq0-clause-told g c =
    let v = c.loop-turn.invariant in
    let e = c.in_ok-finish_together.ensures in record {
      calls = c.loop-turn.turn + 1;
      bytes = v.read;
      written = v.written ++ e.ok.text;
      left = _;
      few = omega (arith, c.loop-turn-test.true);
      gave = subst (λ (xs : List ℕ). g.R.Source.reading.gives c.args.reader.now (c.loop-turn.turn + 1) xs c.read_into.new.reader) (none_taken v.read c.read_into.new.buffer.items _ c.if-n-eq0.true) (g.met.R.Source.gives_more _ _ _ _ _ _ _ v.given c.in-Ok.ensures.gives);
      took = g.met.W.Sink.takes_more _ _ _ _ _ v.taken e.ok.taken;
      ended = (refl, done _ g.met.A.Answerer.answers_more _ _ _ _ _ _ _ _ _ _ _ v.under_way v.bytes_are c.as_slice.ensures.value e.ok.answered e.ok.lines_are);
    }

pub returns-in_err-feed_together-clause-told : goal.returns-in_err-feed_together-clause-told
returns-in_err-feed_together-clause-told g c =
    let p = err_from_is_err_and c.from_residual-in_err-feed_together.result c.from_residual-in_err-feed_together.ensures.1 in
    let v = c.loop-turn.invariant in
    let h = c.in_err-feed_together.ensures.err in
    let under_way = looked _ g.met.A.Answerer.answers_more _ _ _ _ _ _ _ v.under_way c.look_ahead.ensures in
    let last : g.R.Source.reading.gives c.loop-turn.reader 1 c.first-chunk.result.now c.read_into.new.reader = rw c.first-chunk.ensures c.in-Ok.ensures.gives in
    rw (p.1, p.2) (record {
      calls = c.loop-turn.turn + 1;
      bytes = v.read ++ c.first-chunk.result.now;
      written = v.written ++ h.text;
      left = h.left;
      few = omega (arith, c.loop-turn-test.true);
      gave = g.met.R.Source.gives_more _ _ _ _ _ _ _ v.given last;
      took = g.met.W.Sink.takes_more _ _ _ _ _ v.taken h.taken;
      ended = ahead_in _ g.met.A.Answerer.answers_more _ _ _ _ c.look_ahead.new.self _ _ _ _ _ _ _ _ _ _ refl under_way
          (record {
            others = c.loop-turn.turn;
            earlier = v.read;
            last = c.first-chunk.result.now;
            between = c.loop-turn.reader;
            calls_are = refl;
            bytes_are = refl;
            gave_earlier = v.given;
            gave_last = last;
          }) refl h.stops;
    })

pub loop-turn-preserved : goal.loop-turn-preserved
loop-turn-preserved g c =
    let v = c.loop-turn.invariant in
    let e = c.in_ok-feed_together.ensures in
    let more = c.first-chunk.result.now in record {
      read = v.read ++ more;
      written = v.written ++ e.ok.text;
      given = rw c.first-chunk.ensures (g.met.R.Source.gives_more _ _ _ _ _ _ _ v.given c.in-Ok.ensures.gives);
      taken = g.met.W.Sink.takes_more _ _ _ _ _ v.taken e.ok.taken;
      under_way = further _ g.met.A.Answerer.answers_more _ _ _ _ more _ _ _ _ _ _ (looked _ g.met.A.Answerer.answers_more _ _ _ _ _ _ _ v.under_way c.look_ahead.ensures) e.ok.answered e.part e.short e.each_short e.ok.lines_are e.ok.written_is;
      waits = e.waits;
      writer = e.writer ∙ v.writer;
      answerer = e.answerer ∙ v.answerer;
      buffer_is = c.read_into.ensures.same ∙ v.buffer_is;
      bytes_are = grind (arith, common_steps);
      bound = grind (arith, common_steps);
      few = grind (arith, common_steps);
      reader_unfailed = c.in-Ok.ensures.ok ∙ v.reader_unfailed;
      writer_unfailed = e.ok.unfailed ∙ v.writer_unfailed;
    }

pub returns-clause-told : goal.returns-clause-told
returns-clause-told g c =
    let v = c.loop-turn.invariant in
    let all : c.loop-turn.turn ≡ 2 ^ 40 = omega (arith, c.loop-turn-test.false, c.loop-turn.auto.turn-end) in record {
      calls = c.loop-turn.turn;
      bytes = v.read;
      written = v.written;
      left = _;
      few = omega (arith, all);
      gave = v.given;
      took = v.taken;
      ended = (refl, at_read _ _ _ _ _ v.under_way (inr all));
    }
