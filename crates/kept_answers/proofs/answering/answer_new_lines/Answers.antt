use Rattle.std.proofs.Common.{◌≡◌, ℕ, ◌+◌, ◌^◌, List, [], ◌∷◌, ◌++◌, length, refl, sym, ap, ◌∙◌, subst, arith}
use Rattle.std.specs.Prelude.{IsTrue}
use Rattle.std.proofs.lemmas.List.{append-nil}
use Rattle.request_lines.specs.Lines.{AreLines}
use Rattle.kept_answers.proofs.KeptLemmas.{all_kept, answers_sent, at_err, at_rest, at_stop, either, gone_on, next_part, no_lines, none_lost, nothing_sent, split}
use Rattle.kept_answers.proofs.answering.answer_new_lines.Goals as goal

-- no more bytes came
none_more : (xs more : List ℕ) (n : ℕ) → length more ≡ n → n ≡ 0 → xs ++ more ≡ xs
none_more xs [] n size none = append-nil xs
none_more xs (byte ∷ more) n size none = absurd (omega (arith, size, none))

pub returns-in_err-scratch-clause-told : goal.returns-in_err-scratch-clause-told
returns-in_err-scratch-clause-told g c =
    let found = split [] in (
      0,
      [],
      found.whole,
      found.part,
      [],
      omega arith,
      g.met.R.Source.gives_none _,
      found.are,
      g.met.W.Sink.takes_none _,
      at_err _ c.from_residual.result c.from_residual.ensures.0 (nothing_sent _ _ _ _ _ _ (g.met.A.Answerer.answers_none _) (λ clean. none_lost _ _ _ c.requires.durable)),
    )

pub loop-turn-init : goal.loop-turn-init
loop-turn-init g c =
    record {
      read = [];
      written = [];
      given = g.met.R.Source.gives_none _;
      taken = g.met.W.Sink.takes_none _;
      under_way = record {
        whole = [];
        lines = subst (λ (l : List ℕ). AreLines [] [] l) (sym c.new-pending.ensures) no_lines;
        answers = g.met.A.Answerer.answers_none _;
        kept = λ clean. sym (append-nil _);
      };
      settled = c.requires;
      clean = refl;
      short = omega (arith, ap length c.new-pending.ensures);
    }

pub returns-in_err-count-clause-told : goal.returns-in_err-count-clause-told
returns-in_err-count-clause-told g c =
    let v = c.loop-turn.invariant in
    let failed = c.in_err-count.ensures.err in (
      c.loop-turn.turn + failed.0,
      v.read,
      v.under_way.whole,
      c.loop-turn.pending,
      v.written,
      omega (arith, c.loop-turn-test.true, failed.1),
      subst (λ (xs : List ℕ). g.R.Source.reading.gives c.args.reader.now (c.loop-turn.turn + failed.0) xs c.read.new.reader) (append-nil v.read) (g.met.R.Source.gives_more _ _ _ _ _ _ _ v.given failed.2),
      v.under_way.lines,
      v.taken,
      at_err _ c.from_residual-in_err-count.result c.from_residual-in_err-count.ensures.0 (at_rest _ g.met.A.Answerer.answers_more g.met.A.Answerer.answers_none _ _ _ _ _ _ _ _ _ v.under_way v.settled.durable),
    )

pub returns-then-count-eq0-clause-told : goal.returns-then-count-eq0-clause-told
returns-then-count-eq0-clause-told g c =
    let v = c.loop-turn.invariant in
    let some = c.in_ok-count.ensures.some in
    let same : c.read.new.self ≡ c.loop-turn.pending = some.2 ∙ none_more c.loop-turn.pending some.0 _ some.3 c.if-count-eq0.true in (
      c.loop-turn.turn + 1,
      v.read,
      v.under_way.whole,
      c.loop-turn.pending,
      v.written,
      omega (arith, c.loop-turn-test.true),
      subst (λ (xs : List ℕ). g.R.Source.reading.gives c.args.reader.now (c.loop-turn.turn + 1) xs c.read.new.reader) (none_more v.read some.0 _ some.3 c.if-count-eq0.true) (g.met.R.Source.gives_more _ _ _ _ _ _ _ v.given some.1),
      v.under_way.lines,
      v.taken,
      either c.whole_input.result c.whole_input.ensures.ok
          (λ none. (sym same ∙ sym c.bytes.ensures ∙ none, c.in_ok-count.ensures.end c.if-count-eq0.true, v.under_way.answers, v.under_way.kept))
          (at_rest _ g.met.A.Answerer.answers_more g.met.A.Answerer.answers_none _ _ _ _ _ _ _ _ _ v.under_way v.settled.durable),
    )

pub returns-in_err-answer_pending-clause-told : goal.returns-in_err-answer_pending-clause-told
returns-in_err-answer_pending-clause-told g c =
    let v = c.loop-turn.invariant in
    let some = c.in_ok-count.ensures.some in
    let chunk = some.0 in
    let told = c.in_err-answer_pending.ensures.told in
    let lines = subst (λ (l : List ℕ). AreLines l told.0 told.1) some.2 told.3 in (
      c.loop-turn.turn + 1,
      v.read ++ chunk,
      v.under_way.whole ++ told.0,
      told.1,
      v.written ++ told.2,
      omega (arith, c.loop-turn-test.true),
      g.met.R.Source.gives_more _ _ _ _ _ _ _ v.given some.1,
      next_part _ _ _ _ _ _ v.under_way.lines lines,
      g.met.W.Sink.takes_more _ _ _ _ _ v.taken told.4,
      at_err _ c.from_residual-in_err-answer_pending.result c.from_residual-in_err-answer_pending.ensures.0
          (at_stop _ g.met.A.Answerer.answers_more _ _ _ _ _ _ _ _ _ _ _ _ v.under_way (λ clean. subst IsTrue c.in_err-answer_pending.ensures.clean clean) told.5),
    )

pub returns-then-len-gt-MOST_LINE_BYTES-clause-told : goal.returns-then-len-gt-MOST_LINE_BYTES-clause-told
returns-then-len-gt-MOST_LINE_BYTES-clause-told g c =
    let v = c.loop-turn.invariant in
    let some = c.in_ok-count.ensures.some in
    let chunk = some.0 in
    let told = c.in_ok-answer_pending.ensures.told in
    let lines = subst (λ (l : List ℕ). AreLines l told.0 told.1) some.2 told.3 in (
      c.loop-turn.turn + 1,
      v.read ++ chunk,
      v.under_way.whole ++ told.0,
      told.1,
      v.written ++ told.2,
      omega (arith, c.loop-turn-test.true),
      g.met.R.Source.gives_more _ _ _ _ _ _ _ v.given some.1,
      next_part _ _ _ _ _ _ v.under_way.lines lines,
      g.met.W.Sink.takes_more _ _ _ _ _ v.taken told.4,
      at_stop _ g.met.A.Answerer.answers_more _ _ _ _ _ _ _ _ _ _ _ _ v.under_way (λ clean. subst IsTrue c.in_ok-answer_pending.ensures.clean clean)
          (answers_sent _ _ c.answer_pending.new.answerer _ _ _ told.0 told.2 told.2 [] told.5.1 (sym (append-nil told.2)) (λ clean. all_kept _ _ _ _ _ c.in_ok-answer_pending.ensures.settled.durable (told.5.2 clean) (omega arith))),
    )

pub loop-turn-preserved : goal.loop-turn-preserved
loop-turn-preserved g c =
    let v = c.loop-turn.invariant in
    let some = c.in_ok-count.ensures.some in
    let chunk = some.0 in
    let told = c.in_ok-answer_pending.ensures.told in
    let lines = subst (λ (l : List ℕ). AreLines l told.0 told.1) some.2 told.3 in
    let ended = subst (λ (l : List ℕ). AreLines (c.loop-turn.pending ++ chunk) told.0 l) (sym told.5.0) lines in record {
      read = v.read ++ chunk;
      written = v.written ++ told.2;
      given = g.met.R.Source.gives_more _ _ _ _ _ _ _ v.given some.1;
      taken = g.met.W.Sink.takes_more _ _ _ _ _ v.taken told.4;
      under_way = gone_on _ g.met.A.Answerer.answers_more _ _ _ _ _ _ _ _ _ _ _ _ _ _ _ v.under_way (λ clean. subst IsTrue c.in_ok-answer_pending.ensures.clean clean) ended told.5.1 told.5.2;
      settled = c.in_ok-answer_pending.ensures.settled;
      clean = c.in_ok-answer_pending.ensures.clean ∙ v.clean;
      short = omega (arith, c.len.ensures, c.if-len-gt-MOST_LINE_BYTES.false);
    }

pub returns-clause-told : goal.returns-clause-told
returns-clause-told g c =
    let v = c.loop-turn.invariant in
    let all : c.loop-turn.turn ≡ 2 ^ 40 = omega (arith, c.loop-turn-test.false, c.loop-turn.auto.turn-end) in (
      c.loop-turn.turn,
      v.read,
      v.under_way.whole,
      c.loop-turn.pending,
      v.written,
      omega (arith, all),
      v.given,
      v.under_way.lines,
      v.taken,
      at_rest _ g.met.A.Answerer.answers_more g.met.A.Answerer.answers_none _ _ _ _ _ _ _ _ _ v.under_way v.settled.durable,
    )
