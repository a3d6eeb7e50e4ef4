use Rattle.std.proofs.Common.{◌≡◌, ℕ, List, [], ◌++◌, take, drop, sym, ap, ◌∙◌, subst, arith}
use Rattle.std.proofs.lemmas.List.{take-append-drop}
use Rattle.kept_batches.specs.Batch.{lines_of}
use Rattle.kept_batches.specs.File.{IsBeforeOrAfter}
use Rattle.kept_batches.specs.Verdict.{kept_in}
use Rattle.request_lines.specs.Lines.{AreLines, whole_lines}
use Rattle.kept_answers.proofs.KeptLemmas.{all_kept, answers_sent, at_err, none_lost, nothing_sent, split, whole_or_none}
use Rattle.kept_answers.proofs.answering.answer_pending.Goals as goal

pub returns-in_err-count-clause-told : goal.returns-in_err-count-clause-told
returns-in_err-count-clause-told g c =
    let found = split c.args.pending.now in (
      found.whole,
      found.part,
      [],
      found.are,
      g.met.W.Sink.takes_none _,
      at_err _ c.from_residual.result c.from_residual.ensures.0 (nothing_sent _ _ _ _ _ _ (g.met.A.Answerer.answers_none _) (λ clean. none_lost _ _ _ c.requires.settled.durable)),
    )

pub returns-in_err-append-clause-told : goal.returns-in_err-append-clause-told
returns-in_err-append-clause-told g c =
    let before = kept_in (g.D.Disk.seen c.args.log.now.disk) in
    let whole = whole_lines c.bytes.result.now in
    let are : lines_of c.push_whole_lines.new.batch ≡ whole = c.in_ok-count.ensures.lines ∙ ap (λ (l : List (List ℕ)). l ++ whole) c.clear.ensures in
    let part = drop c.in_ok-count.count c.bytes.result.now in
    let lines : AreLines c.args.pending.now whole part = subst (λ (l : List ℕ). AreLines l whole part) c.bytes.ensures c.in_ok-count.ensures.part in (
      whole,
      part,
      [],
      lines,
      g.met.W.Sink.takes_none _,
      at_err _ c.from_residual-in_err-append.result c.from_residual-in_err-append.ensures.0 (nothing_sent _ _ _ _ _ _ (g.met.A.Answerer.answers_none _) (λ clean file left.
          whole_or_none c.verdict_is_right.ensures before whole file (subst (λ (l : List (List ℕ)). IsBeforeOrAfter before l file) are (c.in_err-append.ensures.any_moment clean file left)))),
    )

pub returns-in_err-answer_lines-clause-told : goal.returns-in_err-answer_lines-clause-told
returns-in_err-answer_lines-clause-told g c =
    let before = kept_in (g.D.Disk.seen c.args.log.now.disk) in
    let whole = whole_lines c.bytes.result.now in
    let are : lines_of c.push_whole_lines.new.batch ≡ whole = c.in_ok-count.ensures.lines ∙ ap (λ (l : List (List ℕ)). l ++ whole) c.clear.ensures in
    let part = drop c.in_ok-count.count c.bytes.result.now in
    let lines : AreLines c.args.pending.now whole part = subst (λ (l : List ℕ). AreLines l whole part) c.bytes.ensures c.in_ok-count.ensures.part in (
      whole,
      part,
      [],
      lines,
      g.met.W.Sink.takes_none _,
      at_err _ c.from_residual-in_err-answer_lines.result c.from_residual-in_err-answer_lines.ensures.0 (nothing_sent _ _ _ _ _ _ (g.met.A.Answerer.answers_none _) (λ clean.
          all_kept _ _ before _ 0 c.in_ok-append.ensures.settled.durable (c.in_ok-append.ensures.acknowledged clean ∙ ap (λ (l : List (List ℕ)). before ++ l) are) (omega arith))),
    )

pub returns-in-Err-clause-told : goal.returns-in-Err-clause-told
returns-in-Err-clause-told g c =
    let before = kept_in (g.D.Disk.seen c.args.log.now.disk) in
    let whole = whole_lines c.bytes.result.now in
    let are : lines_of c.push_whole_lines.new.batch ≡ whole = c.in_ok-count.ensures.lines ∙ ap (λ (l : List (List ℕ)). l ++ whole) c.clear.ensures in
    let part = drop c.in_ok-count.count c.bytes.result.now in
    let lines : AreLines c.args.pending.now whole part = subst (λ (l : List ℕ). AreLines l whole part) c.bytes.ensures c.in_ok-count.ensures.part in
    let text = c.as_slice.result.now in (
      whole,
      part,
      take c.in-Err._sent text,
      lines,
      c.in-Err.ensures.err,
      answers_sent _ _ c.answer_lines.new.answerer _ _ before _ text (take c.in-Err._sent text) (drop c.in-Err._sent text)
          (subst (λ (l : List (List ℕ)). g.A.Answerer.rule.answers c.args.answerer.now l text c.answer_lines.new.answerer) (ap whole_lines (c.bytes-2.ensures ∙ sym c.bytes.ensures))
          (subst (λ (l : List ℕ). g.A.Answerer.rule.answers c.args.answerer.now (whole_lines c.bytes-2.result.now) l c.answer_lines.new.answerer) (sym c.as_slice.ensures.value) c.in_ok-answer_lines.ensures.answers))
          (sym (take-append-drop c.in-Err._sent text))
          (λ clean. all_kept _ _ before _ _ c.in_ok-append.ensures.settled.durable (c.in_ok-append.ensures.acknowledged clean ∙ ap (λ (l : List (List ℕ)). before ++ l) are) (omega arith)),
    )

pub returns-clause-told : goal.returns-clause-told
returns-clause-told g c =
    let before = kept_in (g.D.Disk.seen c.args.log.now.disk) in
    let whole = whole_lines c.bytes.result.now in
    let are : lines_of c.push_whole_lines.new.batch ≡ whole = c.in_ok-count.ensures.lines ∙ ap (λ (l : List (List ℕ)). l ++ whole) c.clear.ensures in
    let part = drop c.in_ok-count.count c.bytes.result.now in
    let lines : AreLines c.args.pending.now whole part = subst (λ (l : List ℕ). AreLines l whole part) c.bytes.ensures c.in_ok-count.ensures.part in
    let text = c.as_slice.result.now in (
      whole,
      part,
      text,
      lines,
      c.in_default.ensures.ok,
      (
        c.drop_front.ensures ∙ ap (λ (l : List ℕ). drop c.in_ok-count.count l) (sym c.bytes.ensures),
        (subst (λ (l : List (List ℕ)). g.A.Answerer.rule.answers c.args.answerer.now l text c.answer_lines.new.answerer) (ap whole_lines (c.bytes-2.ensures ∙ sym c.bytes.ensures))
            (subst (λ (l : List ℕ). g.A.Answerer.rule.answers c.args.answerer.now (whole_lines c.bytes-2.result.now) l c.answer_lines.new.answerer) (sym c.as_slice.ensures.value) c.in_ok-answer_lines.ensures.answers)),
        λ clean. c.in_ok-append.ensures.acknowledged clean ∙ ap (λ (l : List (List ℕ)). before ++ l) are,
      ),
    )
