use Rattle.std.proofs.Common.{List, ℕ, [], ◌∷◌, ◌++◌, ◌∙◌, ap, refl, sym, subst, arith, append_assoc, length-append}
use Rattle.kept_batches.specs.Recovery.{disk_of, line_of, lines_left}
use Rattle.kept_answers.proofs.KeptLemmas.{all_done, first_done, read_tells, reads_nothing, reads_on}
use Rattle.kept_answers.proofs.restart.answer_unsent.Goals as goal

pub loop-number-init : goal.loop-number-init
loop-number-init g c = record {
  done = [];
  text = [];
  answers = g.met.A.Answerer.answers_none _;
  left = λ clean. refl;
  size = refl;
  reads = reads_nothing g.D.Disk (disk_of c.args.recovery.now) c.args.recovery.now.usable;
}

pub returns-in_err-is_line-clause-reads : goal.returns-in_err-is_line-clause-reads
returns-in_err-is_line-clause-reads g c = reads_on g.D.Disk _ (disk_of c.loop-number.recovery) _ c.loop-number.invariant.reads c.in_err-is_line.ensures.reads

pub returns-then-not-is_line-clause-reads : goal.returns-then-not-is_line-clause-reads
returns-then-not-is_line-clause-reads g c = reads_on g.D.Disk _ (disk_of c.loop-number.recovery) _ c.loop-number.invariant.reads c.in_ok-is_line.ensures.reads

pub returns-then-not-is_line-clause-answers : goal.returns-then-not-is_line-clause-answers
returns-then-not-is_line-clause-answers g c clean =
    let v = c.loop-number.invariant in
    let end = c.in_ok-is_line.ensures.end c.if-not-is_line.true clean in
    let reads = c.in_ok-is_line.ensures.reads in
    let done = all_done c.args.count (lines_left c.args.recovery.now) v.done (lines_left c.loop-number.recovery) (v.left (reads.clean clean)) end.none (omega (arith, v.size, c.loop-number-test.true)) in (
      v.text,
      subst (λ (l : List (List ℕ)). g.A.Answerer.rule.answers c.args.answerer.now l v.text c.loop-number.answerer) (sym done.0) v.answers,
      end.lent ∙ sym done.1,
    )

pub returns-in_err-answer-clause-reads : goal.returns-in_err-answer-clause-reads
returns-in_err-answer-clause-reads g c = reads_on g.D.Disk _ (disk_of c.loop-number.recovery) _ c.loop-number.invariant.reads c.in_ok-is_line.ensures.reads

pub loop-number-preserved : goal.loop-number-preserved
loop-number-preserved g c =
    let v = c.loop-number.invariant in
    let reads = c.in_ok-is_line.ensures.reads in
    let line = line_of c.next_line.new.self in record {
      done = v.done ++ line ∷ [];
      text = v.text ++ c.in_ok-answer.field-0.items;
      answers = g.met.A.Answerer.answers_more _ _ _ _ _ _ _ v.answers (subst (λ (l : List ℕ). g.A.Answerer.rule.answers c.loop-number.answerer (l ∷ []) c.in_ok-answer.field-0.items c.answer.new.self) c.line.ensures c.in_ok-answer.ensures.ok);
      left = λ clean.
          v.left (reads.clean clean)
          ∙ ap (λ (l : List (List ℕ)). v.done ++ l) (c.in_ok-is_line.ensures.line c.if-not-is_line.false clean)
          ∙ sym (append_assoc v.done (line ∷ []) (lines_left c.next_line.new.self));
      size = omega (arith, v.size, length-append v.done (line ∷ []));
      reads = reads_on g.D.Disk _ (disk_of c.loop-number.recovery) _ v.reads reads;
    }

pub returns-clause-answers : goal.returns-clause-answers
returns-clause-answers g c clean =
    let v = c.loop-number.invariant in
    let done = first_done c.args.count (lines_left c.args.recovery.now) v.done (lines_left c.loop-number.recovery) (v.left clean) (omega (arith, v.size, c.loop-number-test.false, c.loop-number.auto.number-end)) in (
      v.text,
      subst (λ (l : List (List ℕ)). g.A.Answerer.rule.answers c.args.answerer.now l v.text c.loop-number.answerer) (sym done.0) v.answers,
      sym done.1,
    )

pub returns-clause-reads : goal.returns-clause-reads
returns-clause-reads g c = c.loop-number.invariant.reads

pub returns-in_err-is_line-clause-tells : goal.returns-in_err-is_line-clause-tells
returns-in_err-is_line-clause-tells g c =
    read_tells g.D.Disk _ (disk_of c.loop-number.recovery) (disk_of c.next_line.new.self) c.in_err-is_line.field-0.0 _ c.from_residual.result c.from_residual.ensures.1 refl c.loop-number.invariant.reads c.in_err-is_line.ensures.damaged
