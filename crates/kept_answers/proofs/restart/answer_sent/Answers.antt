use Rattle.std.proofs.Common.{ℕ, List, [], ◌∷◌, ◌++◌, refl, sym, ap, ◌∙◌, subst, append_assoc}
use Rattle.std.proofs.lemmas.List.{append-nil}
use Rattle.kept_batches.specs.Recovery.{disk_of, line_of, lines_left}
use Rattle.kept_answers.proofs.KeptLemmas.{all_sent, no_ok, on_ok_then, part_sent, reads_nothing, reads_on, sent_so_far}
use Rattle.kept_answers.proofs.restart.answer_sent.Goals as goal

pub loop-text-init : goal.loop-text-init
loop-text-init g c = record {
  done = [];
  written = [];
  taken = g.met.W.Sink.takes_none _;
  answers = subst (λ (l : List ℕ). g.A.Answerer.rule.answers c.args.answerer.now [] l c.args.answerer.now) (sym c.new-text.ensures.items) (g.met.A.Answerer.answers_none _);
  left = λ clean. refl;
  reads = reads_nothing g.D.Disk (disk_of c.args.recovery.now) c.args.recovery.now.usable;
}

pub returns-in_err-next_line-clause-told : goal.returns-in_err-next_line-clause-told
returns-in_err-next_line-clause-told g c =
    let v = c.loop-text.invariant in (
      v.written,
      v.taken,
      λ clean. (
        sent_so_far _ _ c.loop-text.answerer _ v.done (lines_left c.loop-text.recovery) (v.written ++ c.loop-text.text.items) v.written c.loop-text.text.items (v.left (c.in_err-next_line.ensures.reads.clean clean)) v.answers refl,
        no_ok _ c.from_residual.result c.from_residual.ensures.0,
      ),
    )

pub returns-in_err-next_line-clause-reads : goal.returns-in_err-next_line-clause-reads
returns-in_err-next_line-clause-reads g c = reads_on g.D.Disk _ (disk_of c.loop-text.recovery) _ c.loop-text.invariant.reads c.in_err-next_line.ensures.reads

pub returns-in_err-answer-clause-told : goal.returns-in_err-answer-clause-told
returns-in_err-answer-clause-told g c =
    let v = c.loop-text.invariant in (
      v.written,
      v.taken,
      λ clean. (
        sent_so_far _ _ c.loop-text.answerer _ v.done (lines_left c.loop-text.recovery) (v.written ++ c.loop-text.text.items) v.written c.loop-text.text.items (v.left (c.in_ok-next_line.ensures.reads.clean clean)) v.answers refl,
        no_ok _ c.from_residual-in_err-answer.result c.from_residual-in_err-answer.ensures.0,
      ),
    )

pub returns-in_err-answer-clause-reads : goal.returns-in_err-answer-clause-reads
returns-in_err-answer-clause-reads g c = reads_on g.D.Disk _ (disk_of c.loop-text.recovery) _ c.loop-text.invariant.reads c.in_ok-next_line.ensures.reads

pub returns-in_err-extend_from_slice-clause-told : goal.returns-in_err-extend_from_slice-clause-told
returns-in_err-extend_from_slice-clause-told g c =
    let v = c.loop-text.invariant in (
      v.written,
      v.taken,
      λ clean. (
        sent_so_far _ _ c.loop-text.answerer _ v.done (lines_left c.loop-text.recovery) (v.written ++ c.loop-text.text.items) v.written c.loop-text.text.items (v.left (c.in_ok-next_line.ensures.reads.clean clean)) v.answers refl,
        no_ok _ c.from_residual-in_err-extend_from_slice.result c.from_residual-in_err-extend_from_slice.ensures.0,
      ),
    )

pub returns-in_err-extend_from_slice-clause-reads : goal.returns-in_err-extend_from_slice-clause-reads
returns-in_err-extend_from_slice-clause-reads g c = reads_on g.D.Disk _ (disk_of c.loop-text.recovery) _ c.loop-text.invariant.reads c.in_ok-next_line.ensures.reads

pub returns-in_err-send_if_long-clause-told : goal.returns-in_err-send_if_long-clause-told
returns-in_err-send_if_long-clause-told g c =
    let v = c.loop-text.invariant in
    let line = line_of c.next_line.new.self in
    let told = c.in_err-send_if_long.ensures.told in
    let text = c.extend_from_slice.new.self.items in (
      v.written ++ told.0,
      g.met.W.Sink.takes_more _ _ _ _ _ v.taken told.1,
      λ clean. (
        sent_so_far _ _ c.answer.new.self _ (v.done ++ line ∷ []) (lines_left c.next_line.new.self) (v.written ++ text) (v.written ++ told.0) told.2.0
            (v.left (c.in_ok-next_line.ensures.reads.clean clean)
            ∙ ap (λ (l : List (List ℕ)). v.done ++ l) (c.in_ok-next_line.ensures.line c.if-branch.true clean)
            ∙ sym (append_assoc v.done (line ∷ []) (lines_left c.next_line.new.self)))
            (subst (λ (l : List ℕ). g.A.Answerer.rule.answers c.args.answerer.now (v.done ++ line ∷ []) l c.answer.new.self)
            (append_assoc v.written c.loop-text.text.items c.in_ok-answer.answer.items
            ∙ ap (λ (l : List ℕ). v.written ++ l) (sym (c.in_ok-extend_from_slice.ensures.items ∙ ap (λ (l : List ℕ). c.loop-text.text.items ++ l) c.as_slice.ensures.value)))
            (g.met.A.Answerer.answers_more _ _ _ _ _ _ _ v.answers (subst (λ (l : List ℕ). g.A.Answerer.rule.answers c.loop-text.answerer (l ∷ []) c.in_ok-answer.answer.items c.answer.new.self) c.line.ensures c.in_ok-answer.ensures.ok)))
            (ap (λ (l : List ℕ). v.written ++ l) told.2.1 ∙ sym (append_assoc v.written told.0 told.2.0)),
        no_ok _ c.from_residual-in_err-send_if_long.result c.from_residual-in_err-send_if_long.ensures.0,
      ),
    )

pub returns-in_err-send_if_long-clause-reads : goal.returns-in_err-send_if_long-clause-reads
returns-in_err-send_if_long-clause-reads g c = reads_on g.D.Disk _ (disk_of c.loop-text.recovery) _ c.loop-text.invariant.reads c.in_ok-next_line.ensures.reads

pub loop-text-preserved : goal.loop-text-preserved
loop-text-preserved g c =
    let v = c.loop-text.invariant in
    let reads = c.in_ok-next_line.ensures.reads in
    let line = line_of c.next_line.new.self in
    let told = c.in_ok-send_if_long.ensures.told in record {
      done = v.done ++ line ∷ [];
      written = v.written ++ told.0;
      taken = g.met.W.Sink.takes_more _ _ _ _ _ v.taken told.1;
      answers = subst (λ (l : List ℕ). g.A.Answerer.rule.answers c.args.answerer.now (v.done ++ line ∷ []) l c.answer.new.self)
          (append_assoc v.written c.loop-text.text.items c.in_ok-answer.answer.items
          ∙ ap (λ (l : List ℕ). v.written ++ l) (sym (c.in_ok-extend_from_slice.ensures.items ∙ ap (λ (l : List ℕ). c.loop-text.text.items ++ l) c.as_slice.ensures.value) ∙ told.2)
          ∙ sym (append_assoc v.written told.0 c.send_if_long.new.text.items))
          (g.met.A.Answerer.answers_more _ _ _ _ _ _ _ v.answers (subst (λ (l : List ℕ). g.A.Answerer.rule.answers c.loop-text.answerer (l ∷ []) c.in_ok-answer.answer.items c.answer.new.self) c.line.ensures c.in_ok-answer.ensures.ok));
      left = λ clean.
          v.left (reads.clean clean)
          ∙ ap (λ (l : List (List ℕ)). v.done ++ l) (c.in_ok-next_line.ensures.line c.if-branch.true clean)
          ∙ sym (append_assoc v.done (line ∷ []) (lines_left c.next_line.new.self));
      reads = reads_on g.D.Disk _ (disk_of c.loop-text.recovery) _ v.reads reads;
    }

pub returns-clause-told : goal.returns-clause-told
returns-clause-told g c =
    let v = c.loop-text.invariant in
    let told = c.send.ensures.told in
    let part = part_sent _ c.send.result told.0 c.loop-text.text.items told.2 in (
      v.written ++ told.0,
      g.met.W.Sink.takes_more _ _ _ _ _ v.taken told.1,
      λ clean. (
        sent_so_far _ _ c.loop-text.answerer _ v.done (lines_left c.loop-text.recovery) (v.written ++ c.loop-text.text.items) (v.written ++ told.0) part.0 (v.left (c.in_ok-next_line.ensures.reads.clean clean)) v.answers
            (ap (λ (l : List ℕ). v.written ++ l) part.1 ∙ sym (append_assoc v.written told.0 part.0)),
        on_ok_then c.send.result (all_sent _ _ _ c.send.result told.2) (λ all.
            subst (λ (l : List (List ℕ)). g.A.Answerer.rule.answers c.args.answerer.now l (v.written ++ told.0) c.loop-text.answerer)
            (sym (v.left (c.in_ok-next_line.ensures.reads.clean clean) ∙ ap (λ (l : List (List ℕ)). v.done ++ l) (c.in_ok-next_line.ensures.end c.if-branch.false clean).none ∙ append-nil v.done))
            (subst (λ (l : List ℕ). g.A.Answerer.rule.answers c.args.answerer.now v.done (v.written ++ l) c.loop-text.answerer) (sym all) v.answers)),
      ),
    )

pub returns-clause-reads : goal.returns-clause-reads
returns-clause-reads g c = reads_on g.D.Disk _ (disk_of c.loop-text.recovery) _ c.loop-text.invariant.reads c.in_ok-next_line.ensures.reads
