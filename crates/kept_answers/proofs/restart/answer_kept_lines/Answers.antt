use Rattle.std.proofs.Common.{List, ℕ, [], inl, inr, refl, subst}
use Rattle.kept_batches.specs.Recovery.{disk_of}
use Rattle.kept_answers.specs.Kept.{HasSent}
use Rattle.kept_answers.proofs.KeptLemmas.{no_ok, on_ok_then, reads_on}
use Rattle.kept_answers.proofs.restart.answer_kept_lines.Goals as goal

pub returns-in_err-answer_unsent-clause-told : goal.returns-in_err-answer_unsent-clause-told
returns-in_err-answer_unsent-clause-told g c = ([], g.met.W.Sink.takes_none _, λ clean. (inl refl, no_ok _ c.from_residual.result c.from_residual.ensures.0))

pub returns-in_err-answer_unsent-clause-reads : goal.returns-in_err-answer_unsent-clause-reads
returns-in_err-answer_unsent-clause-reads g c = c.in_err-answer_unsent.ensures.reads

pub returns-clause-told : goal.returns-clause-told
returns-clause-told g c =
    let told = c.answer_sent.ensures.told in (
      told.0,
      told.1,
      λ clean.
          let before = c.in_ok-answer_unsent.ensures.answers (c.answer_sent.ensures.reads.clean clean) in
          let after = told.2 clean in (
            inr (record {
              had = before.0;
              middle = c.answer_unsent.new.answerer;
              answered_before = before.1;
              sent_after = subst (λ (l : List (List ℕ)). HasSent g.A.Answerer.rule c.answer_unsent.new.answerer l told.0) before.2 after.0;
            }),
            on_ok_then c.answer_sent.result after.1 (λ all. record {
              had = before.0;
              middle = c.answer_unsent.new.answerer;
              answered_before = before.1;
              answered_after = subst (λ (l : List (List ℕ)). g.A.Answerer.rule.answers c.answer_unsent.new.answerer l told.0 c.answer_sent.new.answerer) before.2 all;
            }),
          ),
    )

pub returns-clause-reads : goal.returns-clause-reads
returns-clause-reads g c = reads_on g.D.Disk _ (disk_of c.answer_unsent.new.recovery) _ c.in_ok-answer_unsent.ensures.reads c.answer_sent.ensures.reads
