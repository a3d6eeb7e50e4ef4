use Rattle.std.proofs.Common.{◌≡◌, ℕ, List, [], ◌++◌, ap, ◌∙◌, subst, arith}
use Rattle.std.specs.Prelude.{IsTrue}
use Rattle.kept_batches.specs.Verdict.{kept_in}
use Rattle.kept_answers.specs.Keeping.{IsStoreAnswered, IsStoreSent}
use Rattle.kept_answers.specs.Kept.{AreAnswered}
use Rattle.kept_answers.proofs.KeptLemmas.{no_lines}
use Rattle.kept_answers.proofs.StoreLemmas.{all_answered, all_kept_after_store, kept_after_store, kept_of_store, of_either, ok_of}
use Rattle.kept_answers.proofs.keeping.keep.Goals as goal

pub returns-in-Err-clause-told : goal.returns-in-Err-clause-told
returns-in-Err-clause-told g c =
    let told = c.in-Err.ensures.told in
    let reads = c.in-Err.ensures.reads in (
      0,
      [],
      [],
      [],
      told.0,
      omega arith,
      g.met.R.Source.gives_none _,
      no_lines,
      told.1,
      λ clean. (
        kept_of_store _ _ (g.D.Disk.may_leave c.into_disk.result) (kept_in (g.D.Disk.seen c.args.disk)) c.args.from told.0
            (subst (λ (d : g.row.D.Denot). IsStoreSent g.A.Answerer.rule c.args.answerer.now (kept_in (g.D.Disk.seen d)) c.args.from told.0) c.new-recovery.ensures.disk (told.2 (subst (λ (d : g.row.D.Denot). IsTrue (g.D.Disk.is_clean d)) c.into_disk.ensures clean)).0)
            (λ file left. ap kept_in (c.requires.durable file (subst (λ (d : g.row.D.Denot). g.D.Disk.may_leave d file) c.new-recovery.ensures.disk (reads.crash file (subst (λ (d : g.row.D.Denot). g.D.Disk.may_leave d file) c.into_disk.ensures left))))),
        tt,
      ),
    )

pub returns-in-Err-finish-clause-told : goal.returns-in-Err-finish-clause-told
returns-in-Err-finish-clause-told g c =
    let told = c.in_default.ensures.told in
    let reads = c.in_default.ensures.reads in (
      0,
      [],
      [],
      [],
      told.0,
      omega arith,
      g.met.R.Source.gives_none _,
      no_lines,
      told.1,
      λ clean. (
        kept_of_store _ _ (g.D.Disk.may_leave c.in-Err-finish.field-0.disk) (kept_in (g.D.Disk.seen c.args.disk)) c.args.from told.0
            (subst (λ (d : g.row.D.Denot). IsStoreSent g.A.Answerer.rule c.args.answerer.now (kept_in (g.D.Disk.seen d)) c.args.from told.0) c.new-recovery.ensures.disk (told.2 (c.in-Err-finish.ensures.clean clean)).0)
            (λ file left. (c.in-Err-finish.ensures.any_moment clean file left).0 ∙ ap kept_in (reads.seen ∙ ap (λ (d : g.row.D.Denot). g.D.Disk.seen d) c.new-recovery.ensures.disk)),
        tt,
      ),
    )

pub returns-in-Ok-clause-told : goal.returns-in-Ok-clause-told
returns-in-Ok-clause-told g c =
    let before = c.in_default.ensures.told in
    let reads = c.in_default.ensures.reads in
    let after = c.answer_log.ensures.told in
    let whole = after.2 in
    let sent = after.4 in
    let answered : AreAnswered g.A.Answerer.rule c.answer_to_gate.new.answerer (g.D.Disk.may_leave c.answer_log.result.disk) (IsTrue (g.D.Disk.is_clean c.answer_log.result.disk)) (kept_in (g.D.Disk.seen c.in-Ok.log.disk)) whole sent =
    of_either c.answer_log.result.result
    (λ all. all_answered _ _ c.answer_log.new.answerer (g.D.Disk.seen c.answer_log.result.disk) _ _ (kept_in (g.D.Disk.seen c.in-Ok.log.disk)) whole sent all.2 all.3 all.4)
    after.9 in (
      after.0,
      after.1,
      whole,
      after.3,
      before.0 ++ sent,
      after.5,
      after.6,
      after.7,
      g.met.W.Sink.takes_more _ _ _ _ _ before.1 after.8,
      λ clean.
          let clean_log = subst IsTrue c.answer_log.ensures.clean clean in
          let clean_store = c.in-Ok.ensures.clean clean_log in
          let file : kept_in (g.D.Disk.seen c.in-Ok.log.disk) ≡ kept_in (g.D.Disk.seen c.args.disk) =
          (c.in-Ok.ensures.lines clean_log).0 ∙ ap kept_in (reads.seen ∙ ap (λ (d : g.row.D.Denot). g.D.Disk.seen d) c.new-recovery.ensures.disk) in
          let store : IsStoreAnswered g.A.Answerer.rule c.args.answerer.now (kept_in (g.D.Disk.seen c.args.disk)) c.args.from before.0 c.answer_to_gate.new.answerer =
          subst (λ (d : g.row.D.Denot). IsStoreAnswered g.A.Answerer.rule c.args.answerer.now (kept_in (g.D.Disk.seen d)) c.args.from before.0 c.answer_to_gate.new.answerer) c.new-recovery.ensures.disk (before.2 clean_store).1 in (
            kept_after_store _ g.met.A.Answerer.answers_more c.args.answerer.now c.answer_to_gate.new.answerer _ _ (kept_in (g.D.Disk.seen c.args.disk)) whole c.args.from before.0 sent store
                (subst (λ (l : List (List ℕ)). AreAnswered g.A.Answerer.rule c.answer_to_gate.new.answerer (g.D.Disk.may_leave c.answer_log.result.disk) (IsTrue (g.D.Disk.is_clean c.answer_log.result.disk)) l whole sent) file answered)
                clean,
            ok_of _ c.answer_log.result.result
                (λ all. (
                  all.0,
                  all.1,
                  all_kept_after_store _ g.met.A.Answerer.answers_more c.args.answerer.now c.answer_to_gate.new.answerer c.answer_log.new.answerer (g.D.Disk.seen c.answer_log.result.disk) (kept_in (g.D.Disk.seen c.args.disk)) whole c.args.from before.0 sent store all.2
                      (all.3 clean ∙ ap (λ (l : List (List ℕ)). l ++ whole) file),
                ))
                after.9,
          ),
    )
