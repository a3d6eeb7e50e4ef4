use Rattle.std.proofs.Common.{[], ◌++◌}
use Rattle.kept_batches.specs.Verdict.{kept_in}
use Rattle.kept_batches.specs.Recovery.{disk_of, lines_left}
use Rattle.kept_answers.proofs.KeptLemmas.{answers_begun, greeting_begun, no_ok, nothing_of_store, on_ok_then, reads_on, store_answered}
use Rattle.kept_answers.proofs.keeping.answer_store.Goals as goal

pub returns-in_err-held-clause-told : goal.returns-in_err-held-clause-told
returns-in_err-held-clause-told g c =
    ([], g.met.W.Sink.takes_none _, λ clean. (nothing_of_store _ _ (kept_in (g.D.Disk.seen (disk_of c.args.recovery.now))) c.args.from, no_ok _ c.from_residual.result c.from_residual.ensures.0))

pub returns-in_err-held-clause-reads : goal.returns-in_err-held-clause-reads
returns-in_err-held-clause-reads g c = c.in_err-held.ensures.reads

pub returns-in_err-had-clause-told : goal.returns-in_err-had-clause-told
returns-in_err-had-clause-told g c =
    ([], g.met.W.Sink.takes_none _, λ clean. (nothing_of_store _ _ (kept_in (g.D.Disk.seen (disk_of c.args.recovery.now))) c.args.from, no_ok _ c.from_residual-in_err-had.result c.from_residual-in_err-had.ensures.0))

pub returns-in_err-had-clause-reads : goal.returns-in_err-had-clause-reads
returns-in_err-had-clause-reads g c = c.in_ok-held.ensures.reads

pub returns-in_err-greet-clause-told : goal.returns-in_err-greet-clause-told
returns-in_err-greet-clause-told g c =
    let few = c.in_ok-had.ensures.ok.1 in
    let told = c.in_err-greet.ensures.told in (
      told.0,
      told.1,
      λ clean.
          let held = c.in_ok-held.ensures.held clean in
          (greeting_begun _ _ _ held.0 (lines_left c.read_past_first.new.recovery) c.args.from c.in_ok-held.held.count told.0 held.1 held.2.count_is few (told.2 held.0 (lines_left c.read_past_first.new.recovery) held.2), no_ok _ c.from_residual-in_err-greet.result c.from_residual-in_err-greet.ensures.0),
    )

pub returns-in_err-greet-clause-reads : goal.returns-in_err-greet-clause-reads
returns-in_err-greet-clause-reads g c = c.in_ok-held.ensures.reads

pub returns-clause-told : goal.returns-clause-told
returns-clause-told g c =
    let few = c.in_ok-had.ensures.ok.1 in
    let greeted = c.in_ok-greet.ensures.told in
    let told = c.answer_kept_lines.ensures.told in (
      greeted.0 ++ told.0,
      g.met.W.Sink.takes_more _ _ _ _ _ greeted.1 told.1,
      λ clean.
          let held = c.in_ok-held.ensures.held (c.answer_kept_lines.ensures.reads.clean clean) in
          let after = told.2 clean in (
            answers_begun _ _ _ held.0 (lines_left c.read_past_first.new.recovery) c.args.from c.in_ok-had.had c.in_ok-held.held.count greeted.0 told.0 held.1 held.2.count_is c.in_ok-had.ensures.ok.0 few (greeted.2 held.0 (lines_left c.read_past_first.new.recovery) held.2) after.0,
            on_ok_then c.answer_kept_lines.result after.1 (λ all. store_answered _ _ _ _ held.0 (lines_left c.read_past_first.new.recovery) c.args.from c.in_ok-had.had c.in_ok-held.held.count greeted.0 told.0 held.1 held.2.count_is c.in_ok-had.ensures.ok.0 few (greeted.2 held.0 (lines_left c.read_past_first.new.recovery) held.2) all),
          ),
    )

pub returns-clause-reads : goal.returns-clause-reads
returns-clause-reads g c = reads_on g.D.Disk _ (disk_of c.read_past_first.new.recovery) _ c.in_ok-held.ensures.reads c.answer_kept_lines.ensures.reads
