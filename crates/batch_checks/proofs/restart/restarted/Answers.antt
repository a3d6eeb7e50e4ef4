use Rattle.std.proofs.Common.{◌≡◌, inl, inr, ⊎_elim, ap, sym, subst, ◌∙◌, ◌++◌, ℕ, List}
use Rattle.std.specs.Prelude.{IsTrue}
use Rattle.kept_batches.specs.Batch.{lines_of}
use Rattle.kept_batches.specs.Verdict.{accepted, kept_in, verdict}
use Rattle.batch_checks.proofs.restart.restarted.Goals as goal

pub returns-clause-either : goal.returns-clause-either
returns-clause-either g c clean =
    let left : List ℕ = g.D.Disk.seen c.crash.new.self in
    let held : g.D.Disk.seen c.new.result.disk ≡ left = ap (λ (d : g.row.D.Denot). g.D.Disk.seen d) c.new.ensures.disk ∙ c.sync.ensures.seen in
    let found : kept_in (g.D.Disk.seen c.in_ok-log.log.disk) ≡ kept_in left = c.in_ok-log.ensures.lines clean ∙ ap kept_in held in
    let synced : IsTrue (g.D.Disk.is_clean c.sync.new.self) = subst (λ (d : g.row.D.Denot). IsTrue (g.D.Disk.is_clean d)) c.new.ensures.disk (c.in_ok-log.ensures.clean clean) in
    let appended : IsTrue (g.D.Disk.is_clean c.append.new.self.disk) = c.crash.ensures.clean (c.sync.ensures.clean synced) in
    ⊎_elim
    (λ keeps. inl (found ∙ ap accepted ((c.verdict_is_right.ensures left (kept_in (g.D.Disk.seen c.args.log.disk))).1 keeps)))
    (λ keeps. inr (found ∙ ap accepted ((c.verdict_is_right.ensures left (kept_in (g.D.Disk.seen c.args.log.disk) ++ lines_of c.args.batch.now)).1 keeps)))
    (c.append.ensures.any_moment appended left c.crash.ensures.left)
