use Rattle.std.proofs.Common.{ℕ, List, [], ◌∷◌, ◌++◌, ap, ◌∙◌, sym, subst}
use Rattle.std.specs.Prelude.{IsTrue}
use Rattle.kept_batches.specs.Batch.{lines_of}
use Rattle.kept_batches.specs.Verdict.{kept_in as kept_in_batches}
use Rattle.kept_lines.specs.Recovery.{disk_of, lines_left}
use Rattle.store_commands.proofs.UpgradeLemmas.{one_more_copied, reads_on}
use Rattle.store_commands.proofs.upgrade.copy_lines.Goals as goal

pub loop-batch-preserved : goal.loop-batch-preserved
loop-batch-preserved g c =
    let v = c.loop-batch.invariant in
    let reads = c.in_ok-next_line.ensures.reads in
    let kept : List (List ℕ) = kept_in_batches (g.E.Disk.seen c.loop-batch.log.disk) in record {
      settled = c.in_ok-put_many.ensures.settled;
      copied = λ old new.
          let was = subst IsTrue c.put_many.ensures.clean new in
          one_more_copied kept (lines_of c.loop-batch.batch) (kept_in_batches (g.E.Disk.seen c.put_many.new.log.disk)) (lines_of c.put_many.new.batch) (lines_left c.loop-batch.old) (lines_left c.next_line.new.self) _ c.line.result.now
          (v.copied (reads.clean old) was)
          (c.in_ok-next_line.ensures.line c.if-branch.true old ∙ ap (λ (l : List ℕ). l ∷ lines_left c.next_line.new.self) (sym c.line.ensures))
          (c.in_ok-put_many.ensures.lines new ∙ ap (λ (l : List (List ℕ)). kept ++ l) c.in_ok-add_line.ensures);
      reads = reads_on g.D.Disk _ (disk_of c.loop-batch.old) _ v.reads reads;
      clean = c.put_many.ensures.clean ∙ v.clean;
    }
