use Rattle.std.proofs.Common.{List, ℕ, [], ◌∷◌, ◌++◌, ◌∙◌, ap, refl, sym, arith, append_assoc, length-append}
use Rattle.kept_batches.specs.Recovery.{disk_of, line_of, lines_left}
use Rattle.kept_answers.proofs.KeptLemmas.{reads_nothing, reads_on}
use Rattle.kept_answers.proofs.keeping.count_lines.Goals as goal

pub loop-count-init : goal.loop-count-init
loop-count-init g c = record {
  done = [];
  left = λ clean. refl;
  size = refl;
  few = omega arith;
  reads = reads_nothing g.D.Disk (disk_of c.args.recovery.now) c.args.recovery.now.usable;
}

pub loop-count-preserved : goal.loop-count-preserved
loop-count-preserved g c =
    let v = c.loop-count.invariant in
    let reads = c.in_ok-next_line.ensures.reads in
    let line = line_of c.next_line.new.self in record {
      done = v.done ++ line ∷ [];
      left = λ clean.
          v.left (reads.clean clean)
          ∙ ap (λ (l : List (List ℕ)). v.done ++ l) (c.in_ok-next_line.ensures.line c.if-branch.true clean)
          ∙ sym (append_assoc v.done (line ∷ []) (lines_left c.next_line.new.self));
      size = omega (arith, v.size, length-append v.done (line ∷ []));
      few = omega (arith, v.few, (c.in_ok-next_line.ensures.progress c.if-branch.true).0);
      reads = reads_on g.D.Disk _ (disk_of c.loop-count.recovery) _ v.reads reads;
    }
