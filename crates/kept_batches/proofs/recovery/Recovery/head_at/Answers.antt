use Rattle.std.proofs.Common.{◌≡◌, ℕ, ◌+◌, List, ◌++◌, false, ◌∙◌, ap, sym, subst, arith, rules}
use Rattle.std.specs.Prelude.{IsTrue}
use Rattle.sha2.specs.Sha256.{sha256}
use Rattle.kept_batches.specs.Reading.{IsHeadAt, HasFewer}
use Rattle.kept_batches.specs.Recovery.{disk_of, line_of, lines_left}
use Rattle.kept_batches.proofs.OnlyReading.{reads_twice}
use Rattle.kept_batches.proofs.HeadsAt.{head_more, has_fewer}
use Rattle.kept_batches.proofs.recovery.Recovery.head_at.Goals as goal

pub returns-then-not-branch-clause-none : goal.returns-then-not-branch-clause-none
returns-then-not-branch-clause-none g c is now =
    let s = c.loop-self.self in
    let no : c.in_ok-next_line.field-0 ≡ false = search rules in
    let a = c.in_ok-next_line.ensures.end no now in
    subst (λ (f : List ℕ). HasFewer f c.args.count) (c.loop-self.invariant.reads.seen ∙ ap g.D.Disk.seen c.rewind.ensures.disk) (has_fewer (g.D.Disk.seen s.disk) s.lent c.args.count a.whole a.none c.loop-self-test.true)

pub loop-self-preserved : goal.loop-self-preserved
loop-self-preserved g c =
    let s = c.loop-self.self in
    let was = c.loop-self.invariant in
    let n = c.next_line.new.self in
    let yes : IsTrue c.in_ok-next_line.field-0 = search rules in
    let more = c.in_ok-next_line.ensures.count yes in
    record {
      within = omega (arith, more, c.loop-self-test.true);
      reads = reads_twice g.D.Disk (disk_of c.rewind.new.self) (disk_of s) (disk_of n) was.reads c.next_line.ensures.reads;
      calm = c.in_ok-next_line.ensures.calm ∙ was.calm;
      head_is = λ now.
          let so_far = subst (λ (f : List ℕ). IsHeadAt f s.lent c.loop-self.head) (sym was.reads.seen) (was.head_is (c.next_line.ensures.reads.clean now)) in
          let next = head_more (g.D.Disk.seen s.disk) c.loop-self.head (line_of n) c.next_head-head.result (lines_left n) s.lent so_far (c.in_ok-next_line.ensures.line yes now) (c.next_head-head.ensures ∙ ap (λ (l : List ℕ). sha256 (c.loop-self.head ++ l)) c.line.ensures) in
          subst (λ (k : ℕ). IsHeadAt (g.D.Disk.seen c.rewind.new.self.disk) k c.next_head-head.result) (sym more) (subst (λ (f : List ℕ). IsHeadAt f (s.lent + 1) c.next_head-head.result) was.reads.seen next);
    }
