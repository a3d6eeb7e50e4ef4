use Rattle.std.proofs.Common.{◌+◌, Bool, ◌∙◌, ap, sym, subst}
use Rattle.std.specs.Prelude.{IsTrue}
use Rattle.kept_batches.specs.Verdict.{kept_in, damage_in}
use Rattle.kept_batches.proofs.Ends.{ended, at_end, repaired, left_alike}
use Rattle.kept_batches.proofs.recovery.Recovery.finish.Goals as goal

pub returns-in-Ok-repair-clause-settled : goal.returns-in-Ok-repair-clause-settled
returns-in-Ok-repair-clause-settled g c =
    let s = c.skip-read.new.self in
    record {
      durable = c.in-Ok-repair.ensures.durable;
      usable = c.in-Ok-repair.ensures.usable;
      file = λ now.
          let h = ended c.in-Ok.end s.end (g.D.Disk.seen s.disk) s.begin s.next s.stop s.head s.lent s.window.items c.in-Ok.ensures.end.0 c.in-Ok.ensures.end.1 (s.state (subst (λ (b : Bool). IsTrue b) c.repair.ensures.clean now)) in
          (repaired c.in-Ok.end (g.D.Disk.seen s.disk) (g.D.Disk.seen c.repair.new.disk) (s.begin + s.stop) s.head s.lent c.in-Ok-repair.ensures.file h).0;
    }

pub returns-in-Ok-repair-clause-lines : goal.returns-in-Ok-repair-clause-lines
returns-in-Ok-repair-clause-lines g c now =
    let s = c.skip-read.new.self in
    let h = ended c.in-Ok.end s.end (g.D.Disk.seen s.disk) s.begin s.next s.stop s.head s.lent s.window.items c.in-Ok.ensures.end.0 c.in-Ok.ensures.end.1 (s.state (subst (λ (b : Bool). IsTrue b) c.repair.ensures.clean now)) in
    let alike = (repaired c.in-Ok.end (g.D.Disk.seen s.disk) (g.D.Disk.seen c.repair.new.disk) (s.begin + s.stop) s.head s.lent c.in-Ok-repair.ensures.file h).1 in
    (alike.0 ∙ ap kept_in c.skip-read.ensures.reads.seen, alike.1 ∙ ap damage_in c.skip-read.ensures.reads.seen)

pub returns-in-Ok-repair-clause-whole : goal.returns-in-Ok-repair-clause-whole
returns-in-Ok-repair-clause-whole g c now =
    let s = c.skip-read.new.self in
    let h = ended c.in-Ok.end s.end (g.D.Disk.seen s.disk) s.begin s.next s.stop s.head s.lent s.window.items c.in-Ok.ensures.end.0 c.in-Ok.ensures.end.1 (s.state (subst (λ (b : Bool). IsTrue b) c.repair.ensures.clean now)) in
    ap damage_in (sym c.skip-read.ensures.reads.seen) ∙ (at_end c.in-Ok.end (g.D.Disk.seen s.disk) (s.begin + s.stop) s.head s.lent h).whole

pub returns-clause-any_moment : goal.returns-clause-any_moment
returns-clause-any_moment g c now left it =
    let s = c.skip-read.new.self in
    let h = ended c.in-Ok.end s.end (g.D.Disk.seen s.disk) s.begin s.next s.stop s.head s.lent s.window.items c.in-Ok.ensures.end.0 c.in-Ok.ensures.end.1 (s.state (subst (λ (b : Bool). IsTrue b) c.repair.ensures.clean now)) in
    let alike = left_alike c.in-Ok.end (g.D.Disk.seen s.disk) (s.begin + s.stop) s.head s.lent (g.D.Disk.may_leave c.repair.new.disk) c.repair.ensures.any_moment h left it in
    (alike.0 ∙ ap kept_in c.skip-read.ensures.reads.seen, alike.1 ∙ ap damage_in c.skip-read.ensures.reads.seen)
