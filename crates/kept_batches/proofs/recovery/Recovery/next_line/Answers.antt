use Rattle.std.proofs.Common.{ℕ, ◌+◌, List, drop, ◌∙◌, ap, sym, subst}
use Rattle.std.specs.Prelude.{IsTrue}
use Rattle.kept_batches.specs.Heads.{head}
use Rattle.kept_batches.specs.Verdict.{readable, verdict, kept_in, damage_in}
use Rattle.kept_batches.specs.Recovery.{line_of}
use Rattle.kept_batches.specs.Inner.Pending.{pending_of}
use Rattle.kept_batches.proofs.Ends.{some_end, ended, at_end, line_lent}
use Rattle.kept_batches.proofs.recovery.Recovery.next_line.Goals as goal

pub returns-then-is_some-clause-end : goal.returns-then-is_some-clause-end
returns-then-is_some-clause-end g c is now =
    let s = c.go_on.new.self in
    let same = c.go_on.ensures.reads.seen in
    let found = some_end c.in_ok-go_on.field-0 (sym c.if-is_some.ensures) c.in_ok-go_on.ensures.end in
    let a = at_end found.end (g.D.Disk.seen s.disk) (s.begin + s.stop) s.head s.lent (ended found.end s.end (g.D.Disk.seen s.disk) s.begin s.next s.stop s.head s.lent s.window.items (found.holds.0 ∙ found.is) found.holds.1 (s.state now)) in
    record {
      whole = ap damage_in (sym same) ∙ a.whole;
      none = ap (λ (n : ℕ). drop n (readable (verdict (g.D.Disk.seen c.args.self.now.disk)))) (sym c.go_on.ensures.count) ∙ ap (λ (f : List ℕ). drop s.lent (readable (verdict f))) (sym same) ∙ a.none;
      lent = a.none;
      head_is = a.last_is ∙ ap (λ (f : List ℕ). head (kept_in f)) same;
    }

pub returns-clause-line : goal.returns-clause-line
returns-clause-line g c is now =
    let s = c.go_on.new.self in
    line_lent s.end (g.D.Disk.seen s.disk) (g.D.Disk.seen c.args.self.now.disk) (g.D.Disk.seen c.lend.new.self.disk) (s.begin + s.stop) s.head s.lent c.args.self.now.lent c.lend.new.self.lent (line_of c.lend.new.self) (pending_of c.lend.new.self) (pending_of s)
    (s.state (subst (λ d. IsTrue (g.D.Disk.is_clean d)) c.lend.ensures.disk now)) c.lend.ensures.line (sym c.go_on.ensures.reads.seen) (ap g.D.Disk.seen c.lend.ensures.disk) (sym c.go_on.ensures.count) c.lend.ensures.count
