use Rattle.std.proofs.Common.{◌≡◌, ℕ, ◌-◌, List, length, ap, subst, arith, rules}
use Rattle.std.specs.Prelude.{min}
use Rattle.sqlite_disk.specs.Disk.{MoreFaults, Holds}
use Rattle.kept_batches.proofs.Windows.{read_is}
use Rattle.kept_batches.proofs.window.fill_window.Goals as goal

pub returns-in-Err-clause-failed : goal.returns-in-Err-clause-failed
returns-in-Err-clause-failed g c is =
    subst (λ (n : ℕ). MoreFaults n (g.D.Disk.faults c.read_at.new.self)) c.in_ok-len.ensures.faults
    (c.in-Err.ensures.faults.0 (λ was.
    let size = c.in_ok-len.ensures.len was in
    let low = c.requires.within (c.len.ensures.clean was) in
    let asked : length c.deref_mut.result.now ≡ min (c.in_ok-len.field-0 - c.args.begin) c.args.most = omega (arith, c.deref_mut.ensures.len, c.in_ok-resize.ensures.len, c.min-length.ensures, c.saturating_sub.ensures) in
    omega (arith, size, low, asked, ap length c.len.ensures.seen)))

pub returns-clause-ok : goal.returns-clause-ok
returns-clause-ok g c now =
    let was = c.read_at.ensures.clean now in
    let size = c.in_ok-len.ensures.len was in
    let asked : length c.read_at.new.buf ≡ min (c.in_ok-len.field-0 - c.args.begin) c.args.most = omega (arith, c.read_at.auto.buf, c.deref_mut.ensures.len, c.in_ok-resize.ensures.len, c.min-length.ensures, c.saturating_sub.ensures) in
    read_is (g.D.Disk.seen c.args.disk.now) c.read_at.new.buf c.resize.new.self.items c.args.begin c.args.most c.resize.new.self.len
    (omega (arith, size, asked)) (search rules) (λ some. subst (λ (f : List ℕ). Holds f c.args.begin c.read_at.new.buf) c.len.ensures.seen (c.in_default.ensures.read now (omega (arith, some, c.read_at.auto.buf))))
