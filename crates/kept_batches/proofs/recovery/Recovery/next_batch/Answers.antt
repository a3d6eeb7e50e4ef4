use Rattle.std.proofs.Common.{◌≡◌, ◌<◌, ℕ, ◌∙◌, ap, refl, sym, subst}
use Rattle.std.specs.Prelude.{IfOk, IsNone}
use Rattle.kept_batches.specs.Reading.{OnlyReads}
use Rattle.kept_batches.specs.Recovery.{disk_of, place_of}
use Rattle.kept_batches.proofs.OnlyReading.{reads_twice, in_any_case, if_err}
use Rattle.kept_batches.proofs.recovery.Recovery.next_batch.Goals as goal

pub returns-clause-batch : goal.returns-clause-batch
returns-clause-batch g c =
    let stayed : place_of c.read-2.new.self ≡ place_of c.args.self.now = c.read-2.ensures.place ∙ (c.if-takes_marked-2.ensures.none refl).2 ∙ c.read.ensures.place ∙ (c.if-takes_marked.ensures.none refl).2 in
    subst (λ (n : ℕ). IfOk c.take_next.result (λ found. IsNone found → n < place_of c.take_next.new.self)) stayed c.take_next.ensures.batch

pub returns-clause-reads : goal.returns-clause-reads
returns-clause-reads g c =
    let first = subst (λ d. OnlyReads g.D.Disk d (disk_of c.read.new.self)) c.takes_marked.ensures.disk c.read.ensures.reads in
    let second = subst (λ d. OnlyReads g.D.Disk d (disk_of c.read-2.new.self)) c.takes_marked-2.ensures.disk c.read-2.ensures.reads in
    subst (λ d. OnlyReads g.D.Disk (disk_of c.args.self.now) d) (sym c.take_next.ensures.disk) (reads_twice g.D.Disk (disk_of c.args.self.now) (disk_of c.read.new.self) (disk_of c.read-2.new.self) first second)

pub returns-clause-calm : goal.returns-clause-calm
returns-clause-calm g c =
    in_any_case c.take_next.result
    (ap g.D.Disk.faults c.take_next.ensures.disk ∙ c.in_ok-read-2.ensures.calm ∙ ap g.D.Disk.faults c.takes_marked-2.ensures.disk ∙ c.in_ok-read.ensures.calm ∙ ap g.D.Disk.faults c.takes_marked.ensures.disk)

pub returns-clause-failed : goal.returns-clause-failed
returns-clause-failed g c = if_err c.take_next.result (λ e not is. absurd (not.0 is)) c.take_next.ensures.only_damaged
