use Rattle.std.proofs.Common.{◌≡◌, ◌⊎◌, ◌∙◌, [], sym, subst}
use Rattle.std.specs.Prelude.{IsTrue}
use Rattle.kept_batches.specs.Batch.{lines_of}
use Rattle.kept_batches.specs.Verdict.{kept_in}
use Rattle.kept_batches.specs.Reading.{OnlyReads}
use Rattle.kept_batches.specs.Recovery.{disk_of}
use Rattle.kept_house.specs.Beginning.{IsDiskFault}
use Rattle.kept_house.specs.declared.fault.StoreFault.{StoreFault}
use Rattle.kept_house.proofs.BeginningLemmas.{disk_or_untouched, none_or_batch}
use Rattle.kept_house.proofs.beginning.begin_empty.Goals as goal

pub returns-in-Err-clause-untouched : goal.returns-in-Err-clause-untouched
returns-in-Err-clause-untouched g c now =
    let Untouched : Type 0 = OnlyReads g.D.Disk (disk_of c.args.recovery) c.in-Err.field-0.disk in
    subst (λ (f : StoreFault). IsDiskFault f ⊎ Untouched) (sym c.from.ensures) (disk_or_untouched c.in-Err.field-0.cause c.in-Err.ensures.untouched)

pub returns-clause-any_moment : goal.returns-clause-any_moment
returns-clause-any_moment g c now file left =
    let was = subst IsTrue c.append-appended.ensures.clean now in
    let none : kept_in (g.D.Disk.seen c.in-Ok.log.disk) ≡ [] = (c.in-Ok.ensures.lines was).0 ∙ c.requires.none (c.in-Ok.ensures.clean was) in
    none_or_batch c.verdict_is_right.ensures (kept_in (g.D.Disk.seen c.in-Ok.log.disk)) (lines_of c.args.batch) file none (c.append-appended.ensures.any_moment now file left)
