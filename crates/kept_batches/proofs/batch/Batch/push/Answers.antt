use Rattle.kept_batches.proofs.Batches.{pushed}
use Rattle.kept_batches.proofs.batch.Batch.push.Goals as goal

pub invariant_of-self : goal.invariant_of-self
invariant_of-self c =
    let p = pushed c.add.result c.args.self.now.bytes.items c.args.line.now c.add.new.bytes.items c.requires c.args.self.now.room c.args.self.now.whole c.add.ensures.ok c.add.ensures.err in
    record { room = p.long; whole = p.whole; mark_fits = c.add.ensures.mark_fits }

pub returns-clause-ok : goal.returns-clause-ok
returns-clause-ok c = (pushed c.add.result c.args.self.now.bytes.items c.args.line.now c.add.new.bytes.items c.requires c.args.self.now.room c.args.self.now.whole c.add.ensures.ok c.add.ensures.err).lines
