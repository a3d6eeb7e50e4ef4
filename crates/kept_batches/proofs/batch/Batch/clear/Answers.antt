use Rattle.std.proofs.Common.{◌≡◌, length, ◌∙◌, ap, arith}
use Rattle.std.proofs.lemmas.List.{length-take-le}
use Rattle.kept_batches.proofs.Batches.{no_lines, none_whole}
use Rattle.kept_batches.proofs.batch.Batch.clear.Goals as goal

pub invariant_of-self : goal.invariant_of-self
invariant_of-self c =
    let size : length c.truncate.new.self.items ≡ 75 = ap length c.truncate.ensures.items ∙ length-take-le 75 c.args.self.now.bytes.items c.args.self.now.room in
    record { room = omega (arith, size); whole = none_whole c.truncate.new.self.items size; mark_fits = omega (arith, c.truncate.ensures.len, c.truncate.ensures.capacity, c.args.self.now.mark_fits) }

pub returns : goal.returns
returns c = no_lines c.truncate.new.self.items (ap length c.truncate.ensures.items ∙ length-take-le 75 c.args.self.now.bytes.items c.args.self.now.room)
