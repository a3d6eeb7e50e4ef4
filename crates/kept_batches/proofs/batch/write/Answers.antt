use Rattle.std.proofs.Common.{◌≡◌, ◌+◌, ℕ, List, length, drop, ◌∙◌, ap, subst, arith, rules, length-drop}
use Rattle.std.specs.Prelude.{OnOk}
use Rattle.kept_batches.specs.Inner.Writes.{Appends, AppendsAtAnyMoment}
use Rattle.kept_batches.proofs.Batches.{unsealed, unsealed_length}
use Rattle.kept_batches.proofs.batch.write.Goals as goal

pub returns-clause-len : goal.returns-clause-len
returns-clause-len g c =
    let size : length c.args.head.now ≡ 32 = search rules in
    let len : c.len-len.result ≡ 75 + length (drop 75 c.args.bytes.now.items) = omega (arith, c.len-len.ensures, c.requires.room, length-drop 75 c.args.bytes.now.items) in
    ap length c.truncate.ensures.items ∙ unsealed_length c.args.head.now (drop 75 c.args.bytes.now.items) c.seal.new.bytes.items c.len-len.result size len c.seal.ensures.sealed ∙ omega (arith, c.len-len.ensures)

pub returns-clause-lines : goal.returns-clause-lines
returns-clause-lines g c =
    let size : length c.args.head.now ≡ 32 = search rules in
    let len : c.len-len.result ≡ 75 + length (drop 75 c.args.bytes.now.items) = omega (arith, c.len-len.ensures, c.requires.room, length-drop 75 c.args.bytes.now.items) in
    ap (λ (l : List ℕ). drop 75 l) c.truncate.ensures.items ∙ unsealed c.args.head.now (drop 75 c.args.bytes.now.items) c.seal.new.bytes.items c.len-len.result size len c.seal.ensures.sealed

pub returns-clause-file : goal.returns-clause-file
returns-clause-file g c =
    subst (λ (t : List ℕ). OnOk c.write_batch-written.result (Appends (g.D.Disk.seen c.args.disk.now) c.args.end t (g.D.Disk.seen c.write_batch-written.new.disk))) (c.deref.ensures.value ∙ c.seal.ensures.sealed) c.write_batch-written.ensures.file

pub returns-clause-any_moment : goal.returns-clause-any_moment
returns-clause-any_moment g c =
    subst (λ (t : List ℕ). AppendsAtAnyMoment (g.D.Disk.seen c.args.disk.now) c.args.end t (g.D.Disk.may_leave c.write_batch-written.new.disk)) (c.deref.ensures.value ∙ c.seal.ensures.sealed) c.write_batch-written.ensures.any_moment
