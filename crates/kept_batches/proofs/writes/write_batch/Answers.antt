use Rattle.std.proofs.Common.{◌∙◌, arith}
use Rattle.kept_batches.proofs.WriteLemmas.{stage_left, stage_is, mark_left, mark_is, some}
use Rattle.kept_batches.proofs.writes.write_batch.Goals as goal

pub returns-in_err-write_at-clause-any_moment : goal.returns-in_err-write_at-clause-any_moment
returns-in_err-write_at-clause-any_moment g c batches batch n f left =
    stage_left _ c.args.end c.args.text.now batches batch n _ _ c.requires.durable c.write_at.ensures.crash f left

pub returns-in_err-sync-clause-any_moment : goal.returns-in_err-sync-clause-any_moment
returns-in_err-sync-clause-any_moment g c batches batch n f left =
    stage_left _ c.args.end c.args.text.now batches batch n _ _ c.requires.durable c.write_at.ensures.crash f (c.sync.ensures.crash f left)

pub returns-in_err-write_at-2-clause-any_moment : goal.returns-in_err-write_at-2-clause-any_moment
returns-in_err-write_at-2-clause-any_moment g c batches batch n f left =
    let is = stage_is _ c.args.end c.args.text.now batches batch n _ c.write_at.ensures.others (c.in_ok-write_at.ensures.written (some _ c.args.end c.args.text.now batches batch n)) in
    mark_left _ c.args.end c.args.text.now batches batch n _ _ _ is c.in_ok-sync.ensures.durable c.write_at-2.ensures.crash f left

pub returns-in_err-sync-2-clause-any_moment : goal.returns-in_err-sync-2-clause-any_moment
returns-in_err-sync-2-clause-any_moment g c batches batch n f left =
    let is = stage_is _ c.args.end c.args.text.now batches batch n _ c.write_at.ensures.others (c.in_ok-write_at.ensures.written (some _ c.args.end c.args.text.now batches batch n)) in
    mark_left _ c.args.end c.args.text.now batches batch n _ _ _ is c.in_ok-sync.ensures.durable c.write_at-2.ensures.crash f (c.sync-2.ensures.crash f left)

pub returns-clause-any_moment : goal.returns-clause-any_moment
returns-clause-any_moment g c batches batch n f left =
    let is = stage_is _ c.args.end c.args.text.now batches batch n _ c.write_at.ensures.others (c.in_ok-write_at.ensures.written (some _ c.args.end c.args.text.now batches batch n)) in
    mark_left _ c.args.end c.args.text.now batches batch n _ _ _ is c.in_ok-sync.ensures.durable c.write_at-2.ensures.crash f (c.sync-2.ensures.crash f left)

pub returns-clause-file : goal.returns-clause-file
returns-clause-file g c batches batch n =
    let is = stage_is _ c.args.end c.args.text.now batches batch n _ c.write_at.ensures.others (c.in_ok-write_at.ensures.written (some _ c.args.end c.args.text.now batches batch n)) in
    c.sync-2.ensures.seen ∙ mark_is _ c.args.end c.args.text.now batches batch n _ _ (c.sync.ensures.seen ∙ is) c.write_at-2.ensures.others (c.in_ok-write_at-2.ensures.written (omega arith))
