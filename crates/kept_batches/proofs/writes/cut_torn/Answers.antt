use Rattle.std.proofs.Common.{◌∙◌}
use Rattle.kept_batches.proofs.WriteLemmas.{cut_left, cut_is}
use Rattle.kept_batches.proofs.writes.cut_torn.Goals as goal

pub returns-in_err-set_len-clause-any_moment : goal.returns-in_err-set_len-clause-any_moment
returns-in_err-set_len-clause-any_moment g c batches t e f left = cut_left _ c.args.size batches t e _ _ c.requires.durable c.set_len.ensures.crash f left

pub returns-in_err-sync-clause-any_moment : goal.returns-in_err-sync-clause-any_moment
returns-in_err-sync-clause-any_moment g c batches t e f left = cut_left _ c.args.size batches t e _ _ c.requires.durable c.set_len.ensures.crash f (c.sync.ensures.crash f left)

pub returns-clause-any_moment : goal.returns-clause-any_moment
returns-clause-any_moment g c batches t e f left = cut_left _ c.args.size batches t e _ _ c.requires.durable c.set_len.ensures.crash f (c.sync.ensures.crash f left)

pub returns-clause-file : goal.returns-clause-file
returns-clause-file g c batches t e = c.sync.ensures.seen ∙ cut_is _ c.args.size batches t e _ c.set_len.ensures.others c.in_ok-set_len.ensures.len
