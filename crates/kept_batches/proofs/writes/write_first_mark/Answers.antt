use Rattle.std.proofs.Common.{◌∙◌, arith}
use Rattle.kept_batches.proofs.WriteLemmas.{begin_left, begin_is}
use Rattle.kept_batches.proofs.writes.write_first_mark.Goals as goal

pub returns-in_err-write_at-clause-any_moment : goal.returns-in_err-write_at-clause-any_moment
returns-in_err-write_at-clause-any_moment g c u f left = begin_left _ u _ _ c.requires.durable c.write_at.ensures.crash f left

pub returns-in_err-sync-clause-any_moment : goal.returns-in_err-sync-clause-any_moment
returns-in_err-sync-clause-any_moment g c u f left = begin_left _ u _ _ c.requires.durable c.write_at.ensures.crash f (c.sync.ensures.crash f left)

pub returns-clause-any_moment : goal.returns-clause-any_moment
returns-clause-any_moment g c u f left = begin_left _ u _ _ c.requires.durable c.write_at.ensures.crash f (c.sync.ensures.crash f left)

pub returns-clause-file : goal.returns-clause-file
returns-clause-file g c u = c.sync.ensures.seen ∙ begin_is _ _ u c.write_at.ensures.others (c.in_ok-write_at.ensures.written (omega arith))
