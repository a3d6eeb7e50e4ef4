use Rattle.std.proofs.Common.{◌∙◌, refl}
use Rattle.kept_batches.proofs.OpenLemmas.{over_left, over_is}
use Rattle.kept_batches.proofs.opening.overwrite.Goals as goal

pub returns-in_err-write_at-clause-any_moment : goal.returns-in_err-write_at-clause-any_moment
returns-in_err-write_at-clause-any_moment g c front middle back e at size f left = over_left _ c.args.at _ front middle back e at size _ _ c.requires.durable c.write_at.ensures.crash f left

pub returns-in_err-sync-clause-any_moment : goal.returns-in_err-sync-clause-any_moment
returns-in_err-sync-clause-any_moment g c front middle back e at size f left = over_left _ c.args.at _ front middle back e at size _ _ c.requires.durable c.write_at.ensures.crash f (c.sync.ensures.crash f left)

pub returns-clause-any_moment : goal.returns-clause-any_moment
returns-clause-any_moment g c front middle back e at size f left = over_left _ c.args.at _ front middle back e at size _ _ c.requires.durable c.write_at.ensures.crash f (c.sync.ensures.crash f left)

pub returns-clause-file : goal.returns-clause-file
returns-clause-file g c front middle back e at size = c.sync.ensures.seen ∙ over_is _ c.args.at _ front middle back e at size _ _ refl c.write_at.ensures.others (c.in_ok-write_at.ensures.written c.requires.some)
