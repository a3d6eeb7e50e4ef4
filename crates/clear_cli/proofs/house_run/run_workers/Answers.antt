use Rattle.clear_cli.proofs.HouseLemmas.{have_worked}
use Rattle.clear_cli.proofs.house_run.run_workers.Goals as goal

pub returns-in-Ok-run_platforms-clause-worked : goal.returns-in-Ok-run_platforms-clause-worked
returns-in-Ok-run_platforms-clause-worked g c =
    have_worked _ g.N.BookEntries.Configured.config c.args.passes.items c.args.pairs.items c.in-Ok-run_platforms.workers.items c.split.result.passes.items c.split.result.ends.items
    c.requires.fresh c.in-Ok-run_platforms.ensures.each c.split.ensures.passes c.split.ensures.ends
