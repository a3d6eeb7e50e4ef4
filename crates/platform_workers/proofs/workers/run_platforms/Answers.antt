use Rattle.std.proofs.Common.{arith, ◌∙◌}
use Rattle.platform_workers.proofs.EachLemmas.{each_of_jobs}
use Rattle.platform_workers.proofs.workers.run_platforms.Goals as goal

pub returns-clause-each : goal.returns-clause-each
returns-clause-each g c =
    each_of_jobs _ _ (λ j. j.pass) (λ j. j.given) (λ j. j.end) c.jobs_of-jobs.result.items c.run_jobs.new.jobs.items c.args.passes.items c.args.pairs.items c.ended.result.items
    c.jobs_of-jobs.ensures.passes (c.jobs_of-jobs.ensures.given ∙ c.to_take.ensures.pairs) c.ended.ensures (omega (arith, c.run_jobs.ensures.len)) (λ place job within. c.run_jobs.ensures.each place job (omega (arith, within)))
