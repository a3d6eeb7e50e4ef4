-- From the jobs to the passes and pairs of which they were made.
use Rattle.std.proofs.Common.{◌≡◌, ℕ, ◌<◌, List, [], ◌∷◌, Option, Some, refl, sym, subst, map, get_or, length, arith, suc}
use Rattle.ocpi_types.specs.declared.config.Config.{Config}
use Rattle.shared_house.specs.PassView.{PassView}
use Rattle.platform_workers.specs.declared.jobs.WorkerEnd.{WorkerEnd}
use Rattle.platform_workers.specs.Inner.Jobs.{JobRan}
use Rattle.platform_workers.specs.Workers.{EachRan, Streams}

-- what is so of the job at each place is so of the lists
each_ran : {I O J : Type 0} (streams : Streams I O) (config : Config) (pass_of : J → PassView) (pair_of : J → Option (I × O)) (end_of : J → WorkerEnd) (old new : List J) (pairs : List (I × O))
    → map pair_of old ≡ map Some pairs
    → length new ≡ length old
    → ((place : ℕ) (job : J) → place < length old → JobRan streams config (pass_of (get_or old place job)) (pair_of (get_or old place job)) (pass_of (get_or new place job)) (pair_of (get_or new place job)) (end_of (get_or new place job)))
    → EachRan streams config (map pass_of old) pairs (map (λ j. (pass_of j, end_of j)) new)
each_ran streams config pass_of pair_of end_of [] [] [] are len ran = (refl, refl)
each_ran streams config pass_of pair_of end_of [] [] (pair ∷ pairs) are len ran = absurd cc
each_ran streams config pass_of pair_of end_of [] (job ∷ new) pairs are len ran = absurd (omega (arith, len))
each_ran streams config pass_of pair_of end_of (job ∷ old) [] pairs are len ran = absurd (omega (arith, len))
each_ran streams config pass_of pair_of end_of (before ∷ old) (after ∷ new) [] are len ran = absurd cc
each_ran streams config pass_of pair_of end_of (before ∷ old) (after ∷ new) (pair ∷ pairs) are len ran = (
  (ran 0 before (omega arith)).ran pair (cc),
  each_ran streams config pass_of pair_of end_of old new pairs (cc) (omega (arith, len)) (λ place job within. ran (suc place) job (omega (arith, within))),
)

pub each_of_jobs : {I O J : Type 0} (streams : Streams I O) (config : Config) (pass_of : J → PassView) (pair_of : J → Option (I × O)) (end_of : J → WorkerEnd) (old new : List J) (passes : List PassView) (pairs : List (I × O)) (ended : List (PassView × WorkerEnd))
    → map pass_of old ≡ passes
    → map pair_of old ≡ map Some pairs
    → ended ≡ map (λ j. (pass_of j, end_of j)) new
    → length new ≡ length old
    → ((place : ℕ) (job : J) → place < length old → JobRan streams config (pass_of (get_or old place job)) (pair_of (get_or old place job)) (pass_of (get_or new place job)) (pair_of (get_or new place job)) (end_of (get_or new place job)))
    → EachRan streams config passes pairs ended
each_of_jobs streams config pass_of pair_of end_of old new passes pairs ended of_passes of_pairs to_ended len ran =
    subst (λ x. EachRan streams config x pairs ended) of_passes
    (subst (λ x. EachRan streams config (map pass_of old) pairs x) (sym to_ended)
    (each_ran streams config pass_of pair_of end_of old new pairs of_pairs len ran))
