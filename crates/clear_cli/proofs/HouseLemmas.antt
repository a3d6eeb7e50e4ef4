-- A house and its workers.
use Rattle.std.proofs.Common.{◌≡◌, ap, ◌∙◌, List, [], map, All}
use Rattle.std.proofs.lemmas.Simd.{map-map}
use Rattle.ocpi_types.specs.declared.config.Config.{Config}
use Rattle.shared_house.specs.PassView.{PassView}
use Rattle.platform_workers.specs.declared.jobs.WorkerEnd.{WorkerEnd}
use Rattle.platform_workers.specs.Workers.{EachRan, Streams}
use Rattle.clear_cli.specs.HouseRun.{HaveWorked}

-- the passes that workers left, and the ends of the workers, put into two lists
pub have_worked : {I V : Type 0} (streams : Streams I V) (config : Config) (passes : List PassView) (pairs : List (I × V)) (left : List (PassView × WorkerEnd)) (passes' : List PassView) (ends : List WorkerEnd) →
    All (λ pass. pass.calls ≡ []) passes → EachRan streams config passes pairs left → passes' ≡ map (λ worker. worker.0) left → ends ≡ map (λ worker. worker.1) left →
    HaveWorked streams config pairs ends (map (λ pass. pass.calls) passes')
have_worked streams config passes pairs left passes' ends fresh ran passes_are ends_are = record {
  passes = passes;
  left = left;
  fresh = fresh;
  ran = ran;
  ends_are = ends_are;
  calls_are = ap (map (λ (pass : PassView). pass.calls)) passes_are ∙ map-map (λ (pass : PassView). pass.calls) (λ (worker : PassView × WorkerEnd). worker.0) left;
}
