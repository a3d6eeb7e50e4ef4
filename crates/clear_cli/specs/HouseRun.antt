-- A house whose workers answer files, from its first line to its end.
use Rattle.std.specs.Prelude.{◌≡◌, [], List, map, All}
use Rattle.ocpi_types.specs.declared.config.Config.{Config}
use Rattle.shared_house.specs.declared.finishing.FinishFault.{FinishFault}
use Rattle.shared_house.specs.declared.finishing.FinishFault.TheVariants.{MissingPass, NoMemory, Torn}
use Rattle.shared_house.specs.declared.call.Call.{Call}
use Rattle.shared_house.specs.Finished.{IsTornInEnd}
use Rattle.shared_house.specs.PassView.{PassView}
use Rattle.platform_workers.specs.declared.jobs.WorkerEnd.{WorkerEnd}
use Rattle.platform_workers.specs.Workers.{EachRan, Streams}

-- the calls of a pass that a worker left
abbrev pub calls_left : PassView × WorkerEnd → List Call
calls_left left = left.0.calls

-- a worker ran for each pair, with a pass of its own that had made no calls; these are the ends of the workers, and the calls of
-- their passes
pub record HaveWorked {I V : Type 0} (streams : Streams I V) (config : Config) (pairs : List (I × V)) (ends : List WorkerEnd) (calls : List (List Call)) : Type 0 where
  pub passes : List PassView
  pub left : List (PassView × WorkerEnd)
  pub fresh : All (λ pass. pass.calls ≡ []) passes
  pub ran : EachRan streams config passes pairs left
  pub ends_are : ends ≡ map (λ worker. worker.1) left
  pub calls_are : calls ≡ map calls_left left

-- the house did not finish with these calls
abbrev pub IsUnfinished : Config → List (List Call) → FinishFault → Type 0
IsUnfinished config calls MissingPass = ⊥
IsUnfinished config calls (Torn entry) = IsTornInEnd config calls entry
IsUnfinished config calls NoMemory = Unit {0}
