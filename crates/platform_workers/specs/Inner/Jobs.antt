-- What a worker did with its job.
use Rattle.std.specs.Prelude.{◌≡◌, Option, Some, None}
use Rattle.ocpi_types.specs.declared.config.Config.{Config}
use Rattle.shared_house.specs.PassView.{PassView}
use Rattle.platform_workers.specs.declared.jobs.WorkerEnd.{WorkerEnd}
use Rattle.platform_workers.specs.Workers.{Streams, WorkerRan}

-- a worker ran with the pair that the job held, and the job holds it no longer
pub record JobRan {I O : Type 0} (streams : Streams I O) (config : Config) (pass : PassView) (given : Option (I × O)) (pass' : PassView) (given' : Option (I × O)) (end : WorkerEnd) : Type 0 where
  pub ran : (pair : I × O) → given ≡ Some pair → WorkerRan streams config pass pair pass' end
  pub taken : given' ≡ None
