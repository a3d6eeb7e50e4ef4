-- A run on its way.
use Rattle.std.specs.Prelude.{◌≡◌, ◌≢◌, ◌↔◌, ◌⊎◌, ℕ, Bool, true, false, List, [], Result, Ok, Err}
use Rattle.ocpi_types.specs.declared.config.Config.{Config}
use Rattle.request_lines.specs.Streams.{Writing}
use Rattle.shared_house.specs.declared.call.Call.{Call}
use Rattle.platform_workers.specs.declared.jobs.WorkerEnd.{WorkerEnd}
use Rattle.command_line.specs.declared.fault.Fault.{Fault}
use Rattle.command_line.specs.declared.fault.Fault.TheVariants.{NoMemory}
use Rattle.clear_cli.specs.Fault.{AreTold}
use Rattle.clear_cli.specs.HouseRun.{HaveWorked}
use Rattle.clear_cli.specs.Opening.{PlainNamed}
use Rattle.clear_cli.specs.Run.{IsEnded, IsLeftOpen, IsRun, NoneIsAnswered, Run, RunWords, StopsBy, worker_lines, worker_streams}

-- a house with these calls ended or not; it is told whether a line was told of a worker
abbrev pub WorkEnds : {I O V W : Type 0} → RunWords I O V W → Config → List (List Call) → O → O → W → W → List (List ℕ) → Result Bool Fault → Type 0
WorkEnds words config calls folder folder' writer writer' lines (Ok are_done) =
    IsEnded words.folder words.writing config calls folder folder' writer writer' × ((are_done ≡ true) ↔ (lines ≡ []))
WorkEnds words config calls folder folder' writer writer' lines (Err fault) =
    IsLeftOpen words.folder words.writing config calls folder folder' writer writer' fault

-- the workers ran and none of the pairs came back, those that failed were told, and the house ended or not
pub record HasWorked {I O V W S : Type 0} (words : RunWords I O V W) (writing : Writing S) (config : Config) (named : List PlainNamed) (pairs unanswered : List (I × V))
    (folder folder' : O) (writer writer' : W) (faults faults' : S) (result : Result Bool Fault) : Type 0 where
  pub calls : List (List Call)
  pub ends : List WorkerEnd
  pub worked : HaveWorked (worker_streams words) config pairs ends calls
  pub told : AreTold writing faults (worker_lines named ends) faults'
  pub end : WorkEnds words config calls folder folder' writer writer' (worker_lines named ends) result
  pub none_left : unanswered ≡ []

-- no worker began, since there is no memory, and the pairs came back as they were given
pub record HasNotBegun {I O V W S : Type 0} (pairs unanswered : List (I × V)) (folder folder' : O) (writer writer' : W) (faults faults' : S) (result : Result Bool Fault) : Type 0 where
  pub pairs_are : unanswered ≡ pairs
  pub folder_is : folder' ≡ folder
  pub writer_is : writer' ≡ writer
  pub faults_are : faults' ≡ faults
  pub result_is : result ≡ Err NoMemory

abbrev pub RunEnds : {I O V W : Type 0} → RunWords I O V W → Config → Run I O V W → List (List ℕ) → Result Bool Fault → Type 0
RunEnds words config run lines (Ok true) = (lines ≡ []) × IsRun words config run lines
RunEnds words config run lines (Ok false) = NoneIsAnswered words run lines ⊎ (IsRun words config run lines × (lines ≢ []))
RunEnds words config run lines (Err fault) = StopsBy words config run lines fault

-- under a configuration that reads, these lines were told before the result
pub record RunsUnder {I O V W S : Type 0} (words : RunWords I O V W) (writing : Writing S) (config : Config) (run : Run I O V W)
    (faults faults' : S) (result : Result Bool Fault) : Type 0 where
  pub lines : List (List ℕ)
  pub told : AreTold writing faults lines faults'
  pub end : RunEnds words config run lines result
