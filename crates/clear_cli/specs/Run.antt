-- How the program answers the files of a run.
use Rattle.std.specs.Prelude.{◌≡◌, ◌≢◌, ◌⊎◌, ℕ, List, [], ◌∷◌, ◌++◌, codes, decimal, length, Ok, Err}
use Rattle.ocpi_types.specs.declared.config.Config.{Config}
use Rattle.plain_house.specs.declared.event.Event.{Event}
use Rattle.plain_house.specs.Entries.{period_of}
use Rattle.request_lines.specs.declared.faults.ScriptFault.{ScriptFault}
use Rattle.request_lines.specs.declared.faults.ScriptFault.TheVariants as script
use Rattle.request_lines.specs.Streams.{Reading, Writing}
use Rattle.shared_house.specs.declared.finishing.FinishFault.{FinishFault}
use Rattle.shared_house.specs.declared.call.Call.{Call}
use Rattle.shared_house.specs.Finished.{IsFinished}
use Rattle.platform_workers.specs.declared.jobs.WorkerEnd.{WorkerEnd}
use Rattle.platform_workers.specs.declared.jobs.WorkerEnd.TheVariants.{Done, Failed}
use Rattle.platform_workers.specs.Workers.{Streams, streams_of}
use Rattle.command_line.specs.declared.fault.Fault.{Fault}
use Rattle.command_line.specs.declared.fault.Fault.TheVariants.{CannotWrite, LineTooLong, NoMemory}
use Rattle.clear_cli.specs.declared.schedule_text.WriteFault.{WriteFault}
use Rattle.clear_cli.specs.Differences.{difference_count}
use Rattle.command_line.specs.Fault.{cannot_read_text, fault_line, fault_text, file_line}
use Rattle.clear_cli.specs.Fault.{finish_fault, write_fault}
use Rattle.clear_cli.specs.Folder.{AreLeft, AreWritten, FolderWords, Making, folder_words}
use Rattle.clear_cli.specs.HouseRun.{HaveWorked, IsUnfinished}
use Rattle.clear_cli.specs.Opening.{AreOpened, GivenFile, PlainNamed}
use Rattle.clear_cli.specs.Outputs.{outputs}
use Rattle.clear_cli.specs.ScheduleWritten.{StopsWriting}
use Rattle.clear_cli.specs.Script.{config_or_fault}

-- what readers, a folder and its files, and a writer state of themselves
pub record RunWords (I O V W : Type 0) : Type 1 where
  pub reading : Reading I
  pub folder : FolderWords O V
  pub writing : Writing W

abbrev pub run_words : {I O V W : Type 0} → Reading I → Making O V → Writing V → Writing W → RunWords I O V W
run_words reading making answers writing = record { reading = reading; folder = folder_words making answers; writing = writing }

abbrev pub worker_streams : {I O V W : Type 0} → RunWords I O V W → Streams I V
worker_streams words = streams_of words.reading words.folder.writing

-- the files of a run, the folder and the writer before and after it, and the pairs of a reader and an answer file that came back,
-- as no worker began with them
pub record Run (I O V W : Type 0) : Type 0 where
  pub files : List (GivenFile I)
  pub unanswered : List (I × V)
  pub folder : O
  pub folder' : O
  pub writer : W
  pub writer' : W

abbrev pub run_of : {I O V W : Type 0} → List (GivenFile I) → List (I × V) → O → O → W → W → Run I O V W
run_of files unanswered folder folder' writer writer' =
    record { files = files; unanswered = unanswered; folder = folder; folder' = folder'; writer = writer; writer' = writer' }

-- ---- lines

-- the fault of a worker, whose file has this path
abbrev pub worker_text : List ℕ → ScriptFault → List ℕ
worker_text path script.Read = cannot_read_text path
worker_text path (script.Write written) = fault_text CannotWrite
worker_text path script.NoMemory = fault_text NoMemory
worker_text path (script.LineTooLong line) = fault_text (LineTooLong line)

abbrev pub worker_line : PlainNamed → WorkerEnd → List (List ℕ)
worker_line named (Done count) = []
worker_line named (Failed fault) = file_line named.number (worker_text named.path fault) ∷ []

-- those of the workers that failed, in the order of their files
abbrev pub worker_lines : List PlainNamed → List WorkerEnd → List (List ℕ)
worker_lines [] ends = []
worker_lines (named ∷ others) [] = []
worker_lines (named ∷ others) (end ∷ ends) = worker_line named end ++ worker_lines others ends

-- the last line of standard output
abbrev pub counts_text : ℕ → ℕ → ℕ → List ℕ
counts_text events periods differences =
    codes "events " ++ (decimal events ++ (codes " periods " ++ (decimal periods ++ (codes " differences " ++ (decimal differences ++ codes "\n")))))

abbrev pub counts_of : Config → List Event → List ℕ
counts_of config events = counts_text (length events) (period_of events) (difference_count config events)

-- the writer took the line
abbrev pub IsLineWritten : {W : Type 0} → Writing W → List ℕ → W → W → Type 0
IsLineWritten writing line writer writer' = writing.takes writer line writer' × (writing.failed writer' ≡ writing.failed writer)

-- ---- the stages

-- the files were opened and nothing else was done: each reader and each answer file came back as the opening left it; these lines
-- were told
pub record AreOnlyOpened {I O V W : Type 0} (words : RunWords I O V W) (run : Run I O V W) (lines : List (List ℕ)) : Type 0 where
  pub named : List PlainNamed
  pub opened : AreOpened words.folder run.files run.folder run.folder' named run.unanswered lines
  pub writer_is : run.writer' ≡ run.writer

-- the files were opened, and the lines of those that are answered were answered by workers of one house, whose passes have these
-- calls; these lines were told, and this is the folder then
pub record AreAnswered {I O V W : Type 0} (words : RunWords I O V W) (config : Config) (run : Run I O V W) (folder : O) (calls : List (List Call)) (lines : List (List ℕ)) : Type 0 where
  pub named : List PlainNamed
  pub pairs : List (I × V)
  pub before : List (List ℕ)
  pub opened : AreOpened words.folder run.files run.folder folder named pairs before
  pub ends : List WorkerEnd
  pub worked : HaveWorked (worker_streams words) config pairs ends calls
  pub lines_are : lines ≡ before ++ worker_lines named ends
  pub none_left : run.unanswered ≡ []

-- the house finished with these calls, and its files and the last line are written
pub record IsEnded {O V W : Type 0} (words : FolderWords O V) (writing : Writing W) (config : Config) (calls : List (List Call)) (folder folder' : O) (writer writer' : W) : Type 0 where
  pub events : List Event
  pub finished : IsFinished config calls events
  pub written : AreWritten words (outputs config events) folder folder'
  pub counted : IsLineWritten writing (counts_of config events) writer writer'

-- the files are answered, and the house ended; these lines were told
pub record IsRun {I O V W : Type 0} (words : RunWords I O V W) (config : Config) (run : Run I O V W) (lines : List (List ℕ)) : Type 0 where
  pub folder : O
  pub calls : List (List Call)
  pub answered : AreAnswered words config run folder calls lines
  pub ended : IsEnded words.folder words.writing config calls folder run.folder' run.writer run.writer'

-- and no line was told: each file was opened, its answer file was made, and its worker was done
pub record IsDone {I O V W : Type 0} (words : RunWords I O V W) (run : Run I O V W) (file : List ℕ) : Type 0 where
  pub config : Config
  pub reads : config_or_fault file ≡ Ok config
  pub is_run : IsRun words config run []

-- ---- faults

-- the house did not finish, and nothing is written
pub record IsLeftUnfinished (config : Config) (calls : List (List Call)) (fault : Fault) : Type 0 where
  pub cause : FinishFault
  pub fault_is : fault ≡ finish_fault cause
  pub unfinished : IsUnfinished config calls cause

-- the house finished, and not all its files are written
pub record FilesAreLeft {O V : Type 0} (words : FolderWords O V) (config : Config) (calls : List (List Call)) (folder folder' : O) (fault : Fault) : Type 0 where
  pub events : List Event
  pub finished : IsFinished config calls events
  pub cause : WriteFault
  pub fault_is : fault ≡ write_fault cause
  pub left : AreLeft words (outputs config events) folder folder' cause

-- the last line is not written: there is no memory, or the writer failed within it
abbrev pub IsLineLeft : {W : Type 0} → Writing W → List ℕ → W → W → Fault → Type 0
IsLineLeft writing line writer writer' fault =
    ((fault ≡ NoMemory) × (writer' ≡ writer)) ⊎ ((fault ≡ CannotWrite) × StopsWriting writing line writer writer')

-- the house's files are written, and the last line is not
pub record CountsAreLeft {O V W : Type 0} (words : FolderWords O V) (writing : Writing W) (config : Config) (calls : List (List Call)) (folder folder' : O) (writer writer' : W) (fault : Fault) : Type 0 where
  pub events : List Event
  pub finished : IsFinished config calls events
  pub written : AreWritten words (outputs config events) folder folder'
  pub left : IsLineLeft writing (counts_of config events) writer writer' fault

-- the house did not end
abbrev pub IsLeftOpen : {O V W : Type 0} → FolderWords O V → Writing W → Config → List (List Call) → O → O → W → W → Fault → Type 0
IsLeftOpen words writing config calls folder folder' writer writer' fault =
    ((folder' ≡ folder) × (writer' ≡ writer) × IsLeftUnfinished config calls fault)
    ⊎ (((writer' ≡ writer) × FilesAreLeft words config calls folder folder' fault)
    ⊎ CountsAreLeft words writing config calls folder folder' writer writer' fault)

-- the files are answered, and the house did not end; these lines were told before the fault
pub record IsCutShort {I O V W : Type 0} (words : RunWords I O V W) (config : Config) (run : Run I O V W) (lines : List (List ℕ)) (fault : Fault) : Type 0 where
  pub folder : O
  pub calls : List (List Call)
  pub answered : AreAnswered words config run folder calls lines
  pub left : IsLeftOpen words.folder words.writing config calls folder run.folder' run.writer run.writer' fault

-- nothing is done, and no line was told
pub record IsUntouched {I O V W : Type 0} (run : Run I O V W) (lines : List (List ℕ)) : Type 0 where
  pub folder_is : run.folder' ≡ run.folder
  pub writer_is : run.writer' ≡ run.writer
  pub no_lines : lines ≡ []

-- under a configuration that reads, these lines were told, and then a fault: there was no memory and no line was answered, or
-- the files are answered and the house did not end
abbrev pub StopsBy : {I O V W : Type 0} → RunWords I O V W → Config → Run I O V W → List (List ℕ) → Fault → Type 0
StopsBy words config run lines fault =
    ((fault ≡ NoMemory) × (IsUntouched run lines ⊎ AreOnlyOpened words run lines)) ⊎ IsCutShort words config run lines fault

-- none of the files is answered, since none has a reader and an answer file
abbrev pub NoneIsAnswered : {I O V W : Type 0} → RunWords I O V W → Run I O V W → List (List ℕ) → Type 0
NoneIsAnswered words run lines = AreOnlyOpened words run lines × (run.unanswered ≡ [])

-- the configuration reads, and these lines were told in all
pub record FailsUnder {I O V W : Type 0} (words : RunWords I O V W) (run : Run I O V W) (file : List ℕ) (lines : List (List ℕ)) : Type 0 where
  pub config : Config
  pub reads : config_or_fault file ≡ Ok config
  pub ended : NoneIsAnswered words run lines ⊎ ((IsRun words config run lines × (lines ≢ []))
      ⊎ ((before : List (List ℕ)) × (fault : Fault) × StopsBy words config run before fault × (lines ≡ before ++ fault_line fault ∷ [])))

-- nothing is done, since the configuration does not read or there is no memory, and its fault alone was told
pub record IsRefused {I O V W : Type 0} (run : Run I O V W) (file : List ℕ) (lines : List (List ℕ)) : Type 0 where
  pub fault : Fault
  pub folder_is : run.folder' ≡ run.folder
  pub writer_is : run.writer' ≡ run.writer
  pub reads : fault ≢ NoMemory → config_or_fault file ≡ Err fault
  pub lines_are : lines ≡ fault_line fault ∷ []

-- these lines were told in all
abbrev pub Fails : {I O V W : Type 0} → RunWords I O V W → Run I O V W → List ℕ → List (List ℕ) → Type 0
Fails words run file lines = IsRefused run file lines ⊎ FailsUnder words run file lines
