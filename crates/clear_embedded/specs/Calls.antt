-- What each function that C calls does to the house that C holds, if it holds one.
use Rattle.std.specs.Prelude.{◌≡◌, ℕ, List, Option, Some, None, Ok, Err}
use Rattle.ocpi_json.specs.declared.member_fault.MemberFault.{MemberFault}
use Rattle.ocpi_types.specs.declared.config.Config.{Config}
use Rattle.ocpi_types.specs.declared.config.reading.ConfigFault.TheVariants as fault
use Rattle.ocpi_types.specs.declared.config.reading.ConfigFault.TheVariants.{Syntax}
use Rattle.ocpi_types.specs.ConfigText.{config_of}
use Rattle.clear_embedded.specs.Answering.{Buffer, IsAnswered, IsExplained, IsGivenAgain, IsUnwritten, opened}
use Rattle.clear_embedded.specs.Standing.{Standing}
use Rattle.clear_embedded.specs.declared.code.Code.{Code}
use Rattle.clear_embedded.specs.declared.code.Code.TheVariants.{Done, NoMemory, Closed, Open, NoJson, Member, NoLine, Kept, TooSmall, NotWritten, NothingKept, NotRefused}

-- an empty house is opened if the bytes are a configuration and there is memory
abbrev pub IsOpened : Code → List ℕ → Option Standing → Type 0
IsOpened Done bytes pointer' = (config : Config) × (config_of bytes ≡ Ok config) × (pointer' ≡ Some (opened config))
IsOpened NoJson bytes pointer' = (config_of bytes ≡ Err Syntax) × (pointer' ≡ None)
IsOpened Member bytes pointer' = (found : MemberFault) × (config_of bytes ≡ Err (fault.Member found)) × (pointer' ≡ None)
IsOpened NoMemory bytes pointer' = pointer' ≡ None
IsOpened Closed bytes pointer' = ⊥
IsOpened Open bytes pointer' = ⊥
IsOpened NoLine bytes pointer' = ⊥
IsOpened Kept bytes pointer' = ⊥
IsOpened TooSmall bytes pointer' = ⊥
IsOpened NotWritten bytes pointer' = ⊥
IsOpened NothingKept bytes pointer' = ⊥
IsOpened NotRefused bytes pointer' = ⊥

-- a house is opened if none is open
abbrev pub OpenIs : Code → Option Standing → List ℕ → Option Standing → Type 0
OpenIs code (Some house) bytes pointer' = (code ≡ Open) × (pointer' ≡ Some house)
OpenIs code None bytes pointer' = IsOpened code bytes pointer'

-- the open house, if there is one, answers a line
abbrev pub AnswerIs : Code → Option Standing → List ℕ → Option Standing → Buffer → Type 0
AnswerIs code None line pointer' buffer = (code ≡ Closed) × (pointer' ≡ None) × IsUnwritten buffer
AnswerIs code (Some house) line pointer' buffer = (house' : Standing) × (pointer' ≡ Some house') × IsAnswered code house line house' buffer

-- the open house, if there is one, writes what it keeps
abbrev pub AgainIs : Code → Option Standing → Option Standing → Buffer → Type 0
AgainIs code None pointer' buffer = (code ≡ Closed) × (pointer' ≡ None) × IsUnwritten buffer
AgainIs code (Some house) pointer' buffer = (house' : Standing) × (pointer' ≡ Some house') × IsGivenAgain code house house' buffer

-- the open house, if there is one, writes why it refused the last line, and stays as it is
abbrev pub CauseIs : Code → Option Standing → Option Standing → Buffer → Type 0
CauseIs code None pointer' buffer = (code ≡ Closed) × (pointer' ≡ None) × IsUnwritten buffer
CauseIs code (Some house) pointer' buffer = (pointer' ≡ Some house) × IsExplained code house buffer
