-- How the files of a run are opened, and their answer files made.
use Rattle.std.specs.Prelude.{◌≡◌, ℕ, suc, List, [], ◌∷◌, ◌++◌, codes, decimal, flat_map, Option, Some, None, String, string_bytes}
use Rattle.std.proofs.Common.{Global}
use Rattle.clear_cli.specs.declared.schedule_text.WriteFault.{WriteFault}
use Rattle.command_line.specs.Fault.{cannot_read_text, fault_text, file_line}
use Rattle.clear_cli.specs.Fault.{write_fault}
use Rattle.clear_cli.specs.Folder.{FolderWords, IsUnmade}

-- a file that is to be answered: its path and, where it could be opened, its reader
pub record GivenFile (I : Type 0) : Type 0 where
  pub path : List ℕ
  pub reader : Option I

abbrev pub given_file : {I : Type 0} → String Global × Option I → GivenFile I
given_file file = record { path = string_bytes file.0; reader = file.1 }

-- what becomes of a file: it could not be opened, or there is no answer file for this cause, or it has a reader and an answer file
pub data Fate (I V : Type 0) : Type 0 where
  Unopened : Fate I V
  Unmade : (cause : WriteFault) → Fate I V
  Opened : (reader : I) (answers : V) → Fate I V

-- a file that is answered, by its number from 1 and its path
pub record PlainNamed : Type 0 where
  pub number : ℕ
  pub path : List ℕ

-- ---- one file, by its number

abbrev pub answers_name : ℕ → List ℕ
answers_name number = codes "answers-" ++ (decimal number ++ codes ".jsonl")

abbrev pub HasFate : {I O V : Type 0} → FolderWords O V → ℕ → Option I → O → Fate I V → O → Type 0
HasFate words number None folder Unopened folder' = folder' ≡ folder
HasFate words number None folder (Unmade cause) folder' = ⊥
HasFate words number None folder (Opened reader answers) folder' = ⊥
HasFate words number (Some given) folder Unopened folder' = ⊥
HasFate words number (Some given) folder (Unmade cause) folder' = IsUnmade words.making (answers_name number) folder folder' cause
HasFate words number (Some given) folder (Opened reader answers) folder' =
    (reader ≡ given) × words.making.makes folder (answers_name number) answers folder'

abbrev pub unopened_line : {I : Type 0} → ℕ → List ℕ → Option I → List (List ℕ)
unopened_line number path None = file_line number (cannot_read_text path) ∷ []
unopened_line number path (Some reader) = []

abbrev pub unmade_line : {I V : Type 0} → ℕ → Fate I V → List (List ℕ)
unmade_line number Unopened = []
unmade_line number (Unmade cause) = file_line number (fault_text (write_fault cause)) ∷ []
unmade_line number (Opened reader answers) = []

abbrev pub named_in : {I V : Type 0} → ℕ → List ℕ → Fate I V → List PlainNamed
named_in number path Unopened = []
named_in number path (Unmade cause) = []
named_in number path (Opened reader answers) = record { number = number; path = path } ∷ []

abbrev pub pair_in : {I V : Type 0} → Fate I V → List (I × V)
pair_in Unopened = []
pair_in (Unmade cause) = []
pair_in (Opened reader answers) = (reader, answers) ∷ []

-- ---- many files, the first of which has this number

abbrev pub HaveFates : {I O V : Type 0} → FolderWords O V → ℕ → List (GivenFile I) → O → List (Fate I V) → O → Type 0
HaveFates words number [] folder [] folder' = folder' ≡ folder
HaveFates words number [] folder (fate ∷ fates) folder' = ⊥
HaveFates words number (file ∷ files) folder [] folder' = ⊥
HaveFates words number (file ∷ files) folder (fate ∷ fates) folder' =
    (between : _) × HasFate words number file.reader folder fate between × HaveFates words (suc number) files between fates folder'

abbrev pub unopened_lines : {I : Type 0} → ℕ → List (GivenFile I) → List (List ℕ)
unopened_lines number [] = []
unopened_lines number (file ∷ files) = unopened_line number file.path file.reader ++ unopened_lines (suc number) files

abbrev pub unmade_lines : {I V : Type 0} → ℕ → List (Fate I V) → List (List ℕ)
unmade_lines number [] = []
unmade_lines number (fate ∷ fates) = unmade_line number fate ++ unmade_lines (suc number) fates

abbrev pub named_among : {I V : Type 0} → ℕ → List (GivenFile I) → List (Fate I V) → List PlainNamed
named_among number [] fates = []
named_among number (file ∷ files) [] = []
named_among number (file ∷ files) (fate ∷ fates) = named_in number file.path fate ++ named_among (suc number) files fates

-- ---- all files of a run

-- these files are answered, each with its pair of a reader and an answer file, and these lines tell of the others: first of those
-- that could not be opened, then of those whose answer file could not be made
pub record AreOpened {I O V : Type 0} (words : FolderWords O V) (files : List (GivenFile I)) (folder folder' : O) (named : List PlainNamed) (pairs : List (I × V)) (lines : List (List ℕ)) : Type 0 where
  pub fates : List (Fate I V)
  pub have : HaveFates words 1 files folder fates folder'
  pub named_are : named ≡ named_among 1 files fates
  pub pairs_are : pairs ≡ flat_map pair_in fates
  pub lines_are : lines ≡ unopened_lines 1 files ++ unmade_lines 1 fates
