-- Files in a folder.
use Rattle.std.specs.Prelude.{◌≡◌, ◌≢◌, ◌<◌, ◌⊎◌, ℕ, true, List, [], ◌∷◌, ◌++◌, All, length, take}
use Rattle.request_lines.specs.Streams.{Writing}
use Rattle.clear_cli.specs.declared.files.FileId.{FileId}
use Rattle.clear_cli.specs.declared.schedule_text.WriteFault.{WriteFault}
use Rattle.clear_cli.specs.declared.schedule_text.WriteFault.TheVariants.{NoMemory, Write}

-- What a folder states of itself. `makes before name file after`: it made the new file of this name. `refuses before name after`: it
-- made none.
pub record Making (O V : Type 0) : Type 1 where
  pub makes : O → List ℕ → V → O → Type 0
  pub refuses : O → List ℕ → O → Type 0

-- what a folder and its files state of themselves
pub record FolderWords (O V : Type 0) : Type 1 where
  pub making : Making O V
  pub writing : Writing V

abbrev pub folder_words : {O V : Type 0} → Making O V → Writing V → FolderWords O V
folder_words making writing = record { making = making; writing = writing }

-- there is no new file of this name: it could not be made, or there was no memory and it was not begun
abbrev pub IsUnmade : {O V : Type 0} → Making O V → List ℕ → O → O → WriteFault → Type 0
IsUnmade making name folder folder' Write = making.refuses folder name folder'
IsUnmade making name folder folder' NoMemory = folder' ≡ folder

-- a file, by its name and its text
pub record Output : Type 0 where
  pub name : List ℕ
  pub text : List ℕ

-- the file was made and took its whole text
pub record IsFileWritten {O V : Type 0} (words : FolderWords O V) (output : Output) (folder folder' : O) : Type 0 where
  pub file : V
  pub file' : V
  pub made : words.making.makes folder output.name file folder'
  pub took : words.writing.takes file output.text file'
  pub kept : words.writing.failed file' ≡ words.writing.failed file

-- these files were written in turn
abbrev pub AreWritten : {O V : Type 0} → FolderWords O V → List Output → O → O → Type 0
AreWritten words [] folder folder' = folder' ≡ folder
AreWritten words (output ∷ outputs) folder folder' =
    (between : _) × IsFileWritten words output folder between × AreWritten words outputs between folder'

-- the file was made, and failed before it took its whole text
pub record FailsInFile {O V : Type 0} (words : FolderWords O V) (output : Output) (folder folder' : O) : Type 0 where
  pub file : V
  pub file' : V
  pub made : words.making.makes folder output.name file folder'
  pub sent : ℕ
  pub some_left : sent < length output.text
  pub took : words.writing.takes file (take sent output.text) file'
  pub has_failed : words.writing.failed file' ≡ true

-- the file was not written: it could not be made or failed, or there was no memory and it was not begun
abbrev pub IsFileLeft : {O V : Type 0} → FolderWords O V → Output → O → O → WriteFault → Type 0
IsFileLeft words output folder folder' Write = words.making.refuses folder output.name folder' ⊎ FailsInFile words output folder folder'
IsFileLeft words output folder folder' NoMemory = folder' ≡ folder

-- the files before one were written, and that one was not
pub record AreLeft {O V : Type 0} (words : FolderWords O V) (outputs : List Output) (folder folder' : O) (fault : WriteFault) : Type 0 where
  pub before : List Output
  pub output : Output
  pub later : List Output
  pub split : outputs ≡ before ++ output ∷ later
  pub between : O
  pub written : AreWritten words before folder between
  pub left : IsFileLeft words output between folder' fault

-- a file is none of these files, by device and inode
abbrev pub IsNoneOf : FileId → List FileId → Type 0
IsNoneOf id others = All (λ other. other ≢ id) others
