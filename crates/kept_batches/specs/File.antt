-- A file of format 2: batches, each after a mark and a line of its own with its length and its head, and a shut mark as last bytes.
use Rattle.std.specs.Prelude.{◌≡◌, ◌≢◌, ◌⊎◌, ◌≤◌, ◌<◌, ◌+◌, ◌/◌, ◌%◌, ℕ, zero, suc, List, [], ◌∷◌, ◌++◌, length}
use Rattle.std.specs.List.{All}
use Rattle.hex.specs.Hex.{encode_lower}
use Rattle.kept_batches.specs.Text.{IsLine, marked}
use Rattle.kept_batches.specs.Heads.{head}

-- the mark of a batch that counts, `kept`
abbrev pub open_mark : List ℕ
open_mark = 107 ∷ 101 ∷ 112 ∷ 116 ∷ []

-- the mark after which nothing counts, `----`
abbrev pub shut_mark : List ℕ
shut_mark = 45 ∷ 45 ∷ 45 ∷ 45 ∷ []

-- a number in `width` decimal digits
abbrev pub digits : ℕ → ℕ → List ℕ
digits zero n = []
digits (suc width) n = digits width (n / 10) ++ (48 + n % 10) ∷ []

-- the most bytes of lines that a batch may have
abbrev pub most_bytes : ℕ
most_bytes = 16_777_216

-- the number of bytes of its lines
abbrev pub size_part : List (List ℕ) → List ℕ
size_part batch = 32 ∷ (digits 8 (length (marked batch)) ++ 32 ∷ [])

-- the head after a batch, in hex
abbrev pub head_part : List (List ℕ) → List (List ℕ) → List ℕ
head_part before batch = encode_lower (head (before ++ batch))

abbrev pub lines_part : List (List ℕ) → List ℕ
lines_part batch = 10 ∷ marked batch

-- the 75 bytes before the lines of a batch
abbrev pub header : ℕ → List ℕ → List ℕ
header size last = (32 ∷ (digits 8 size ++ 32 ∷ [])) ++ (encode_lower last ++ 10 ∷ [])

-- what comes after the mark of a batch: ` LENGTH HEAD`, a newline, its lines
abbrev pub record_of : List (List ℕ) → List (List ℕ) → List ℕ
record_of before batch = size_part batch ++ (head_part before batch ++ lines_part batch)

-- batches one after another, each after its mark
abbrev pub records : List (List ℕ) → List (List (List ℕ)) → List ℕ
records before [] = []
records before (batch ∷ more) = open_mark ++ (record_of before batch ++ records (before ++ batch) more)

-- the lines of batches
abbrev pub all_lines : List (List (List ℕ)) → List (List ℕ)
all_lines [] = []
all_lines (batch ∷ more) = batch ++ all_lines more

-- the file of these batches
abbrev pub file_of : List (List (List ℕ)) → List ℕ
file_of batches = records [] batches ++ shut_mark

pub record IsBatch (batch : List (List ℕ)) : Type 0 where
  pub are : All IsLine batch
  pub fits : length (marked batch) ≤ most_bytes

-- whole, and nothing after the shut mark
pub record IsWhole (batches : List (List (List ℕ))) (file : List ℕ) : Type 0 where
  pub are : All IsBatch batches
  pub is : file ≡ file_of batches

-- what a crash may leave while a batch is written after the shut mark, or while it is cut off
pub record IsTorn (batches : List (List (List ℕ))) (file : List ℕ) : Type 0 where
  pub are : All IsBatch batches
  pub rest : List ℕ
  pub is : file ≡ file_of batches ++ rest
  pub some : 0 < length rest
  pub few : length rest ≤ 79 + most_bytes

-- what a crash may leave while a mark is written: a whole last batch after any mark but these two
pub record IsUnmarked (batches : List (List (List ℕ))) (batch : List (List ℕ)) (file : List ℕ) : Type 0 where
  pub are : All IsBatch batches
  pub last : IsBatch batch
  pub mark : List ℕ
  pub four : length mark ≡ 4
  pub not_open : mark ≢ open_mark
  pub not_shut : mark ≢ shut_mark
  pub is : file ≡ records [] batches ++ (mark ++ (record_of (all_lines batches) batch ++ shut_mark))

-- what a crash may leave while a file is begun: no more bytes than a shut mark has
pub record IsUnbegun (file : List ℕ) : Type 0 where
  pub short : length file ≤ 4
  pub not_shut : file ≢ shut_mark

-- the file keeps these lines; a file that keeps no list of lines is damaged
pub data Keeps (file : List ℕ) (lines : List (List ℕ)) : Type 0 where
  whole : (batches : List (List (List ℕ))) → IsWhole batches file → lines ≡ all_lines batches → Keeps file lines
  torn : (batches : List (List (List ℕ))) → IsTorn batches file → lines ≡ all_lines batches → Keeps file lines
  unmarked : (batches : List (List (List ℕ))) (batch : List (List ℕ)) → IsUnmarked batches batch file → lines ≡ all_lines batches ++ batch → Keeps file lines
  unbegun : IsUnbegun file → lines ≡ [] → Keeps file lines

-- with the lines from before, or these and the batch
abbrev pub IsBeforeOrAfter : List (List ℕ) → List (List ℕ) → List ℕ → Type 0
IsBeforeOrAfter lines batch file = Keeps file lines ⊎ Keeps file (lines ++ batch)

-- the file with a batch after the shut mark
abbrev pub staged : List (List (List ℕ)) → List (List ℕ) → List ℕ
staged batches batch = records [] batches ++ (shut_mark ++ (record_of (all_lines batches) batch ++ shut_mark))
