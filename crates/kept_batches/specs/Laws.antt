-- What follows from the definitions.
use Rattle.std.specs.Prelude.{◌≡◌, ◌≢◌, ◌⊎◌, ◌≤◌, ◌+◌, ℕ, List, [], ◌∷◌, ◌++◌, length, set, take}
use Rattle.std.specs.List.{All}
use Rattle.sqlite_disk.specs.Disk.{Torn, Holds, Cut}
use Rattle.kept_batches.specs.Heads.{head, Collide, collision}
use Rattle.kept_batches.specs.File.{Keeps, IsBatch, IsWhole, IsTorn, IsUnbegun, IsBeforeOrAfter, open_mark, shut_mark, record_of, records, all_lines, file_of, staged, most_bytes}

-- different lines with one head show two inputs with one digest
abbrev pub HeadsCollide : Type 0
HeadsCollide = (xs ys : List (List ℕ)) → head xs ≡ head ys → xs ≢ ys → Collide (collision xs ys).one (collision xs ys).other

-- two stores that have one head after `count` lines have the same first `count` lines, or show such inputs
abbrev pub ReceiptsHold : Type 0
ReceiptsHold = (one other : List ℕ) (xs ys : List (List ℕ)) (count : ℕ) → Keeps one xs → Keeps other ys → head (take count xs) ≡ head (take count ys)
    → take count xs ≢ take count ys → Collide (collision (take count xs) (take count ys)).one (collision (take count xs) (take count ys)).other

-- no file keeps two lists of lines
abbrev pub KeepsOne : Type 0
KeepsOne = (file : List ℕ) (xs ys : List (List ℕ)) → Keeps file xs → Keeps file ys → xs ≡ ys

-- two lists of lines that show two inputs with one digest
pub record Shows : Type 0 where
  pub xs : List (List ℕ)
  pub ys : List (List ℕ)
  pub collide : Collide (collision xs ys).one (collision xs ys).other

-- a whole file with one byte changed, wherever and to whatever, is refused or keeps the same lines, or shows such inputs
abbrev pub OneByteTells : Type 0
OneByteTells = (batches : List (List (List ℕ))) (file : List ℕ) (at byte : ℕ) (lines : List (List ℕ)) → IsWhole batches file
    → Keeps (set file at byte) lines → (lines ≡ all_lines batches) ⊎ Shows

-- what a crash leaves in each of the two steps of an append
pub record AppendSurvives (batches : List (List (List ℕ))) (batch : List (List ℕ)) : Type 0 where
  pub written : (n : ℕ) (c : List ℕ) → n ≤ 79 + most_bytes → Torn (length (file_of batches)) n (file_of batches) c → Keeps c (all_lines batches)
  pub staged_is : (c : List ℕ) → Torn (length (file_of batches)) (length (record_of (all_lines batches) batch ++ shut_mark)) (file_of batches) c
      → Holds c (length (file_of batches)) (record_of (all_lines batches) batch ++ shut_mark) → c ≡ staged batches batch
  pub staged_keeps : Keeps (staged batches batch) (all_lines batches)
  pub marked : (c : List ℕ) → Torn (length (records [] batches)) 4 (staged batches batch) c → IsBeforeOrAfter (all_lines batches) batch c
  pub opened : (c : List ℕ) → Torn (length (records [] batches)) 4 (staged batches batch) c → Holds c (length (records [] batches)) open_mark
      → c ≡ file_of (batches ++ batch ∷ [])

abbrev pub AppendsSurvive : Type 0
AppendsSurvive = (batches : List (List (List ℕ))) (batch : List (List ℕ)) → All IsBatch batches → IsBatch batch → AppendSurvives batches batch

-- what a crash leaves while a torn end is cut off
abbrev pub CutsSurvive : Type 0
CutsSurvive = (batches : List (List (List ℕ))) (file c : List ℕ) → IsTorn batches file → Cut (length (file_of batches)) file c → Keeps c (all_lines batches)

-- while a store is begun
abbrev pub BeginningsSurvive : Type 0
BeginningsSurvive = (file c : List ℕ) → IsUnbegun file → Torn 0 4 file c → Keeps c []

-- while either half of a mark is written, if the other half is not shut
abbrev pub MarksSurvive : Type 0
MarksSurvive = (batches : List (List (List ℕ))) (batch : List (List ℕ)) (first second : List ℕ) → All IsBatch batches → IsBatch batch
    → length first ≡ 2 → length second ≡ 2 → (first ≢ 45 ∷ 45 ∷ []) ⊎ (second ≢ 45 ∷ 45 ∷ [])
    → Keeps (records [] batches ++ ((first ++ second) ++ (record_of (all_lines batches) batch ++ shut_mark))) (all_lines batches ++ batch)
