-- What a file is found to be.
use Rattle.std.specs.Prelude.{◌≡◌, ◌↔◌, ◌≤◌, ◌+◌, ◌-◌, ◌*◌, ◌&&◌, nat_le, min, ℕ, zero, suc, Bool, true, if◌then◌else◌, Option, None, Some, List, [], ◌∷◌, ◌++◌, length, take, drop}
use Rattle.std.specs.List.{All}
use Rattle.kept_batches.specs.Text.{lines_in, marked}
use Rattle.kept_batches.specs.Heads.{same_bytes}
use Rattle.kept_batches.specs.File.{open_mark, shut_mark, most_bytes, record_of, records, all_lines, IsBatch, Keeps}

pub data Verdict : Type 0 where
  -- it keeps these lines
  accepts : List (List ℕ) → Verdict
  -- it keeps none: the batch that begins at this byte is the first that is not whole, and these lines come before it
  damage : ℕ → List (List ℕ) → Verdict

-- the number of some digits; the bound changes nothing for eight of them
abbrev pub number : ℕ → List ℕ → ℕ
number so_far [] = so_far
number so_far (digit ∷ more) = number (min so_far 99_999_999 * 10 + (digit - 48)) more

-- the only lines of a batch with which a text after a mark may begin
abbrev pub candidate : List ℕ → List (List ℕ)
candidate text = lines_in (take (number 0 (take 8 (drop 1 text))) (drop 75 text))

-- whether it begins with a batch
abbrev pub begins : List (List ℕ) → List ℕ → Bool
begins before text =
    same_bytes (take (length (record_of before (candidate text))) text) (record_of before (candidate text))
    && nat_le (length (marked (candidate text))) most_bytes

-- what comes after that batch
abbrev pub after : List (List ℕ) → List ℕ → List ℕ
after before text = drop (length (record_of before (candidate text))) text

-- of a file from the mark at `place` on, after the lines `before`
abbrev pub read : ℕ → List (List ℕ) → ℕ → List ℕ → Verdict
read zero before place rest = damage place before
read (suc more) before place rest =
    if same_bytes (take 4 rest) shut_mark then (if nat_le (length rest) (83 + most_bytes) then accepts before else damage place before)
    else if begins before (drop 4 rest) then (
    if same_bytes (take 4 rest) open_mark then read more (before ++ candidate (drop 4 rest)) (place + (4 + length (record_of before (candidate (drop 4 rest))))) (after before (drop 4 rest))
    else if same_bytes (after before (drop 4 rest)) shut_mark then accepts (before ++ candidate (drop 4 rest)) else damage place before)
    else damage place before

abbrev pub verdict : List ℕ → Verdict
verdict file = if nat_le (length file) 4 then accepts [] else read (length file) [] 0 file

-- the lines that a verdict accepts
abbrev pub accepted : Verdict → List (List ℕ)
accepted (accepts lines) = lines
accepted (damage place before) = []

-- and those that are read at damage too: the lines of the whole batches before it
abbrev pub readable : Verdict → List (List ℕ)
readable (accepts lines) = lines
readable (damage place before) = before

abbrev pub damaged_at : Verdict → Option ℕ
damaged_at (accepts lines) = None
damaged_at (damage place before) = Some place

-- the lines that a file keeps
abbrev pub kept_in : List ℕ → List (List ℕ)
kept_in file = accepted (verdict file)

-- the byte where it is damaged
abbrev pub damage_in : List ℕ → Option ℕ
damage_in file = damaged_at (verdict file)

-- it accepts the files that keep lines, and their lines
abbrev pub VerdictIsRight : Type 0
VerdictIsRight = (file : List ℕ) (lines : List (List ℕ)) → (verdict file ≡ accepts lines) ↔ Keeps file lines

-- the batches before the place are whole, and have these lines
pub record IsPlace (file : List ℕ) (place : ℕ) (lines : List (List ℕ)) : Type 0 where
  pub batches : List (List (List ℕ))
  pub are : All IsBatch batches
  pub rest : List ℕ
  pub is : file ≡ records [] batches ++ rest
  pub ends : place ≡ length (records [] batches)
  pub lines_are : lines ≡ all_lines batches

abbrev pub PlaceIsRight : Type 0
PlaceIsRight = (file : List ℕ) (place : ℕ) (lines : List (List ℕ)) → verdict file ≡ damage place lines → IsPlace file place lines

-- as many bytes as a batch may have tell whether a text begins with one, and which
abbrev pub WindowsSuffice : Type 0
WindowsSuffice = (before : List (List ℕ)) (text : List ℕ) (most : ℕ) → 75 + most_bytes ≤ most
    → (begins before (take most text) ≡ begins before text) × (begins before text ≡ true → candidate (take most text) ≡ candidate text)
