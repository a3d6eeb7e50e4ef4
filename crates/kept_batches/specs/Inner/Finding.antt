-- A batch at the front of a text.
use Rattle.std.specs.Prelude.{◌≡◌, ◌≢◌, ◌≤◌, ◌<◌, ◌+◌, ℕ, List, length, ◌++◌, true, false, take, drop}
use Rattle.kept_batches.specs.Text.{lines_in, marked}
use Rattle.kept_batches.specs.Heads.{head}
use Rattle.kept_batches.specs.File.{most_bytes, open_mark, shut_mark}
use Rattle.kept_batches.specs.Verdict.{begins, candidate, after}
use Rattle.kept_batches.specs.declared.looking.Look.{Look}
use Rattle.kept_batches.specs.declared.looking.Look.TheVariants.{Batch, Unmarked, Shut, Damaged}

-- the text begins with a batch of `size` bytes of lines, and `next` is the head after it
pub record BeginsWith (before : List (List ℕ)) (text : List ℕ) (size : ℕ) (next : List ℕ) : Type 0 where
  pub begins_with : begins before text ≡ true
  pub size_is : size ≡ length (marked (candidate text))
  pub within : 75 + size ≤ length text
  pub lines_are : take size (drop 75 text) ≡ marked (candidate text)
  pub after_is : drop (75 + size) text ≡ after before text
  pub next_is : next ≡ head (before ++ candidate text)

-- after any lines of this head
abbrev pub IsFound : List ℕ → List ℕ → ℕ → List ℕ → Type 0
IsFound last text size next = (before : List (List ℕ)) → last ≡ head before → BeginsWith before text size next

abbrev pub IsMissing : List ℕ → List ℕ → Type 0
IsMissing last text = (before : List (List ℕ)) → last ≡ head before → begins before text ≡ false

-- the lines that a text then has
pub record HasLines (text : List ℕ) (size : ℕ) : Type 0 where
  pub within : 75 + size ≤ length text
  pub are : take size (drop 75 text) ≡ marked (lines_in (take size (drop 75 text)))

-- a batch after an open mark
pub record IsMarked (last text : List ℕ) (size : ℕ) (next : List ℕ) : Type 0 where
  pub mark : take 4 text ≡ open_mark
  pub batch : IsFound last (drop 4 text) size next
  pub lines : HasLines (drop 4 text) size

-- a last batch after another mark
pub record IsUnmarkedLast (last text : List ℕ) (size : ℕ) (next : List ℕ) : Type 0 where
  pub not_open : take 4 text ≢ open_mark
  pub not_shut : take 4 text ≢ shut_mark
  pub batch : IsFound last (drop 4 text) size next
  pub lines : HasLines (drop 4 text) size
  pub end : drop (75 + size) (drop 4 text) ≡ shut_mark

pub record IsShutEnd (text : List ℕ) : Type 0 where
  pub shut : take 4 text ≡ shut_mark
  pub few : length text ≤ 83 + most_bytes

-- what a text from a mark on is, that no crash may leave
pub data IsDamage (before : List (List ℕ)) (text : List ℕ) : Type 0 where
  too_long : take 4 text ≡ shut_mark → 83 + most_bytes < length text → IsDamage before text
  no_batch : take 4 text ≢ shut_mark → begins before (drop 4 text) ≡ false → IsDamage before text
  no_end : take 4 text ≢ shut_mark → take 4 text ≢ open_mark → begins before (drop 4 text) ≡ true → after before (drop 4 text) ≢ shut_mark → IsDamage before text

abbrev pub IsLook : List ℕ → List ℕ → Look → Type 0
IsLook last text (Batch found) = IsMarked last text found.size found.head
IsLook last text (Unmarked found) = IsUnmarkedLast last text found.size found.head
IsLook last text Shut = IsShutEnd text
IsLook last text Damaged = (before : List (List ℕ)) → last ≡ head before → IsDamage before text
