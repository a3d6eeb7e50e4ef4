-- What a kept stream promises: a line is on the disk before a byte of its answer is written.
use Rattle.std.specs.Prelude.{◌≡◌, ◌≤◌, ℕ, List, ◌++◌, length, take, drop}
use Rattle.request_lines.specs.Answering.{Rule}
use Rattle.kept_batches.specs.Verdict.{kept_in}

-- the file stands for the lines from before and the first `count` of the new ones
abbrev pub HasKept : List (List ℕ) → List (List ℕ) → ℕ → List ℕ → Type 0
HasKept before new count file = kept_in file ≡ before ++ take count new

-- each content that a crash may leave has the lines from before and at least the first `answered` of the new ones
abbrev pub AreKept : (List ℕ → Type 0) → List (List ℕ) → List (List ℕ) → ℕ → Type 0
AreKept may_leave before new answered =
    (file : List ℕ) → may_leave file → (count : ℕ) × (answered ≤ count) × (count ≤ length new) × HasKept before new count file

-- one text begins another
abbrev pub Begins : List ℕ → List ℕ → Type 0
Begins start text = (rest : List ℕ) × (text ≡ start ++ rest)

-- of new lines the first `answered` are answered, what was sent begins the text of these answers, and a crash leaves the lines that
-- are answered
pub record AreAnswered {A : Type 0} (rule : Rule A) (start : A) (may_leave : List ℕ → Type 0) (is_clean : Type 0) (before new : List (List ℕ)) (sent : List ℕ) : Type 0 where
  pub answered : ℕ
  pub text : List ℕ
  pub end : A
  pub within : answered ≤ length new
  pub answers : rule.answers start (take answered new) text end
  pub written : Begins sent text
  pub kept : is_clean → AreKept may_leave before new answered

-- what was sent begins the answers to the first of these lines
pub record HasSent {A : Type 0} (rule : Rule A) (start : A) (lines : List (List ℕ)) (sent : List ℕ) : Type 0 where
  pub answered : ℕ
  pub text : List ℕ
  pub end : A
  pub within : answered ≤ length lines
  pub answers : rule.answers start (take answered lines) text end
  pub written : Begins sent text

-- the answers to the first `from` lines are not sent again, and what was sent begins those to the others
pub record HasResent {A : Type 0} (rule : Rule A) (start : A) (lines : List (List ℕ)) (from : ℕ) (sent : List ℕ) : Type 0 where
  pub had : List ℕ
  pub middle : A
  pub answered_before : rule.answers start (take from lines) had middle
  pub sent_after : HasSent rule middle (drop from lines) sent

-- and all of them were sent
pub record AreResent {A : Type 0} (rule : Rule A) (start : A) (lines : List (List ℕ)) (from : ℕ) (sent : List ℕ) (end : A) : Type 0 where
  pub had : List ℕ
  pub middle : A
  pub answered_before : rule.answers start (take from lines) had middle
  pub answered_after : rule.answers middle (drop from lines) sent end
