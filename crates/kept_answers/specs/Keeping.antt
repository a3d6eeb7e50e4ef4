-- A store whose lines are answered: those that it keeps again, and then new ones.
use Rattle.std.specs.Prelude.{◌≡◌, ◌≤◌, ◌+◌, ◌⊎◌, ℕ, List, [], ◌∷◌, ◌++◌, length, take, drop, codes, decimal, Option, None, Some, unwrap_or}
use Rattle.request_lines.specs.Answering.{Rule}
use Rattle.hex.specs.Hex.{encode_lower}
use Rattle.kept_batches.specs.Heads.{head}
use Rattle.kept_batches.specs.Verdict.{kept_in}
use Rattle.kept_answers.specs.Kept.{AreResent, Begins, HasResent}

-- the first line that is sent: how many lines the store keeps, and the head after its first record and them
abbrev pub greeting : List ℕ → List (List ℕ) → List ℕ
greeting first lines =
    codes "{\"kept\":" ++ (decimal (length lines) ++ (codes ",\"head\":\"" ++ (encode_lower (head (first ∷ lines)) ++ codes "\"}\n")))

-- how many answers the client has, by what it says
abbrev pub answers_had : Option ℕ → ℕ
answers_had from = unwrap_or from 0

-- the client has answers to no more lines than the store keeps; if it says nothing, the store keeps none
abbrev pub FitsKept : Option ℕ → ℕ → Type 0
FitsKept None kept = kept ≡ 0
FitsKept (Some had) kept = had ≤ kept

-- the store has a first record, and the client has answers to more lines than come after it, or says nothing of them
abbrev pub HasOtherCount : Option ℕ → List (List ℕ) → Type 0
HasOtherCount from [] = ⊥
HasOtherCount from (first ∷ lines) = FitsKept from (length lines) → ⊥

-- what was sent begins the greeting and the answers to the lines after the first `from`
abbrev pub GreetsAndAnswers : {A : Type 0} → Rule A → A → List ℕ → List (List ℕ) → ℕ → List ℕ → Type 0
GreetsAndAnswers rule start first lines from sent =
    Begins sent (greeting first lines)
    ⊎ ((after : List ℕ) × (sent ≡ greeting first lines ++ after) × HasResent rule start lines from after)

-- nothing was sent, or the store has a first record, and what was sent is of the lines after it
abbrev pub IsStoreSent : {A : Type 0} → Rule A → A → List (List ℕ) → Option ℕ → List ℕ → Type 0
IsStoreSent rule start [] from sent = sent ≡ []
IsStoreSent rule start (first ∷ lines) from sent =
    (sent ≡ []) ⊎ (FitsKept from (length lines) × GreetsAndAnswers rule start first lines (answers_had from) sent)

-- all was sent
abbrev pub IsStoreAnswered : {A : Type 0} → Rule A → A → List (List ℕ) → Option ℕ → List ℕ → A → Type 0
IsStoreAnswered rule start [] from sent end = ⊥
IsStoreAnswered rule start (first ∷ lines) from sent end =
    FitsKept from (length lines)
    × ((after : List ℕ) × (sent ≡ greeting first lines ++ after) × AreResent rule start lines (answers_had from) after end)

-- what was sent begins the greeting and the answers to the lines after the first `from`, of which the first `answered` were begun
pub record HasAnswered {A : Type 0} (rule : Rule A) (start : A) (greeted : List ℕ) (lines : List (List ℕ)) (from answered : ℕ) (sent : List ℕ) : Type 0 where
  pub had : List ℕ
  pub middle : A
  pub text : List ℕ
  pub end : A
  pub answered_before : rule.answers start (take from lines) had middle
  pub answered_after : rule.answers middle (take answered (drop from lines)) text end
  pub written : Begins sent (greeted ++ text)

-- a content that a crash may leave: the record that begins the store, the lines from before, and of the new ones at least those whose
-- answers were begun
abbrev pub Leaves : List ℕ → List (List ℕ) → List (List ℕ) → ℕ → List ℕ → Type 0
Leaves first before new begun file =
    (count : ℕ) × (count ≤ length new) × (begun ≤ length before + count) × (kept_in file ≡ first ∷ (before ++ take count new))

-- Of a store's lines and the new ones: what was sent, none but of the greeting or the answers to some lines, and what a crash may leave.
pub record HasKept {A : Type 0} (rule : Rule A) (start : A) (may_leave : List ℕ → Type 0) (first : List ℕ) (before new : List (List ℕ)) (from : ℕ) (sent : List ℕ) : Type 0 where
  pub answered : ℕ
  pub is_sent : Begins sent (greeting first before) ⊎ ((from ≤ length before) × HasAnswered rule start (greeting first before) (before ++ new) from answered sent)
  pub leaves : (file : List ℕ) → may_leave file → Leaves first before new (from + answered) file ⊎ ((sent ≡ []) × (kept_in file ≡ first ∷ before))

-- nothing was sent, and a crash leaves the store's lines as they are
abbrev pub IsUntouched : (List ℕ → Type 0) → List (List ℕ) → List ℕ → Type 0
IsUntouched may_leave lines sent = (sent ≡ []) × ((file : List ℕ) → may_leave file → kept_in file ≡ lines)

-- a store without its first record is untouched, and so is one that keeps other lines than the client says
abbrev pub IsKept : {A : Type 0} → Rule A → A → (List ℕ → Type 0) → List (List ℕ) → List (List ℕ) → Option ℕ → List ℕ → Type 0
IsKept rule start may_leave [] new from sent = IsUntouched may_leave [] sent
IsKept rule start may_leave (first ∷ before) new from sent =
    IsUntouched may_leave (first ∷ before) sent
    ⊎ (FitsKept from (length before) × HasKept rule start may_leave first before new (answers_had from) sent)

-- all lines are answered and kept
abbrev pub IsAllKept : {A : Type 0} → Rule A → A → List ℕ → List (List ℕ) → List (List ℕ) → Option ℕ → List ℕ → A → Type 0
IsAllKept rule start file [] new from sent end = ⊥
IsAllKept rule start file (first ∷ before) new from sent end =
    (kept_in file ≡ first ∷ (before ++ new))
    × ((after : List ℕ) × (sent ≡ greeting first before ++ after) × AreResent rule start (before ++ new) (answers_had from) after end)
