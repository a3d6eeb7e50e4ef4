-- The writes to a file.
use Rattle.std.specs.Prelude.{Bool, true, false, ◌≢◌, ◌≡◌, ◌++◌, ◌∷◌, [], ℕ, List, length}
use Rattle.std.specs.List.{All}
use Rattle.kept_batches.specs.File.{header, IsBatch, IsTorn, IsBeforeOrAfter, Keeps, record_of, records, all_lines, file_of, shut_mark}

-- the text is this batch, to be written after the batches of the file
pub record IsNext (file : List ℕ) (end : ℕ) (text : List ℕ) (batches : List (List (List ℕ))) (batch : List (List ℕ)) : Type 0 where
  pub are : All IsBatch batches
  pub good : IsBatch batch
  pub file_is : file ≡ file_of batches
  pub end_is : end ≡ length (records [] batches)
  pub text_is : text ≡ record_of (all_lines batches) batch ++ shut_mark

-- what is written after a shut mark: the header, the lines, and the next mark
abbrev pub sealed : List ℕ → List ℕ → List ℕ
sealed last text = header (length text) last ++ (text ++ shut_mark)

abbrev pub Appends : List ℕ → ℕ → List ℕ → List ℕ → Type 0
Appends old end text new = (batches : List (List (List ℕ))) (batch : List (List ℕ)) → IsNext old end text batches batch → new ≡ file_of (batches ++ batch ∷ [])

abbrev pub AppendsAtAnyMoment : List ℕ → ℕ → List ℕ → (List ℕ → Type 0) → Type 0
AppendsAtAnyMoment old end text may_leave = (batches : List (List (List ℕ))) (batch : List (List ℕ)) → IsNext old end text batches batch
    → (c : List ℕ) → may_leave c → IsBeforeOrAfter (all_lines batches) batch c

abbrev pub Cuts : List ℕ → ℕ → List ℕ → Type 0
Cuts old size new = (batches : List (List (List ℕ))) → IsTorn batches old → size ≡ length (file_of batches) → new ≡ file_of batches

abbrev pub CutsAtAnyMoment : List ℕ → ℕ → (List ℕ → Type 0) → Type 0
CutsAtAnyMoment old size may_leave = (batches : List (List (List ℕ))) → IsTorn batches old → size ≡ length (file_of batches) → (c : List ℕ) → may_leave c → Keeps c (all_lines batches)

-- a crash leaves the range with any bytes, and the rest as it was
pub record IsOverwritten (front middle back c : List ℕ) : Type 0 where
  pub range : List ℕ
  pub size : length range ≡ length middle
  pub is : c ≡ front ++ (range ++ back)

abbrev pub OverwritesAtAnyMoment : List ℕ → ℕ → ℕ → (List ℕ → Type 0) → Type 0
OverwritesAtAnyMoment old at size may_leave = (front middle back : List ℕ) → old ≡ front ++ (middle ++ back) → at ≡ length front → size ≡ length middle
    → (c : List ℕ) → may_leave c → IsOverwritten front middle back c

abbrev pub Overwrites : List ℕ → ℕ → List ℕ → List ℕ → Type 0
Overwrites old at text new = (front middle back : List ℕ) → old ≡ front ++ (middle ++ back) → at ≡ length front → length text ≡ length middle → new ≡ front ++ (text ++ back)

-- a whole last batch after these two halves of a mark, of which one is not shut
pub record IsHalved (file : List ℕ) (end : ℕ) (first_is_shut : Bool) (batches : List (List (List ℕ))) (batch : List (List ℕ)) : Type 0 where
  pub are : All IsBatch batches
  pub good : IsBatch batch
  pub first : List ℕ
  pub second : List ℕ
  pub two : length first ≡ 2
  pub two_too : length second ≡ 2
  pub file_is : file ≡ records [] batches ++ ((first ++ second) ++ (record_of (all_lines batches) batch ++ shut_mark))
  pub end_is : end ≡ length (records [] batches)
  pub first_open : first_is_shut ≡ false → first ≢ 45 ∷ 45 ∷ []
  pub second_open : first_is_shut ≡ true → second ≢ 45 ∷ 45 ∷ []

abbrev pub OpensAgain : List ℕ → ℕ → Bool → List ℕ → Type 0
OpensAgain old end first_is_shut new = (batches : List (List (List ℕ))) (batch : List (List ℕ)) → IsHalved old end first_is_shut batches batch → new ≡ file_of (batches ++ batch ∷ [])

abbrev pub OpensAgainAtAnyMoment : List ℕ → ℕ → Bool → (List ℕ → Type 0) → Type 0
OpensAgainAtAnyMoment old end first_is_shut may_leave = (batches : List (List (List ℕ))) (batch : List (List ℕ)) → IsHalved old end first_is_shut batches batch
    → (c : List ℕ) → may_leave c → Keeps c (all_lines batches ++ batch)
