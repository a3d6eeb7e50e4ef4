-- A house over a store that has begun, or is damaged.
use Rattle.std.proofs.Common.{◌≡◌, ◌⊎◌, ⊎_elim, inl, inr, ℕ, List, [], Option, None, sym, ◌∙◌, ap, subst}
use Rattle.request_lines.specs.Answering.{Rule}
use Rattle.line_streams.specs.State.{StreamState}
use Rattle.sqlite_disk.specs.declared.Disk.{Ghosts}
use Rattle.kept_batches.specs.Reading.{OnlyReads}
use Rattle.kept_batches.specs.Verdict.{damage_in, kept_in}
use Rattle.kept_answers.specs.Keeping.{IsUntouched}
use Rattle.kept_house.specs.Beginning.{HasBegun, IsUnbegun}
use Rattle.kept_house.specs.Keeping.{IsHouseAllKept, IsHouseKept, IsStreamAllKept, IsStreamKept}
use Rattle.kept_house.specs.Record.{first_record}
use Rattle.kept_house.proofs.BeginningLemmas.{whole_or_none}

-- the store has begun, or it keeps no line, and is left so
abbrev pub BegunOrNone : List ℕ → List ℕ → List (List ℕ) → List (List ℕ) → List ℕ → Type 0
BegunOrNone program given old lines text = HasBegun program given old lines text ⊎ ((old ≡ []) × (lines ≡ []))

-- what a beginning has left
pub begun_or_none : {D : Type 0} (g : Ghosts D) (disk new : D) (program given text : List ℕ) → (damage_in (g.seen disk) ≡ None → HasBegun program given (kept_in (g.seen disk)) (kept_in (g.seen new)) text)
    → IsUnbegun (first_record program given) (g.seen disk) ⊎ OnlyReads g disk new → BegunOrNone program given (kept_in (g.seen disk)) (kept_in (g.seen new)) text
begun_or_none g disk new program given text begun (inl unbegun) = inl (begun unbegun.whole)
begun_or_none g disk new program given text begun (inr reads) = ⊎_elim (λ whole. inl (begun whole)) (λ none. inr (none, ap kept_in reads.seen ∙ none)) (whole_or_none (g.seen disk))

module _ (rule : Rule StreamState) (program given text : List ℕ) (old lines new : List (List ℕ)) (from : Option ℕ) (sent : List ℕ) where
  untouched : (may_leave : List ℕ → Type 0) → IsStreamKept rule text may_leave [] new from sent → IsUntouched may_leave [] sent
  untouched may_leave (inl nothing) = nothing
  untouched may_leave (inr (config, is, nothing)) = nothing

  pub house_kept : (may_leave : List ℕ → Type 0) → BegunOrNone program given old lines text → IsStreamKept rule text may_leave lines new from sent → IsHouseKept rule program given may_leave old new from sent
  house_kept may_leave (inl begun) kept = inr (lines, text, begun, kept)
  house_kept may_leave (inr (none, empty)) kept =
      let nothing = untouched may_leave (subst (λ (l : List (List ℕ)). IsStreamKept rule text may_leave l new from sent) empty kept) in
      inl (nothing.0, λ file left. inl (nothing.1 file left ∙ sym none))

  pub house_all_kept : (file : List ℕ) → BegunOrNone program given old lines text → IsStreamAllKept rule text file lines new from sent → IsHouseAllKept rule program given file old new from sent
  house_all_kept file (inl begun) kept = (lines, text, begun, kept)
  house_all_kept file (inr (none, empty)) kept = absurd (subst (λ (l : List (List ℕ)). IsStreamAllKept rule text file l new from sent) empty kept).3
