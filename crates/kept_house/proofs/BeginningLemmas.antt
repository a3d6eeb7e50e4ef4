-- A store before it has begun, and the errors of its calls.
use Rattle.std.proofs.Common.{◌≡◌, ◌⊎◌, inl, inr, ℕ, ◌+◌, ◌≤◌, List, [], ◌∷◌, ◌++◌, length, refl, sym, ◌∙◌, ap, subst}
use Rattle.std.specs.Prelude.{Option, None, Some, is_some, IfSome, true}
use mathlib.Core.Logic.{∥∥₁_map}
use Rattle.sqlite_disk.specs.declared.Disk.{Ghosts}
use Rattle.kept_batches.specs.Batch.{lines_of, text_of}
use Rattle.kept_batches.specs.File.{IsBeforeOrAfter, Keeps}
use Rattle.kept_batches.specs.Verdict.{Verdict, VerdictIsRight, accepted, damage_in, damaged_at, kept_in, readable, verdict}
use Rattle.kept_batches.specs.Verdict.Verdict.{accepts, damage}
use Rattle.kept_batches.specs.Log.{IsDiskError}
use Rattle.kept_batches.specs.Reading.{IsTornAt}
use Rattle.kept_batches.specs.Recovery.{IsAtEnd, disk_of, lines_left}
use Rattle.kept_batches.specs.Text.{marked}
use Rattle.kept_batches.specs.declared.batch.Batch.{Batch}
use Rattle.kept_batches.specs.declared.error.KeepError.{KeepError}
use Rattle.kept_batches.specs.declared.error.KeepError.TheVariants as error
use Rattle.kept_batches.specs.declared.recovery.Recovery.{Recovery}
use Rattle.kept_answers.proofs.KeptLemmas.{all_readable}
use Rattle.kept_answers.specs.Faults.{of_disk}
use Rattle.kept_answers.specs.Keeping.{FitsKept, HasOtherCount}
use Rattle.kept_answers.specs.declared.fault.KeepFault.TheVariants as keep
use Rattle.kept_house.specs.Beginning.{EndsWithin, HasBegun, IsAtMostBegun, IsDiskFault, IsOtherLines, IsUnbegun}
use Rattle.kept_house.specs.Record.{first_record}
use Rattle.kept_house.specs.declared.fault.StoreFault.{StoreFault}
use Rattle.kept_house.specs.declared.fault.StoreFault.TheVariants as fault

-- ---- what a file keeps

found_whole : (found : Verdict) → (damaged_at found ≡ None) ⊎ (accepted found ≡ [])
found_whole (accepts lines) = inl refl
found_whole (damage place before) = inr refl

-- a file is not damaged, or keeps no line
pub whole_or_none : (file : List ℕ) → (damage_in file ≡ None) ⊎ (kept_in file ≡ [])
whole_or_none file = found_whole (verdict file)

kept_as : VerdictIsRight → (file : List ℕ) (lines : List (List ℕ)) → Keeps file lines → kept_in file ≡ lines
kept_as right file lines keeps = ap accepted ((right file lines).1 keeps)

-- a store without lines has those of the batch or none
pub none_or_batch : VerdictIsRight → (old lines : List (List ℕ)) (file : List ℕ) → old ≡ [] → IsBeforeOrAfter old lines file → (kept_in file ≡ []) ⊎ (kept_in file ≡ lines)
none_or_batch right old lines file none (inl before) = inl (kept_as right file old before ∙ none)
none_or_batch right old lines file none (inr after) = inr (kept_as right file (old ++ lines) after ∙ ap (λ (l : List (List ℕ)). l ++ lines) none)

-- the end of a file is no longer than this, if its torn end is
pub ends_within : {P : Type 0} (most : ℕ) (file bytes : List ℕ) (torn : Option ℕ) → is_some torn ≡ true → IfSome torn (λ at. P → ∥ IsTornAt file at bytes ∥₁) → P → length bytes ≤ most → EndsWithin most file
ends_within most file bytes None is found clean few = absurd (cc)
ends_within most file bytes (Some at) is found clean few = inr (∥∥₁_map (found clean) (λ torn. (at, bytes, torn, few)))

-- a file that was read to its end, and had no line
pub none_at_end : {D : Type 0} {g : Ghosts D} (disk : D) (start end : Recovery D g) → disk_of start ≡ disk → lines_left start ≡ readable (verdict (g.seen disk)) → IsAtEnd start end
    → (kept_in (g.seen disk) ≡ []) × (damage_in (g.seen disk) ≡ None)
none_at_end {D} {g} disk start end same lines at =
    let whole : damage_in (g.seen disk) ≡ None = subst (λ (d : D). damage_in (g.seen d) ≡ None) same at.whole in
    (sym (all_readable (g.seen disk) whole) ∙ sym lines ∙ at.none, whole)

-- it is a store that has not begun
pub is_unbegun : (first file : List ℕ) (batch : Batch) → (kept_in file ≡ []) × (damage_in file ≡ None) → lines_of batch ≡ first ∷ [] → EndsWithin (79 + length (text_of batch)) file → IsUnbegun first file
is_unbegun first file batch (none, whole) lines within = record {
  none = none;
  whole = whole;
  within = subst (λ (l : List (List ℕ)). EndsWithin (79 + length (marked l)) file) lines (subst (λ (l : List ℕ). EndsWithin (79 + length l) file) batch.whole within);
}

-- nothing of a store that has not begun is left, or its record alone
pub at_most_begun : (program given : List ℕ) (old lines : List (List ℕ)) (file : List ℕ) → old ≡ [] → lines ≡ first_record program given ∷ [] → (kept_in file ≡ []) ⊎ (kept_in file ≡ lines) → IsAtMostBegun program given old file
at_most_begun program given old lines file none is (inl nothing) = inl (nothing ∙ sym none)
at_most_begun program given old lines file none is (inr all) = inr (none, all ∙ is)

-- ---- errors

-- an error of a call on the disk is reported as one, and at another one the disk is as before
pub disk_or_untouched : {P : Type 0} (e : KeepError) → ((IsDiskError e → ⊥) → P) → IsDiskFault (fault.Keep (of_disk e)) ⊎ P
disk_or_untouched error.Memory untouched = inr (untouched (λ disk. disk))
disk_or_untouched (error.Disk cause) untouched = inl tt
disk_or_untouched error.Full untouched = inl tt
disk_or_untouched (error.Damaged at) untouched = inr (untouched (λ disk. disk))

other_not_disk : (f : StoreFault) → IsOtherLines f → IsDiskFault f → ⊥
other_not_disk (fault.Keep keep.FewerLines) other disk = disk
other_not_disk (fault.Keep keep.HasLines) other disk = disk
other_not_disk (fault.Keep keep.Read) other disk = other
other_not_disk (fault.Keep keep.Write) other disk = other
other_not_disk (fault.Keep keep.NoMemory) other disk = other
other_not_disk (fault.Keep keep.LineTooLong) other disk = other
other_not_disk (fault.Keep keep.Unended) other disk = other
other_not_disk (fault.Keep (keep.Disk cause)) other disk = other
other_not_disk (fault.Keep keep.Full) other disk = other
other_not_disk (fault.Keep keep.NoStore) other disk = other
other_not_disk (fault.Keep keep.Stopped) other disk = other
other_not_disk (fault.Keep keep.TornEnd) other disk = other
other_not_disk (fault.Keep (keep.Damaged at)) other disk = other
other_not_disk (fault.Config cause) other disk = other
other_not_disk (fault.OtherConfig name) other disk = other
other_not_disk fault.LaterFormat other disk = other
other_not_disk (fault.LaterLines word) other disk = other
other_not_disk fault.NoStore other disk = other

-- an error of a beginning that is of the number of lines left the store as it was
pub untouched_then : {P : Type 0} (f : StoreFault) → IsOtherLines f → IsDiskFault f ⊎ P → P
untouched_then f other (inl disk) = absurd (other_not_disk f other disk)
untouched_then f other (inr p) = p

-- a store that has just begun keeps no other number of lines than fits
pub begun_fits : (program given : List ℕ) (from : Option ℕ) (old lines : List (List ℕ)) (config : List ℕ) → old ≡ [] → HasBegun program given old lines config → FitsKept from 0 → HasOtherCount from lines → ⊥
begun_fits program given from [] lines config none begun fits other = subst (HasOtherCount from) begun.0 other fits
begun_fits program given from (line ∷ old) lines config none begun fits other = absurd (cc (none))

-- and is not damaged
pub begun_whole : (program given file new config : List ℕ) (at : ℕ) → kept_in file ≡ [] → HasBegun program given (kept_in file) (kept_in new) config → damage_in new ≡ Some at → ⊥
begun_whole program given file new config at none begun damaged = by (kept_in file) none begun (whole_or_none new)
  where
    by : (old : List (List ℕ)) → old ≡ [] → HasBegun program given old (kept_in new) config → (damage_in new ≡ None) ⊎ (kept_in new ≡ []) → ⊥
    by [] none begun (inl whole) = absurd (cc (whole, damaged))
    by [] none begun (inr empty) = absurd (cc (begun.0, empty))
    by (line ∷ old) none begun either = absurd (cc (none))
