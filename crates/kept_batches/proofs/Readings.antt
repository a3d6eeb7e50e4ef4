-- Reading a file from a mark on.
use Rattle.std.proofs.Common.{◌≡◌, ◌⊎◌, inl, inr, ℕ, zero, suc, ◌+◌, ◌<◌, ◌≤◌, Bool, true, false, if◌then◌else◌, List, [], ◌∷◌, ◌++◌, length, take, drop, refl, sym, ◌∙◌, ap, arith, append_assoc, length-append}
use Rattle.std.specs.Prelude.{nat_le}
use Rattle.std.proofs.lemmas.List.{take_all, append-nil, take-take, drop-take, length-take}
use Rattle.std.proofs.lemmas.List.Elements.{All-head, All-tail}
use Rattle.std.proofs.lemmas.Bool.Decides.{nat_tests}
use Rattle.std.specs.List.{All}
use Rattle.kept_batches.specs.Heads.{same_bytes}
use Rattle.kept_batches.specs.File.{open_mark, shut_mark, most_bytes, record_of, records, all_lines, IsBatch}
use Rattle.kept_batches.specs.Verdict.{Verdict, accepts, damage, readable, candidate, begins, after, read, verdict}
use Rattle.kept_batches.specs.Inner.Finding.{IsDamage, too_long, no_batch, no_end}
use Rattle.kept_batches.proofs.FileLemmas.{length-record_of, frame_split, frames_long}
use Rattle.kept_batches.proofs.VerdictLemmas.{same-refl, same-not, yes_or_no, begun, read-frame, shape, shapes_tt, shapes_tf, shapes_ff, shapes_ftt, shapes_fff, shapes_none}
use Rattle.kept_batches.proofs.WindowLemmas.{windows_suffice}

le-false : (a b : ℕ) → b < a → nat_le a b ≡ false
le-false a b high = grind (arith, nat_tests)

pub le-not : (a b : ℕ) → nat_le a b ≡ false → b < a
le-not a b no_less = grind (arith, nat_tests)

-- past whole batches
pub record Through (fuel : ℕ) (before : List (List ℕ)) (place : ℕ) (batches : List (List (List ℕ))) (tail : List ℕ) : Type 0 where
  pub left : ℕ
  pub enough : length tail ≤ left
  pub is : read fuel before place (records before batches ++ tail) ≡ read left (before ++ all_lines batches) (place + length (records before batches)) tail

through : (batches : List (List (List ℕ))) (fuel : ℕ) (before : List (List ℕ)) (place : ℕ) (tail : List ℕ) → All IsBatch batches → length (records before batches ++ tail) ≤ fuel → Through fuel before place batches tail
through [] fuel before place tail are few = record {
  left = fuel;
  enough = few;
  is = ap (λ (l : List (List ℕ)). read fuel l place tail) (sym (append-nil before)) ∙ ap (λ (n : ℕ). read fuel (before ++ []) n tail) (let same : place ≡ place + 0 = omega arith in same);
}
through (batch ∷ batches) zero before place tail are few =
    absurd (omega (arith, few, length-append (records before (batch ∷ batches)) tail, frames_long before batch batches))
through (batch ∷ batches) (suc fuel) before place tail are few =
    let split = frame_split before batch batches tail in
    let next = place + (4 + length (record_of before batch)) in
    let r =
    through batches fuel (before ++ batch) next tail (All-tail IsBatch batch batches are)
    (omega (arith, few, ap length split, length-append (record_of before batch) (records (before ++ batch) batches ++ tail), length-record_of before batch)) in
    record {
      left = r.left;
      enough = r.enough;
      is =
          ap (λ (l : List ℕ). read (suc fuel) before place l) split
          ∙ read-frame fuel before place batch (records (before ++ batch) batches ++ tail) (All-head IsBatch batch batches are)
          ∙ r.is
          ∙ ap (λ (l : List (List ℕ)). read r.left l (next + length (records (before ++ batch) batches)) tail) (append_assoc before batch (all_lines batches))
          ∙ ap (λ (n : ℕ). read r.left (before ++ (batch ++ all_lines batches)) n tail)
          (let same : next + length (records (before ++ batch) batches) ≡ place + length (records before (batch ∷ batches)) = omega (arith, length-append (record_of before batch) (records (before ++ batch) batches)) in same);
    }

-- of a file of more than a mark, from the mark after whole batches on
pub record Reading (file : List ℕ) (place : ℕ) (before : List (List ℕ)) : Type 0 where
  pub left : ℕ
  pub is : verdict file ≡ read left before place (drop place file)

pub reading : (file : List ℕ) (place : ℕ) (batches : List (List (List ℕ))) → All IsBatch batches → file ≡ records [] batches ++ drop place file → place ≡ length (records [] batches) → 4 < length file
    → Reading file place (all_lines batches)
reading file place batches are split place_is long =
    let t = through batches (length file) [] 0 (drop place file) are (omega (arith, ap length split)) in
    record {
      left = t.left;
      is =
          ap (λ (b : Bool). if b then accepts [] else read (length file) [] 0 file) (le-false (length file) 4 long)
          ∙ ap (λ (l : List ℕ). read (length file) [] 0 l) split
          ∙ t.is
          ∙ ap (λ (n : ℕ). read t.left (all_lines batches) n (drop place file)) (let same : 0 + length (records [] batches) ≡ place = omega (arith, place_is) in same);
    }

-- the lines that can be read begin with those before
pub record More (before lines : List (List ℕ)) : Type 0 where
  pub more : List (List ℕ)
  pub is : lines ≡ before ++ more

pub reads_on : (fuel : ℕ) (before : List (List ℕ)) (place : ℕ) (rest : List ℕ) → More before (readable (read fuel before place rest))
reads_on zero before place rest = record { more = []; is = sym (append-nil before) }
reads_on (suc fuel) before place rest =
    pick (reads_on fuel (before ++ candidate (drop 4 rest)) (place + (4 + length (record_of before (candidate (drop 4 rest))))) (after before (drop 4 rest)))
    (yes_or_no a) (yes_or_no b) (yes_or_no c) (yes_or_no d) (yes_or_no f)
  where
    a : Bool
    a = same_bytes (take 4 rest) shut_mark

    b : Bool
    b = nat_le (length rest) (83 + most_bytes)

    c : Bool
    c = begins before (drop 4 rest)

    d : Bool
    d = same_bytes (take 4 rest) open_mark

    f : Bool
    f = same_bytes (after before (drop 4 rest)) shut_mark

    next : Verdict
    next = read fuel (before ++ candidate (drop 4 rest)) (place + (4 + length (record_of before (candidate (drop 4 rest))))) (after before (drop 4 rest))

    same : (v : Verdict) → shape a b c d f (accepts before) next (accepts (before ++ candidate (drop 4 rest))) (damage place before) ≡ v → readable v ≡ before
        → More before (readable (shape a b c d f (accepts before) next (accepts (before ++ candidate (drop 4 rest))) (damage place before)))
    same v e is = record { more = []; is = ap readable e ∙ is ∙ sym (append-nil before) }

    pick : More (before ++ candidate (drop 4 rest)) (readable next) → (a ≡ true) ⊎ (a ≡ false) → (b ≡ true) ⊎ (b ≡ false) → (c ≡ true) ⊎ (c ≡ false) → (d ≡ true) ⊎ (d ≡ false) → (f ≡ true) ⊎ (f ≡ false)
        → More before (readable (shape a b c d f (accepts before) next (accepts (before ++ candidate (drop 4 rest))) (damage place before)))
    pick ih (inl pa) (inl pb) w x y = same _ (shapes_tt a b c d f (accepts before) next (accepts (before ++ candidate (drop 4 rest))) (damage place before) pa pb) refl
    pick ih (inl pa) (inr pb) w x y = same _ (shapes_tf a b c d f (accepts before) next (accepts (before ++ candidate (drop 4 rest))) (damage place before) pa pb) refl
    pick ih (inr pa) v (inr pc) x y = same _ (shapes_ff a b c d f (accepts before) next (accepts (before ++ candidate (drop 4 rest))) (damage place before) pa pc) refl
    pick ih (inr pa) v (inl pc) (inl pd) y = record {
      more = candidate (drop 4 rest) ++ ih.more;
      is = ap readable (shapes_ftt a b c d f (accepts before) next (accepts (before ++ candidate (drop 4 rest))) (damage place before) pa pc pd) ∙ ih.is ∙ append_assoc before (candidate (drop 4 rest)) ih.more;
    }
    pick ih (inr pa) v (inl pc) (inr pd) (inl pf) = record {
      more = candidate (drop 4 rest);
      is = ap readable (shapes_fff a b c d f (accepts before) next (accepts (before ++ candidate (drop 4 rest))) (damage place before) pa pc pd pf);
    }
    pick ih (inr pa) v (inl pc) (inr pd) (inr pf) = same _ (shapes_none a b c d f (accepts before) next (accepts (before ++ candidate (drop 4 rest))) (damage place before) pa pc pd pf) refl

-- what no crash leaves is damage
pub damage_read : (fuel : ℕ) (before : List (List ℕ)) (place : ℕ) (rest : List ℕ) → IsDamage before rest → read fuel before place rest ≡ damage place before
damage_read zero before place rest d = refl
damage_read (suc fuel) before place rest d = pick d
  where
    a : Bool
    a = same_bytes (take 4 rest) shut_mark

    b : Bool
    b = nat_le (length rest) (83 + most_bytes)

    c : Bool
    c = begins before (drop 4 rest)

    o : Bool
    o = same_bytes (take 4 rest) open_mark

    f : Bool
    f = same_bytes (after before (drop 4 rest)) shut_mark

    next : Verdict
    next = read fuel (before ++ candidate (drop 4 rest)) (place + (4 + length (record_of before (candidate (drop 4 rest))))) (after before (drop 4 rest))

    pick : IsDamage before rest → shape a b c o f (accepts before) next (accepts (before ++ candidate (drop 4 rest))) (damage place before) ≡ damage place before
    pick (too_long shut long) = shapes_tf a b c o f (accepts before) next (accepts (before ++ candidate (drop 4 rest))) (damage place before) (same-refl _ _ shut) (le-false _ _ long)
    pick (no_batch not_shut none) = shapes_ff a b c o f (accepts before) next (accepts (before ++ candidate (drop 4 rest))) (damage place before) (same-not _ _ not_shut) none
    pick (no_end not_shut not_open has not_end) =
        shapes_none a b c o f (accepts before) next (accepts (before ++ candidate (drop 4 rest))) (damage place before) (same-not _ _ not_shut) has (same-not _ _ not_open) (same-not _ _ not_end)

module _ (before : List (List ℕ)) (rest : List ℕ) (m : ℕ) (enough : 80 + most_bytes ≤ m) where
  mark_in_window : take 4 (take (4 + m) rest) ≡ take 4 rest
  mark_in_window = take-take 4 (4 + m) rest (omega arith)

  text_in_window : drop 4 (take (4 + m) rest) ≡ take m (drop 4 rest)
  text_in_window = drop-take 4 m rest

  begins_in_window : begins before (drop 4 (take (4 + m) rest)) ≡ begins before (drop 4 rest)
  begins_in_window = ap (λ (l : List ℕ). begins before l) text_in_window ∙ (windows_suffice before (drop 4 rest) m (omega (arith, enough))).0

  -- what comes after the batch, if it is a shut mark
  end_in_window : begins before (drop 4 rest) ≡ true → after before (drop 4 rest) ≡ shut_mark → after before (drop 4 (take (4 + m) rest)) ≡ shut_mark
  end_in_window has end =
      let text = drop 4 rest in
      let batch = candidate text in
      let size = length (record_of before batch) in
      let b = begun before text has in
      let all : length text ≡ size + 4 = ap length b.is_split ∙ length-append (record_of before batch) (after before text) ∙ ap (λ (l : List ℕ). size + length l) end in
      ap (λ (l : List ℕ). after before l) (text_in_window ∙ take_all m text (let few : length text ≤ m = omega (arith, all, enough, b.good.fits, length-record_of before batch) in few)) ∙ end

  -- a window on damage shows it
  pub damage_in_window : IsDamage before (take (4 + m) rest) → IsDamage before rest
  damage_in_window (too_long shut long) = too_long (sym mark_in_window ∙ shut) (omega (arith, long, length-take (4 + m) rest))
  damage_in_window (no_batch not_shut none) = no_batch (λ e. not_shut (mark_in_window ∙ e)) (sym begins_in_window ∙ none)
  damage_in_window (no_end not_shut not_open has not_end) =
      let begins_too = sym begins_in_window ∙ has in
      no_end (λ e. not_shut (mark_in_window ∙ e)) (λ e. not_open (mark_in_window ∙ e)) begins_too (λ e. not_end (end_in_window begins_too e))

-- a window that is not full has all that is left
pub all_in_window : (n : ℕ) (rest window : List ℕ) → window ≡ take n rest → length window < n → window ≡ rest
all_in_window n rest window is few = is ∙ take_all n rest (omega (arith, few, ap length is, length-take n rest))
