-- Verdicts.
use Rattle.std.proofs.Common.{◌≡◌, ◌≢◌, ◌⊎◌, inl, inr, ℕ, zero, suc, ◌+◌, ◌-◌, ◌*◌, ◌/◌, ◌%◌, ◌^◌, ◌<◌, ◌≤◌, Bool, true, false, if◌then◌else◌, List, [], ◌∷◌, ◌++◌, length, take, drop, refl, sym, ◌∙◌, ap, subst, arith, append_assoc, length-append, length-drop, take-append-drop, pow-suc}
use Rattle.std.specs.Prelude.{nat_le, min, ◌&&◌}
use Rattle.std.proofs.lemmas.List.{take_at, drop_at, append-nil, length-take-le}
use Rattle.std.proofs.lemmas.List.Elements.{All-head, All-tail, All-nil, All-cons}
use Rattle.std.proofs.lemmas.Bool.Decides.{nat_tests}
use Rattle.std.specs.List.{All}
use Rattle.kept_batches.specs.Text.{lines_in, marked}
use Rattle.kept_batches.specs.Heads.{same_bytes}
use Rattle.kept_batches.specs.File.{open_mark, shut_mark, most_bytes, digits, size_part, head_part, lines_part, record_of, records, all_lines, IsBatch, Keeps, whole, torn, unmarked, unbegun}
use Rattle.kept_batches.specs.Verdict.{Verdict, accepts, damage, accepted, readable, number, candidate, begins, after, read, verdict, VerdictIsRight, IsPlace, PlaceIsRight}
use Rattle.kept_batches.proofs.Parsing.{parts, lines_in-marked}
use Rattle.kept_batches.proofs.HeadLemmas.{Same, is, is_not, cases_same}
use Rattle.kept_batches.proofs.CrashLemmas.{short_keeps}
use Rattle.kept_batches.proofs.FileLemmas.{keeps_one, length-digits, length-size_part, length-head_part, length-record_of, body_split, frame_split, frames_long}

number-append : (so_far : ℕ) (xs : List ℕ) (d : ℕ) → number so_far (xs ++ d ∷ []) ≡ min (number so_far xs) 99_999_999 * 10 + (d - 48)
number-append so_far [] d = refl
number-append so_far (x ∷ xs) d = number-append (min so_far 99_999_999 * 10 + (x - 48)) xs d

number-digits : (width n : ℕ) → n < 10 ^ width → n < 100_000_000 → number 0 (digits width n) ≡ n
number-digits zero n low less = omega (arith, low)
number-digits (suc width) n low less =
    number-append 0 (digits width (n / 10)) (48 + n % 10)
    ∙ ap (λ (k : ℕ). min k 99_999_999 * 10 + ((48 + n % 10) - 48)) (number-digits width (n / 10) (omega (arith, low, pow-suc 10 width)) (omega (arith, less)))
    ∙ omega (arith, less)

pub number-record_of : (before batch : List (List ℕ)) (t : List ℕ) → IsBatch batch → number 0 (take 8 (drop 1 (record_of before batch ++ t))) ≡ length (marked batch)
number-record_of before batch t good =
    let n = length (marked batch) in
    let rest = head_part before batch ++ (lines_part batch ++ t) in
    let size : take 8 (drop 1 (record_of before batch ++ t)) ≡ digits 8 n =
    ap (λ (l : List ℕ). take 8 (drop 1 l)) (body_split before batch t)
    ∙ ap (λ (l : List ℕ). take 8 l) (append_assoc (digits 8 n) (32 ∷ []) rest)
    ∙ take_at (digits 8 n) (32 ∷ rest) 8 (length-digits 8 n) in
    ap (λ (l : List ℕ). number 0 l) size ∙ number-digits 8 n (omega (arith, good.fits)) (omega (arith, good.fits))

pub drop-record_of : (before batch : List (List ℕ)) (t : List ℕ) → drop 75 (record_of before batch ++ t) ≡ marked batch ++ t
drop-record_of before batch t =
    let front : List ℕ = size_part batch ++ (head_part before batch ++ 10 ∷ []) in
    let front_size : length front ≡ 75 = omega (arith, length-size_part batch, length-head_part before batch, length-append (head_part before batch) (10 ∷ []), length-append (size_part batch) (head_part before batch ++ 10 ∷ [])) in
    let whole_text : record_of before batch ++ t ≡ front ++ (marked batch ++ t) =
    body_split before batch t
    ∙ ap (λ (l : List ℕ). size_part batch ++ l) (sym (append_assoc (head_part before batch) (10 ∷ []) (marked batch ++ t)))
    ∙ sym (append_assoc (size_part batch) (head_part before batch ++ 10 ∷ []) (marked batch ++ t)) in
    ap (λ (l : List ℕ). drop 75 l) whole_text ∙ drop_at front (marked batch ++ t) 75 front_size

pub candidate-record_of : (before batch : List (List ℕ)) (t : List ℕ) → IsBatch batch → candidate (record_of before batch ++ t) ≡ batch
candidate-record_of before batch t good =
    let n = length (marked batch) in
    let text = record_of before batch ++ t in
    let split = body_split before batch t in
    let rest = head_part before batch ++ (lines_part batch ++ t) in
    let size : take 8 (drop 1 text) ≡ digits 8 n =
    ap (λ (l : List ℕ). take 8 (drop 1 l)) split
    ∙ ap (λ (l : List ℕ). take 8 l) (append_assoc (digits 8 n) (32 ∷ []) rest)
    ∙ take_at (digits 8 n) (32 ∷ rest) 8 (length-digits 8 n) in
    let front : List ℕ = size_part batch ++ (head_part before batch ++ 10 ∷ []) in
    let front_size : length front ≡ 75 = omega (arith, length-size_part batch, length-head_part before batch, length-append (head_part before batch) (10 ∷ []), length-append (size_part batch) (head_part before batch ++ 10 ∷ [])) in
    let whole_text : text ≡ front ++ (marked batch ++ t) =
    split
    ∙ ap (λ (l : List ℕ). size_part batch ++ l) (sym (append_assoc (head_part before batch) (10 ∷ []) (marked batch ++ t)))
    ∙ sym (append_assoc (size_part batch) (head_part before batch ++ 10 ∷ []) (marked batch ++ t)) in
    let back : drop 75 text ≡ marked batch ++ t = ap (λ (l : List ℕ). drop 75 l) whole_text ∙ drop_at front (marked batch ++ t) 75 front_size in
    let value : number 0 (take 8 (drop 1 text)) ≡ n = ap (λ (l : List ℕ). number 0 l) size ∙ number-digits 8 n (omega (arith, good.fits)) (omega (arith, good.fits)) in
    ap (λ (k : ℕ). lines_in (take k (drop 75 text))) value
    ∙ ap (λ (l : List ℕ). lines_in (take n l)) back
    ∙ ap lines_in (take_at (marked batch) t n refl ∙ sym (append-nil (marked batch)))
    ∙ lines_in-marked batch [] good.are ∙ append-nil batch

pub same-refl : (xs ys : List ℕ) → xs ≡ ys → same_bytes xs ys ≡ true
same-refl xs ys e = pick (cases_same xs ys)
  where
    pick : Same xs ys → same_bytes xs ys ≡ true
    pick (is f t) = t
    pick (is_not n t) = absurd (n e)

pub same-not : (xs ys : List ℕ) → xs ≢ ys → same_bytes xs ys ≡ false
same-not xs ys n = pick (cases_same xs ys)
  where
    pick : Same xs ys → same_bytes xs ys ≡ false
    pick (is f t) = absurd (n f)
    pick (is_not m t) = t

pub le-true : (a b : ℕ) → a ≤ b → nat_le a b ≡ true
le-true a b low = grind (arith, nat_tests)

pub begins-record_of : (before batch : List (List ℕ)) (t : List ℕ) → IsBatch batch → begins before (record_of before batch ++ t) ≡ true
begins-record_of before batch t good =
    let same = candidate-record_of before batch t good in
    let front : same_bytes (take (length (record_of before (candidate (record_of before batch ++ t)))) (record_of before batch ++ t)) (record_of before (candidate (record_of before batch ++ t))) ≡ true =
    same-refl _ _ (ap (λ (b : List (List ℕ)). take (length (record_of before b)) (record_of before batch ++ t)) same ∙ take_at (record_of before batch) t _ refl ∙ ap (λ (b : List (List ℕ)). record_of before b) (sym same)) in
    let low : nat_le (length (marked (candidate (record_of before batch ++ t)))) most_bytes ≡ true = ap (λ (b : List (List ℕ)). nat_le (length (marked b)) most_bytes) same ∙ le-true _ _ good.fits in
    ap (λ (b : Bool). b && nat_le (length (marked (candidate (record_of before batch ++ t)))) most_bytes) front ∙ low

pub after-record_of : (before batch : List (List ℕ)) (t : List ℕ) → IsBatch batch → after before (record_of before batch ++ t) ≡ t
after-record_of before batch t good =
    ap (λ (b : List (List ℕ)). drop (length (record_of before b)) (record_of before batch ++ t)) (candidate-record_of before batch t good) ∙ drop_at (record_of before batch) t _ refl

-- what is left behind whole batches, with the lines that it adds
pub data Ends (before : List (List ℕ)) (tail : List ℕ) (more : List (List ℕ)) : Type 0 where
  shut_end : (rest : List ℕ) → tail ≡ shut_mark ++ rest → length rest ≤ 79 + most_bytes → more ≡ [] → Ends before tail more
  marked_end : (mark : List ℕ) (batch : List (List ℕ)) → length mark ≡ 4 → mark ≢ open_mark → mark ≢ shut_mark → IsBatch batch
      → tail ≡ mark ++ (record_of before batch ++ shut_mark) → more ≡ batch → Ends before tail more

pub record Rest (before : List (List ℕ)) (rest : List ℕ) (lines : List (List ℕ)) : Type 0 where
  pub batches : List (List (List ℕ))
  pub are : All IsBatch batches
  pub tail : List ℕ
  pub more : List (List ℕ)
  pub split : rest ≡ records before batches ++ tail
  pub ends : Ends (before ++ all_lines batches) tail more
  pub lines_are : lines ≡ before ++ (all_lines batches ++ more)

read-end : (fuel : ℕ) (before : List (List ℕ)) (place : ℕ) (tail : List ℕ) (more : List (List ℕ)) → Ends before tail more → read (suc fuel) before place tail ≡ accepts (before ++ more)
read-end fuel before place tail more (shut_end rest e few none) =
    let shut : same_bytes (take 4 tail) shut_mark ≡ true = same-refl _ _ (ap (λ (l : List ℕ). take 4 l) e) in
    let low : nat_le (length tail) (83 + most_bytes) ≡ true = le-true _ _ (omega (arith, few, ap length e)) in
    let same : before ≡ before ++ more = sym (append-nil before) ∙ ap (λ (l : List (List ℕ)). before ++ l) (sym none) in
    cc (shut, low, same)
read-end fuel before place tail more (marked_end mark batch four not_open not_shut good e last) =
    let front : take 4 tail ≡ mark = ap (λ (l : List ℕ). take 4 l) e ∙ take_at mark _ 4 four in
    let back : drop 4 tail ≡ record_of before batch ++ shut_mark = ap (λ (l : List ℕ). drop 4 l) e ∙ drop_at mark _ 4 four in
    let no_shut : same_bytes (take 4 tail) shut_mark ≡ false = same-not _ _ (λ f. not_shut (sym front ∙ f)) in
    let no_open : same_bytes (take 4 tail) open_mark ≡ false = same-not _ _ (λ f. not_open (sym front ∙ f)) in
    let has : begins before (drop 4 tail) ≡ true = ap (λ (l : List ℕ). begins before l) back ∙ begins-record_of before batch shut_mark good in
    let ended : same_bytes (after before (drop 4 tail)) shut_mark ≡ true = same-refl _ _ (ap (λ (l : List ℕ). after before l) back ∙ after-record_of before batch shut_mark good) in
    let same : before ++ candidate (drop 4 tail) ≡ before ++ more = ap (λ (l : List (List ℕ)). before ++ l) (ap candidate back ∙ candidate-record_of before batch shut_mark good ∙ sym last) in
    cc (no_shut, no_open, has, ended, same)

read-open : (fuel : ℕ) (before : List (List ℕ)) (place : ℕ) (text : List ℕ) → begins before text ≡ true
    → read (suc fuel) before place (open_mark ++ text) ≡ read fuel (before ++ candidate text) (place + (4 + length (record_of before (candidate text)))) (after before text)
read-open fuel before place text has =
    ap (λ (b : Bool). if b then read fuel (before ++ candidate text) (place + (4 + length (record_of before (candidate text)))) (after before text) else damage place before) has

pub read-frame : (fuel : ℕ) (before : List (List ℕ)) (place : ℕ) (batch : List (List ℕ)) (t : List ℕ) → IsBatch batch
    → read (suc fuel) before place (open_mark ++ (record_of before batch ++ t)) ≡ read fuel (before ++ batch) (place + (4 + length (record_of before batch))) t
read-frame fuel before place batch t good =
    let has = begins-record_of before batch t good in
    let same = candidate-record_of before batch t good in
    let rest = after-record_of before batch t good in
    let go : read (suc fuel) before place (open_mark ++ (record_of before batch ++ t)) ≡ read fuel (before ++ candidate (record_of before batch ++ t)) (place + (4 + length (record_of before (candidate (record_of before batch ++ t))))) (after before (record_of before batch ++ t)) = read-open fuel before place (record_of before batch ++ t) has in
    go ∙ ap (λ (b : List (List ℕ)). read fuel (before ++ b) (place + (4 + length (record_of before b))) (after before (record_of before batch ++ t))) same
    ∙ ap (λ (l : List ℕ). read fuel (before ++ batch) (place + (4 + length (record_of before batch))) l) rest

ends_long : (before : List (List ℕ)) (tail : List ℕ) (more : List (List ℕ)) → Ends before tail more → 4 ≤ length tail
ends_long before tail more (shut_end rest e few none) = omega (arith, ap length e)
ends_long before tail more (marked_end mark batch four not_open not_shut good e last) = omega (arith, four, ap length e, length-append mark (record_of before batch ++ shut_mark))

read-records : (fuel : ℕ) (before : List (List ℕ)) (place : ℕ) (batches : List (List (List ℕ))) (tail : List ℕ) (more : List (List ℕ)) → All IsBatch batches → Ends (before ++ all_lines batches) tail more
    → length (records before batches ++ tail) ≤ fuel → read fuel before place (records before batches ++ tail) ≡ accepts (before ++ (all_lines batches ++ more))
read-records zero before place [] tail more are ends few = absurd (omega (arith, few, ends_long _ tail more ends))
read-records (suc fuel) before place [] tail more are ends few =
    read-end fuel before place tail more (subst (λ (l : List (List ℕ)). Ends l tail more) (append-nil before) ends)
read-records zero before place (batch ∷ batches) tail more are ends few =
    absurd (omega (arith, few, length-append (records before (batch ∷ batches)) tail, frames_long before batch batches))
read-records (suc fuel) before place (batch ∷ batches) tail more are ends few =
    let split = frame_split before batch batches tail in
    ap (λ (l : List ℕ). read (suc fuel) before place l) split
    ∙ read-frame fuel before place batch (records (before ++ batch) batches ++ tail) (All-head IsBatch batch batches are)
    ∙ read-records fuel (before ++ batch) _ batches tail more (All-tail IsBatch batch batches are)
    (subst (λ (l : List (List ℕ)). Ends l tail more) (sym (append_assoc before batch (all_lines batches))) ends)
    (omega (arith, few, ap length split, length-append (record_of before batch) (records (before ++ batch) batches ++ tail), length-record_of before batch))
    ∙ ap accepts (append_assoc before batch (all_lines batches ++ more) ∙ ap (λ (l : List (List ℕ)). before ++ l) (sym (append_assoc batch (all_lines batches) more)))

abbrev pub shape : Bool → Bool → Bool → Bool → Bool → Verdict → Verdict → Verdict → Verdict → Verdict
shape a b c d e x y z w = if a then (if b then x else w) else if c then (if d then y else if e then z else w) else w

pub shapes_tt : (a b c d e : Bool) (x y z w : Verdict) → a ≡ true → b ≡ true → shape a b c d e x y z w ≡ x
shapes_tt a b c d e x y z w pa pb = cc (pa, pb)

pub shapes_tf : (a b c d e : Bool) (x y z w : Verdict) → a ≡ true → b ≡ false → shape a b c d e x y z w ≡ w
shapes_tf a b c d e x y z w pa pb = cc (pa, pb)

pub shapes_ff : (a b c d e : Bool) (x y z w : Verdict) → a ≡ false → c ≡ false → shape a b c d e x y z w ≡ w
shapes_ff a b c d e x y z w pa pc = cc (pa, pc)

pub shapes_ftt : (a b c d e : Bool) (x y z w : Verdict) → a ≡ false → c ≡ true → d ≡ true → shape a b c d e x y z w ≡ y
shapes_ftt a b c d e x y z w pa pc pd = cc (pa, pc, pd)

pub shapes_fff : (a b c d e : Bool) (x y z w : Verdict) → a ≡ false → c ≡ true → d ≡ false → e ≡ true → shape a b c d e x y z w ≡ z
shapes_fff a b c d e x y z w pa pc pd pe = cc (pa, pc, pd, pe)

pub shapes_none : (a b c d e : Bool) (x y z w : Verdict) → a ≡ false → c ≡ true → d ≡ false → e ≡ false → shape a b c d e x y z w ≡ w
shapes_none a b c d e x y z w pa pc pd pe = cc (pa, pc, pd, pe)

pub yes_or_no : (b : Bool) → (b ≡ true) ⊎ (b ≡ false)
yes_or_no true = inl refl
yes_or_no false = inr refl

pub le-from : (a b : ℕ) → nat_le a b ≡ true → a ≤ b
le-from a b e = grind (arith, nat_tests)

pub no_damage : (place : ℕ) (before lines : List (List ℕ)) → damage place before ≢ accepts lines
no_damage place before lines e = subst Damaged e tt
  where
    Damaged : Verdict → Type 0
    Damaged (damage at l) = Unit {0}
    Damaged (accepts l) = ⊥

pub accepted-same : (xs ys : List (List ℕ)) → accepts xs ≡ accepts ys → xs ≡ ys
accepted-same xs ys e = ap accepted e

pub record Begun (before : List (List ℕ)) (text : List ℕ) : Type 0 where
  pub is_split : text ≡ record_of before (candidate text) ++ after before text
  pub good : IsBatch (candidate text)

and_left : (a b : Bool) → (a && b) ≡ true → a ≡ true
and_left true b e = refl
and_left false b e = e

and_right : (a b : Bool) → (a && b) ≡ true → b ≡ true
and_right true b e = e
and_right false true e = refl
and_right false false e = e

same-from : (xs ys : List ℕ) → same_bytes xs ys ≡ true → xs ≡ ys
same-from xs ys e = pick (cases_same xs ys)
  where
    pick : Same xs ys → xs ≡ ys
    pick (is f t) = f
    pick (is_not n t) = absurd (cc (sym t ∙ e))

pub begun : (before : List (List ℕ)) (text : List ℕ) → begins before text ≡ true → Begun before text
begun before text e =
    let b = record_of before (candidate text) in
    let front = same-from (take (length b) text) b (and_left _ _ e) in
    record {
      is_split = sym (take-append-drop (length b) text) ∙ ap (λ (l : List ℕ). l ++ drop (length b) text) front;
      good = record { are = (parts (take (number 0 (take 8 (drop 1 text))) (drop 75 text))).are; fits = le-from _ _ (and_right _ _ e) };
    }

sound : (fuel : ℕ) (before : List (List ℕ)) (place : ℕ) (rest : List ℕ) (lines : List (List ℕ)) → read fuel before place rest ≡ accepts lines → Rest before rest lines
sound zero before place rest lines e = absurd (no_damage place before lines e)
sound (suc fuel) before place rest lines e =
    by_shut (sound fuel (before ++ candidate (drop 4 rest)) (place + (4 + length (record_of before (candidate (drop 4 rest))))) (after before (drop 4 rest)) lines)
    (cases_same (take 4 rest) shut_mark) (yes_or_no (nat_le (length rest) (83 + most_bytes))) (yes_or_no (begins before (drop 4 rest))) (cases_same (take 4 rest) open_mark)
    (cases_same (after before (drop 4 rest)) shut_mark) e
  where
    text : List ℕ
    text = drop 4 rest

    a : Bool
    a = same_bytes (take 4 rest) shut_mark

    b : Bool
    b = nat_le (length rest) (83 + most_bytes)

    c : Bool
    c = begins before (drop 4 rest)

    d : Bool
    d = same_bytes (take 4 rest) open_mark

    f : Bool
    f = same_bytes (after before (drop 4 rest)) shut_mark

    next : Verdict
    next = read fuel (before ++ candidate (drop 4 rest)) (place + (4 + length (record_of before (candidate (drop 4 rest))))) (after before (drop 4 rest))

    halves : rest ≡ take 4 rest ++ drop 4 rest
    halves = sym (take-append-drop 4 rest)

    four : Begun before (drop 4 rest) → length (take 4 rest) ≡ 4
    four g = length-take-le 4 rest (omega (arith, ap length g.is_split, length-append (record_of before (candidate (drop 4 rest))) (after before (drop 4 rest)), length-record_of before (candidate (drop 4 rest)), length-drop 4 rest))

    by_shut : (next ≡ accepts lines → Rest (before ++ candidate (drop 4 rest)) (after before (drop 4 rest)) lines) → Same (take 4 rest) shut_mark → (b ≡ true) ⊎ (b ≡ false) → (c ≡ true) ⊎ (c ≡ false)
        → Same (take 4 rest) open_mark → Same (after before (drop 4 rest)) shut_mark → shape a b c d f (accepts before) next (accepts (before ++ candidate (drop 4 rest))) (damage place before) ≡ accepts lines → Rest before rest lines
    by_shut ih (is g t) (inl low) w m l e =
        record {
          batches = [];
          are = All-nil IsBatch;
          tail = rest;
          more = [];
          split = refl;
          ends = shut_end (drop 4 rest) (halves ∙ ap (λ (l : List ℕ). l ++ drop 4 rest) g) (let few = le-from _ _ low in omega (arith, few, length-drop 4 rest)) refl;
          lines_are = sym (accepted-same before lines (sym (shapes_tt a b c d f (accepts before) next (accepts (before ++ candidate (drop 4 rest))) (damage place before) t low) ∙ e)) ∙ sym (append-nil before);
        }
    by_shut ih (is g t) (inr high) w m l e = absurd (no_damage place before lines (sym (shapes_tf a b c d f (accepts before) next (accepts (before ++ candidate (drop 4 rest))) (damage place before) t high) ∙ e))
    by_shut ih (is_not n t) s (inr no_body) m l e = absurd (no_damage place before lines (sym (shapes_ff a b c d f (accepts before) next (accepts (before ++ candidate (drop 4 rest))) (damage place before) t no_body) ∙ e))
    by_shut ih (is_not n t) s (inl has) (is g o) l e =
        let g2 = begun before (drop 4 rest) has in
        let r = ih (sym (shapes_ftt a b c d f (accepts before) next (accepts (before ++ candidate (drop 4 rest))) (damage place before) t has o) ∙ e) in
        record {
          batches = candidate (drop 4 rest) ∷ r.batches;
          are = All-cons IsBatch (candidate (drop 4 rest)) r.batches g2.good r.are;
          tail = r.tail;
          more = r.more;
          split = halves ∙ cc (g, g2.is_split, r.split) ∙ sym (frame_split before (candidate (drop 4 rest)) r.batches r.tail);
          ends = subst (λ (l : List (List ℕ)). Ends l r.tail r.more) (append_assoc before (candidate (drop 4 rest)) (all_lines r.batches)) r.ends;
          lines_are = r.lines_are ∙ append_assoc before (candidate (drop 4 rest)) (all_lines r.batches ++ r.more) ∙ ap (λ (l : List (List ℕ)). before ++ l) (sym (append_assoc (candidate (drop 4 rest)) (all_lines r.batches) r.more));
        }
    by_shut ih (is_not n t) s (inl has) (is_not nope o) (is l u) e =
        let g2 = begun before (drop 4 rest) has in
        record {
          batches = [];
          are = All-nil IsBatch;
          tail = rest;
          more = candidate (drop 4 rest);
          split = refl;
          ends = marked_end (take 4 rest) (candidate (drop 4 rest)) (four g2) nope n g2.good
              (halves ∙ ap (λ (l : List ℕ). take 4 rest ++ l) (g2.is_split ∙ ap (λ (l : List ℕ). record_of before (candidate (drop 4 rest)) ++ l) l ∙ ap (λ (l : List (List ℕ)). record_of l (candidate (drop 4 rest)) ++ shut_mark) (sym (append-nil before)))) refl;
          lines_are = sym (accepted-same _ lines (sym (shapes_fff a b c d f (accepts before) next (accepts (before ++ candidate (drop 4 rest))) (damage place before) t has o u) ∙ e));
        }
    by_shut ih (is_not n t) s (inl has) (is_not nope o) (is_not l u) e = absurd (no_damage place before lines (sym (shapes_none a b c d f (accepts before) next (accepts (before ++ candidate (drop 4 rest))) (damage place before) t has o u) ∙ e))

rest_keeps : (file : List ℕ) (lines : List (List ℕ)) → Rest [] file lines → Keeps file lines
rest_keeps file lines r = pick r.ends
  where
    pick : Ends (all_lines r.batches) r.tail r.more → Keeps file lines
    pick (shut_end [] e few none) =
        whole r.batches (record { are = r.are; is = r.split ∙ ap (λ (l : List ℕ). records [] r.batches ++ l) e }) (r.lines_are ∙ ap (λ (l : List (List ℕ)). all_lines r.batches ++ l) none ∙ append-nil (all_lines r.batches))
    pick (shut_end (x ∷ rest) e few none) =
        torn r.batches (record { are = r.are; rest = x ∷ rest; is = r.split ∙ ap (λ (l : List ℕ). records [] r.batches ++ l) e ∙ sym (append_assoc (records [] r.batches) shut_mark (x ∷ rest)); some = omega arith; few = few })
        (r.lines_are ∙ ap (λ (l : List (List ℕ)). all_lines r.batches ++ l) none ∙ append-nil (all_lines r.batches))
    pick (marked_end mark batch four not_open not_shut good e last) =
        unmarked r.batches batch (record { are = r.are; last = good; mark = mark; four = four; not_open = not_open; not_shut = not_shut; is = r.split ∙ ap (λ (l : List ℕ). records [] r.batches ++ l) e })
        (r.lines_are ∙ ap (λ (l : List (List ℕ)). all_lines r.batches ++ l) last)

keeps_rest : (file : List ℕ) (lines : List (List ℕ)) → (length file ≤ 4 → ⊥) → Keeps file lines → Rest [] file lines
keeps_rest file lines long (whole batches w e) =
    record { batches = batches; are = w.are; tail = shut_mark; more = []; split = w.is; ends = shut_end [] refl (omega arith) refl; lines_are = e ∙ sym (append-nil (all_lines batches)) }
keeps_rest file lines long (torn batches w e) =
    record { batches = batches; are = w.are; tail = shut_mark ++ w.rest; more = []; split = w.is ∙ append_assoc (records [] batches) shut_mark w.rest; ends = shut_end w.rest refl w.few refl; lines_are = e ∙ sym (append-nil (all_lines batches)) }
keeps_rest file lines long (unmarked batches batch w e) =
    record { batches = batches; are = w.are; tail = w.mark ++ (record_of (all_lines batches) batch ++ shut_mark); more = batch; split = w.is; ends = marked_end w.mark batch w.four w.not_open w.not_shut w.last refl refl; lines_are = e }
keeps_rest file lines long (unbegun w e) = absurd (long w.short)

pub verdict_sound : (file : List ℕ) (lines : List (List ℕ)) → (nat_le (length file) 4 ≡ true) ⊎ (nat_le (length file) 4 ≡ false) → verdict file ≡ accepts lines → Keeps file lines
verdict_sound file lines (inl low) e =
    let none : [] ≡ lines = accepted-same [] lines (sym (ap (λ (b : Bool). if b then accepts [] else read (length file) [] 0 file) low) ∙ e) in
    subst (λ (l : List (List ℕ)). Keeps file l) none (short_keeps file (le-from _ _ low))
verdict_sound file lines (inr high) e =
    rest_keeps file lines (sound (length file) [] 0 file lines (sym (ap (λ (b : Bool). if b then accepts [] else read (length file) [] 0 file) high) ∙ e))

verdict_complete : (file : List ℕ) (lines : List (List ℕ)) → (nat_le (length file) 4 ≡ true) ⊎ (nat_le (length file) 4 ≡ false) → Keeps file lines → verdict file ≡ accepts lines
verdict_complete file lines (inl low) k =
    ap (λ (b : Bool). if b then accepts [] else read (length file) [] 0 file) low ∙ ap accepts (keeps_one file [] lines (short_keeps file (le-from _ _ low)) k)
verdict_complete file lines (inr high) k =
    let r = keeps_rest file lines (λ few. absurd (cc (sym (le-true (length file) 4 few) ∙ high))) k in
    ap (λ (b : Bool). if b then accepts [] else read (length file) [] 0 file) high
    ∙ ap (λ (l : List ℕ). read (length file) [] 0 l) r.split
    ∙ read-records (length file) [] 0 r.batches r.tail r.more r.are r.ends (omega (arith, ap length r.split))
    ∙ ap accepts (sym r.lines_are)

pub verdict_is_right : VerdictIsRight
verdict_is_right file lines = (verdict_sound file lines (yes_or_no (nat_le (length file) 4)), verdict_complete file lines (yes_or_no (nat_le (length file) 4)))

pub record Placed (before : List (List ℕ)) (rest : List ℕ) (place found : ℕ) (lines : List (List ℕ)) : Type 0 where
  pub batches : List (List (List ℕ))
  pub are : All IsBatch batches
  pub left : List ℕ
  pub split : rest ≡ records before batches ++ left
  pub found_is : found ≡ place + length (records before batches)
  pub lines_are : lines ≡ before ++ all_lines batches

abbrev place_in : Verdict → ℕ
place_in (damage at l) = at
place_in (accepts lines) = 0

here : (before : List (List ℕ)) (rest : List ℕ) (place found : ℕ) (lines : List (List ℕ)) → damage place before ≡ damage found lines → Placed before rest place found lines
here before rest place found lines e = record {
  batches = [];
  are = All-nil IsBatch;
  left = rest;
  split = refl;
  found_is = let same : place ≡ found = ap place_in e in omega (arith, same);
  lines_are = sym (ap readable e) ∙ sym (append-nil before);
}

placed : (fuel : ℕ) (before : List (List ℕ)) (place : ℕ) (rest : List ℕ) (found : ℕ) (lines : List (List ℕ)) → read fuel before place rest ≡ damage found lines → Placed before rest place found lines
placed zero before place rest found lines e = here before rest place found lines e
placed (suc fuel) before place rest found lines e =
    pick (placed fuel (before ++ candidate (drop 4 rest)) (place + (4 + length (record_of before (candidate (drop 4 rest))))) (after before (drop 4 rest)) found lines)
    (cases_same (take 4 rest) shut_mark) (yes_or_no (nat_le (length rest) (83 + most_bytes))) (yes_or_no (begins before (drop 4 rest))) (cases_same (take 4 rest) open_mark)
    (cases_same (after before (drop 4 rest)) shut_mark) e
  where
    a : Bool
    a = same_bytes (take 4 rest) shut_mark

    b : Bool
    b = nat_le (length rest) (83 + most_bytes)

    c : Bool
    c = begins before (drop 4 rest)

    d : Bool
    d = same_bytes (take 4 rest) open_mark

    f : Bool
    f = same_bytes (after before (drop 4 rest)) shut_mark

    next : Verdict
    next = read fuel (before ++ candidate (drop 4 rest)) (place + (4 + length (record_of before (candidate (drop 4 rest))))) (after before (drop 4 rest))

    wrong : (l : List (List ℕ)) → accepts l ≡ damage found lines → Placed before rest place found lines
    wrong l g = absurd (no_damage found lines l (sym g))

    pick : (next ≡ damage found lines → Placed (before ++ candidate (drop 4 rest)) (after before (drop 4 rest)) (place + (4 + length (record_of before (candidate (drop 4 rest))))) found lines)
        → Same (take 4 rest) shut_mark → (b ≡ true) ⊎ (b ≡ false) → (c ≡ true) ⊎ (c ≡ false) → Same (take 4 rest) open_mark → Same (after before (drop 4 rest)) shut_mark
        → shape a b c d f (accepts before) next (accepts (before ++ candidate (drop 4 rest))) (damage place before) ≡ damage found lines → Placed before rest place found lines
    pick ih (is g t) (inl low) w m l e = wrong before (sym (shapes_tt a b c d f (accepts before) next (accepts (before ++ candidate (drop 4 rest))) (damage place before) t low) ∙ e)
    pick ih (is g t) (inr high) w m l e = here before rest place found lines (sym (shapes_tf a b c d f (accepts before) next (accepts (before ++ candidate (drop 4 rest))) (damage place before) t high) ∙ e)
    pick ih (is_not n t) s (inr no_body) m l e = here before rest place found lines (sym (shapes_ff a b c d f (accepts before) next (accepts (before ++ candidate (drop 4 rest))) (damage place before) t no_body) ∙ e)
    pick ih (is_not n t) s (inl has) (is g o) l e =
        let g2 = begun before (drop 4 rest) has in
        let r = ih (sym (shapes_ftt a b c d f (accepts before) next (accepts (before ++ candidate (drop 4 rest))) (damage place before) t has o) ∙ e) in
        record {
          batches = candidate (drop 4 rest) ∷ r.batches;
          are = All-cons IsBatch (candidate (drop 4 rest)) r.batches g2.good r.are;
          left = r.left;
          split = sym (take-append-drop 4 rest) ∙ cc (g, g2.is_split, r.split) ∙ sym (frame_split before (candidate (drop 4 rest)) r.batches r.left);
          found_is = omega (arith, r.found_is, length-append (record_of before (candidate (drop 4 rest))) (records (before ++ candidate (drop 4 rest)) r.batches));
          lines_are = r.lines_are ∙ append_assoc before (candidate (drop 4 rest)) (all_lines r.batches);
        }
    pick ih (is_not n t) s (inl has) (is_not nope o) (is l u) e = wrong _ (sym (shapes_fff a b c d f (accepts before) next (accepts (before ++ candidate (drop 4 rest))) (damage place before) t has o u) ∙ e)
    pick ih (is_not n t) s (inl has) (is_not nope o) (is_not l u) e = here before rest place found lines (sym (shapes_none a b c d f (accepts before) next (accepts (before ++ candidate (drop 4 rest))) (damage place before) t has o u) ∙ e)

pub place_is_right : PlaceIsRight
place_is_right file place lines e = pick (yes_or_no (nat_le (length file) 4))
  where
    pick : (nat_le (length file) 4 ≡ true) ⊎ (nat_le (length file) 4 ≡ false) → IsPlace file place lines
    pick (inl low) = absurd (no_damage place lines [] (sym (sym (ap (λ (b : Bool). if b then accepts [] else read (length file) [] 0 file) low) ∙ e)))
    pick (inr high) =
        let r = placed (length file) [] 0 file place lines (sym (ap (λ (b : Bool). if b then accepts [] else read (length file) [] 0 file) high) ∙ e) in
        record { batches = r.batches; are = r.are; rest = r.left; is = r.split; ends = omega (arith, r.found_is); lines_are = r.lines_are }
