-- A changed byte.
use Rattle.std.proofs.Common.{◌≡◌, ◌⊎◌, inl, inr, ℕ, zero, suc, ◌≤◌, List, [], ◌∷◌, ◌++◌, length, get_or, set, drop, refl, sym, ◌∙◌, ap, subst, arith, append_assoc, length-append, length-set}
use Rattle.std.proofs.lemmas.List.{append-nil, append_cancel_left, set_past}
use Rattle.std.proofs.lemmas.List.Elements.{All-head, All-tail}
use Rattle.std.specs.List.{All}
use Rattle.kept_batches.specs.Text.{marked}
use Rattle.kept_batches.specs.File.{open_mark, shut_mark, size_part, head_part, lines_part, record_of, records, all_lines, IsBatch, IsWhole}
use Rattle.kept_batches.specs.Laws.{OneByteTells, Shows}
use Rattle.kept_batches.proofs.HeadLemmas.{Same, is, is_not, cases_same, heads_collide}
use Rattle.kept_batches.proofs.FileLemmas.{peel, length-size_part, length-head_part, length-record_of, size-same, marked-same, lines_part-same, one_body, body_split, frame_split, frames_long, Tail, shut_tail, marked_tail, apart, Sight, seen, short, sight}
use Rattle.kept_batches.proofs.HexFacts.{head-same}

-- the second is the first with one byte changed, or the first
pub record Near (s t : List ℕ) : Type 0 where
  pub at : ℕ
  pub byte : ℕ
  pub is : t ≡ set s at byte

same_near : (s t : List ℕ) → s ≡ t → Near s t
same_near s t e = record { at = length s; byte = 0; is = sym e ∙ sym (set_past s (length s) 0 (omega arith)) }

near_size : (s t : List ℕ) → Near s t → length t ≡ length s
near_size s t n = ap length n.is ∙ length-set s n.at n.byte

data Split (p q s t : List ℕ) : Type 0 where
  later : p ≡ q → Near s t → Split p q s t
  sooner : Near p q → s ≡ t → Split p q s t

split_set : (p q s t : List ℕ) (at byte : ℕ) → length p ≡ length q → q ++ t ≡ set (p ++ s) at byte → Split p q s t
split_set [] [] s t at byte size e = later refl (record { at = at; byte = byte; is = e })
split_set [] (y ∷ q) s t at byte size e = absurd (omega (arith, size))
split_set (x ∷ p) [] s t at byte size e = absurd (omega (arith, size))
split_set (x ∷ p) (y ∷ q) s t zero byte size e =
    let cut = peel q p t s (omega (arith, size)) (ap (λ (l : List ℕ). drop 1 l) e) in
    let first : y ≡ byte = ap (λ (l : List ℕ). get_or l 0 0) e in
    sooner (record { at = zero; byte = byte; is = cc (first, cut.front) }) (sym cut.back)
split_set (x ∷ p) (y ∷ q) s t (suc at) byte size e = more (split_set p q s t at byte (omega (arith, size)) (ap (λ (l : List ℕ). drop 1 l) e))
  where
    first : y ≡ x
    first = ap (λ (l : List ℕ). get_or l 0 0) e

    more : Split p q s t → Split (x ∷ p) (y ∷ q) s t
    more (later f n) = later (cc (first, f)) n
    more (sooner n f) = sooner (record { at = suc n.at; byte = n.byte; is = cc (first, n.is) }) f

split : (p q s t : List ℕ) → length p ≡ length q → Near (p ++ s) (q ++ t) → Split p q s t
split p q s t size n = split_set p q s t n.at n.byte size n.is

-- behind equal fronts, or equal texts
rest_near : (p q s t : List ℕ) → length p ≡ length q → Near (p ++ s) (q ++ t) → Near s t
rest_near p q s t size n = pick (split p q s t size n)
  where
    pick : Split p q s t → Near s t
    pick (later e m) = m
    pick (sooner m e) = same_near s t e

-- two first batches are one, or show two inputs
data First (before a b : List (List ℕ)) : Type 0 where
  one : a ≡ b → First before a b
  two : Shows → First before a b

same_head : (before a b : List (List ℕ)) → IsBatch a → IsBatch b → head_part before a ≡ head_part before b → First before a b
same_head before a b good good_too e = pick (cases_same (marked a) (marked b))
  where
    pick : Same (marked a) (marked b) → First before a b
    pick (is f t) = one (marked-same a b good good_too f)
    pick (is_not n t) =
        two (record {
          xs = before ++ a;
          ys = before ++ b;
          collide = heads_collide (before ++ a) (before ++ b) (head-same (before ++ a) (before ++ b) e) (λ f. n (ap marked (append_cancel_left before a b f)));
        })

near_bodies : (before a b : List (List ℕ)) (t u : List ℕ) → IsBatch a → IsBatch b → Near (record_of before a ++ t) (record_of before b ++ u) → First before a b
near_bodies before a b t u good good_too near =
    sizes (split (size_part a) (size_part b) _ _ (length-size_part a ∙ sym (length-size_part b)) (record { at = near.at; byte = near.byte; is = sym (body_split before b u) ∙ near.is ∙ ap (λ (l : List ℕ). set l near.at near.byte) (body_split before a t) }))
  where
    same_size : size_part a ≡ size_part b → lines_part a ++ t ≡ lines_part b ++ u → First before a b
    same_size e f = one (marked-same a b good good_too (lines_part-same a b t u good good_too (size-same a b good good_too e) f).front)

    heads : size_part a ≡ size_part b → Split (head_part before a) (head_part before b) (lines_part a ++ t) (lines_part b ++ u) → First before a b
    heads e (later f n) = same_head before a b good good_too f
    heads e (sooner n f) = same_size e f

    sizes : Split (size_part a) (size_part b) (head_part before a ++ (lines_part a ++ t)) (head_part before b ++ (lines_part b ++ u)) → First before a b
    sizes (later e n) = heads e (split (head_part before a) (head_part before b) _ _ (length-head_part before a ∙ sym (length-head_part before b)) n)
    sizes (sooner n f) = same_head before a b good good_too (peel (head_part before a) (head_part before b) _ _ (length-head_part before a ∙ sym (length-head_part before b)) f).front

move : (s s' t t' : List ℕ) → s ≡ s' → t ≡ t' → Near s t → Near s' t'
move s s' t t' e f n = record { at = n.at; byte = n.byte; is = sym f ∙ n.is ∙ ap (λ (l : List ℕ). set l n.at n.byte) e }

far : (at byte : ℕ) → shut_mark ≡ set open_mark at byte → ⊥
far zero byte e = absurd (omega (arith, ap (λ (l : List ℕ). get_or l 1 0) e))
far (suc at) byte e = absurd (omega (arith, ap (λ (l : List ℕ). get_or l 0 0) e))

short_more : (before : List (List ℕ)) (tail : List ℕ) (more : List (List ℕ)) → Tail before tail more → length tail ≤ 4 → more ≡ []
short_more before tail more (shut_tail rest e none) few = none
short_more before tail more (marked_tail mark batch four not_open not_shut good e last) few =
    absurd (omega (arith, few, four, ap length e, length-append mark (record_of before batch ++ shut_mark), length-append (record_of before batch) shut_mark, length-record_of before batch))

no_frames : (before : List (List ℕ)) (xs : List (List (List ℕ))) (t : List ℕ) → length (records before xs ++ t) ≤ 4 → all_lines xs ≡ []
no_frames before [] t few = refl
no_frames before (x ∷ xs) t few = absurd (omega (arith, few, length-append (records before (x ∷ xs)) t, frames_long before x xs))

last_near : (before x : List (List ℕ)) (xs : List (List (List ℕ))) (tail : List ℕ) (more : List (List ℕ)) → IsBatch x → Tail (before ++ []) tail more
    → Near (open_mark ++ (record_of before x ++ (records (before ++ x) xs ++ shut_mark))) tail → more ≡ x ++ all_lines xs
last_near before x xs tail more good (shut_tail rest e none) near = pick (split open_mark shut_mark (record_of before x ++ (records (before ++ x) xs ++ shut_mark)) rest refl (move _ _ _ _ refl e near))
  where
    pick : Split open_mark shut_mark (record_of before x ++ (records (before ++ x) xs ++ shut_mark)) rest → more ≡ x ++ all_lines xs
    pick (later f n) = absurd (apart (sym f))
    pick (sooner n f) = absurd (far n.at n.byte n.is)
last_near before x xs tail more good (marked_tail mark batch four not_open not_shut good_too e last) near =
    pick (split open_mark mark (record_of before x ++ (records (before ++ x) xs ++ shut_mark)) (record_of (before ++ []) batch ++ shut_mark) (sym four) (move _ _ _ _ refl e near))
  where
    pick : Split open_mark mark (record_of before x ++ (records (before ++ x) xs ++ shut_mark)) (record_of (before ++ []) batch ++ shut_mark) → more ≡ x ++ all_lines xs
    pick (later f n) = absurd (not_open (sym f))
    pick (sooner n f) =
        let both = one_body before (before ++ []) x batch (records (before ++ x) xs ++ shut_mark) shut_mark good good_too f in
        let none = no_frames (before ++ x) xs shut_mark (omega (arith, ap length both.rest)) in
        last ∙ sym both.batch ∙ sym (append-nil x) ∙ ap (λ (l : List (List ℕ)). x ++ l) (sym none)

near_frames : (before : List (List ℕ)) (xs ys : List (List (List ℕ))) (tail : List ℕ) (more : List (List ℕ)) → All IsBatch xs → All IsBatch ys → Tail (before ++ all_lines ys) tail more
    → Near (records before xs ++ shut_mark) (records before ys ++ tail) → (all_lines ys ++ more ≡ all_lines xs) ⊎ Shows
near_frames before [] [] tail more are are_too kind near = inl (short_more (before ++ []) tail more kind (omega (arith, near_size _ _ near)))
near_frames before [] (y ∷ ys) tail more are are_too kind near =
    absurd (omega (arith, near_size _ _ near, length-append (records before (y ∷ ys)) tail, frames_long before y ys))
near_frames before (x ∷ xs) [] tail more are are_too kind near =
    inl (last_near before x xs tail more (All-head IsBatch x xs are) kind (move _ _ _ _ (frame_split before x xs shut_mark) refl near))
near_frames before (x ∷ xs) (y ∷ ys) tail more are are_too kind near =
    pick (near_frames (before ++ x) xs ys tail more (All-tail IsBatch x xs are) (All-tail IsBatch y ys are_too))
    (near_bodies before x y (records (before ++ x) xs ++ shut_mark) (records (before ++ y) ys ++ tail) (All-head IsBatch x xs are) (All-head IsBatch y ys are_too) behind_marks)
  where
    behind_marks : Near (record_of before x ++ (records (before ++ x) xs ++ shut_mark)) (record_of before y ++ (records (before ++ y) ys ++ tail))
    behind_marks = rest_near open_mark open_mark _ _ refl (move _ _ _ _ (frame_split before x xs shut_mark) (frame_split before y ys tail) near)

    pick : (Tail ((before ++ x) ++ all_lines ys) tail more → Near (records (before ++ x) xs ++ shut_mark) (records (before ++ x) ys ++ tail) → (all_lines ys ++ more ≡ all_lines xs) ⊎ Shows)
        → First before x y → (all_lines (y ∷ ys) ++ more ≡ all_lines (x ∷ xs)) ⊎ Shows
    pick before_it (two shown) = inr shown
    pick before_it (one e) = join (before_it
        (subst (λ (l : List (List ℕ)). Tail l tail more) (ap (λ (l : List (List ℕ)). before ++ (l ++ all_lines ys)) (sym e) ∙ sym (append_assoc before x (all_lines ys))) kind)
        (rest_near (record_of before x) (record_of before x) _ _ refl (move _ _ _ _ refl (ap (λ (l : List (List ℕ)). record_of before l ++ (records (before ++ l) ys ++ tail)) (sym e)) behind_marks)))
      where
        join : (all_lines ys ++ more ≡ all_lines xs) ⊎ Shows → (all_lines (y ∷ ys) ++ more ≡ all_lines (x ∷ xs)) ⊎ Shows
        join (inl f) = inl (append_assoc y (all_lines ys) more ∙ cc (e, f))
        join (inr shown) = inr shown

short_lines : (batches : List (List (List ℕ))) (file : List ℕ) → IsWhole batches file → length file ≤ 4 → all_lines batches ≡ []
short_lines batches file w few = no_frames [] batches shut_mark (omega (arith, few, ap length w.is))

pub one_byte_tells : OneByteTells
one_byte_tells batches file at byte lines w keeps = pick (sight (set file at byte) lines keeps)
  where
    pick : Sight (set file at byte) lines → (lines ≡ all_lines batches) ⊎ Shows
    pick (short u none) = inl (none ∙ sym (short_lines batches file w (omega (arith, u.short, length-set file at byte))))
    pick (seen s) = join (near_frames [] batches s.batches s.tail s.more w.are s.are s.kind (record { at = at; byte = byte; is = sym s.is ∙ ap (λ (l : List ℕ). set l at byte) w.is }))
      where
        join : (all_lines s.batches ++ s.more ≡ all_lines batches) ⊎ Shows → (lines ≡ all_lines batches) ⊎ Shows
        join (inl f) = inl (s.lines_are ∙ f)
        join (inr shown) = inr shown
