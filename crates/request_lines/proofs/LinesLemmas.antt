-- The lines of a stream that comes in parts.
use Rattle.std.proofs.Common.{◌≡◌, ◌==◌, ℕ, ◌+◌, ◌-◌, ◌<◌, ◌≤◌, true, false, cond, List, [], ◌∷◌, ◌++◌, length, take, drop, refl, ap, sym, ◌∙◌, append_assoc, arith, length-append}
use Rattle.std.proofs.lemmas.List.{append-nil}
use Rattle.std.proofs.lemmas.Grind.{common_steps}
use Rattle.std.proofs.lemmas.Bool.Decides.{nat_tests}
use Rattle.std.proofs.Math.Seq.{take-add}
use Rattle.request_lines.specs.Lines.{onto_first, onto_line, lines_of, whole_lines, last_line}
use Rattle.request_lines.specs.Inner.Progress.{lines_from, whole_from, rest_from}

pub range_all : (i : ℕ) (xs : List ℕ) → take (length xs - i) (drop i xs) ≡ drop i xs
range_all i xs = grind (arith, common_steps)

-- the first i + n: the first i, and n of the rest
pub take_range : (i n : ℕ) (xs : List ℕ) → take (i + n) xs ≡ take i xs ++ take n (take (length xs - i) (drop i xs))
take_range i n xs = take-add i n xs ∙ ap (λ ys. take i xs ++ take n ys) (sym (range_all i xs))

pub whole_from-append : (p xs ys : List ℕ) → whole_from p (xs ++ ys) ≡ whole_from p xs ++ whole_from (rest_from p xs) ys
whole_from-append p [] ys = refl
whole_from-append p (x ∷ xs) ys =
    elim (x == 10) as (λ v. cond v (p ∷ whole_from [] (xs ++ ys)) (whole_from (p ++ x ∷ []) (xs ++ ys))
    ≡ cond v (p ∷ whole_from [] xs) (whole_from (p ++ x ∷ []) xs) ++ whole_from (cond v (rest_from [] xs) (rest_from (p ++ x ∷ []) xs)) ys)
    [ true ↦ ap (λ ls. p ∷ ls) (whole_from-append [] xs ys) | false ↦ whole_from-append (p ++ x ∷ []) xs ys ]

pub rest_from-append : (p xs ys : List ℕ) → rest_from p (xs ++ ys) ≡ rest_from (rest_from p xs) ys
rest_from-append p [] ys = refl
rest_from-append p (x ∷ xs) ys =
    elim (x == 10) as (λ v. cond v (rest_from [] (xs ++ ys)) (rest_from (p ++ x ∷ []) (xs ++ ys))
    ≡ rest_from (cond v (rest_from [] xs) (rest_from (p ++ x ∷ []) xs)) ys)
    [ true ↦ rest_from-append [] xs ys | false ↦ rest_from-append (p ++ x ∷ []) xs ys ]

pub lines_from-append : (p xs ys : List ℕ) → lines_from p (xs ++ ys) ≡ whole_from p xs ++ lines_from (rest_from p xs) ys
lines_from-append p [] ys = refl
lines_from-append p (x ∷ xs) ys =
    elim (x == 10) as (λ v. cond v (p ∷ lines_from [] (xs ++ ys)) (lines_from (p ++ x ∷ []) (xs ++ ys))
    ≡ cond v (p ∷ whole_from [] xs) (whole_from (p ++ x ∷ []) xs) ++ lines_from (cond v (rest_from [] xs) (rest_from (p ++ x ∷ []) xs)) ys)
    [ true ↦ ap (λ ls. p ∷ ls) (lines_from-append [] xs ys) | false ↦ lines_from-append (p ++ x ∷ []) xs ys ]

-- the part goes onto the first line
abbrev pub glue : List ℕ → List (List ℕ) → List (List ℕ)
glue p [] = last_line p
glue p (line ∷ lines) = (p ++ line) ∷ lines

abbrev pub glue_whole : List ℕ → List (List ℕ) → List (List ℕ)
glue_whole p [] = []
glue_whole p (line ∷ lines) = (p ++ line) ∷ lines

last_line-snoc : (p : List ℕ) (x : ℕ) → last_line (p ++ x ∷ []) ≡ (p ++ x ∷ []) ∷ []
last_line-snoc [] x = refl
last_line-snoc (y ∷ p) x = refl

glue-nil : (ls : List (List ℕ)) → glue [] ls ≡ ls
glue-nil [] = refl
glue-nil (l ∷ ls) = refl

glue_whole-nil : (ls : List (List ℕ)) → glue_whole [] ls ≡ ls
glue_whole-nil [] = refl
glue_whole-nil (l ∷ ls) = refl

glue-onto : (p : List ℕ) (x : ℕ) (ls : List (List ℕ)) → glue (p ++ x ∷ []) ls ≡ glue p (onto_line x ls)
glue-onto p x [] = last_line-snoc p x
glue-onto p x (l ∷ ls) = ap (λ (line : List ℕ). line ∷ ls) (append_assoc p (x ∷ []) l)

glue_whole-onto : (p : List ℕ) (x : ℕ) (ls : List (List ℕ)) → glue_whole (p ++ x ∷ []) ls ≡ glue_whole p (onto_first x ls)
glue_whole-onto p x [] = refl
glue_whole-onto p x (l ∷ ls) = ap (λ (line : List ℕ). line ∷ ls) (append_assoc p (x ∷ []) l)

pub lines_from-glue : (p bs : List ℕ) → lines_from p bs ≡ glue p (lines_of bs)
lines_from-glue p [] = refl
lines_from-glue p (x ∷ bs) =
    elim (x == 10) as (λ v. cond v (p ∷ lines_from [] bs) (lines_from (p ++ x ∷ []) bs) ≡ glue p (cond v ([] ∷ lines_of bs) (onto_line x (lines_of bs)))) [
      | true ↦ ap (λ (ls : List (List ℕ)). p ∷ ls) (lines_from-glue [] bs ∙ glue-nil (lines_of bs)) ∙ ap (λ (line : List ℕ). line ∷ lines_of bs) (sym (append-nil p))
      | false ↦ lines_from-glue (p ++ x ∷ []) bs ∙ glue-onto p x (lines_of bs)
    ]

pub whole_from-glue : (p bs : List ℕ) → whole_from p bs ≡ glue_whole p (whole_lines bs)
whole_from-glue p [] = refl
whole_from-glue p (x ∷ bs) =
    elim (x == 10) as (λ v. cond v (p ∷ whole_from [] bs) (whole_from (p ++ x ∷ []) bs) ≡ glue_whole p (cond v ([] ∷ whole_lines bs) (onto_first x (whole_lines bs)))) [
      | true ↦ ap (λ (ls : List (List ℕ)). p ∷ ls) (whole_from-glue [] bs ∙ glue_whole-nil (whole_lines bs)) ∙ ap (λ (line : List ℕ). line ∷ whole_lines bs) (sym (append-nil p))
      | false ↦ whole_from-glue (p ++ x ∷ []) bs ∙ glue_whole-onto p x (whole_lines bs)
    ]

pub lines_from_start : (bs : List ℕ) → lines_from [] bs ≡ lines_of bs
lines_from_start bs = lines_from-glue [] bs ∙ glue-nil (lines_of bs)

pub whole_from_start : (bs : List ℕ) → whole_from [] bs ≡ whole_lines bs
whole_from_start bs = whole_from-glue [] bs ∙ glue_whole-nil (whole_lines bs)

-- the first line is at least as long as what has come of it
pub record BeginsWith (p : List ℕ) (lines : List (List ℕ)) : Type 0 where
  pub line : List ℕ
  pub others : List (List ℕ)
  pub split : lines ≡ line ∷ others
  pub at_least : length p ≤ length line

pub first_line_of : (p bs : List ℕ) → 0 < length p → BeginsWith p (lines_from p bs)
first_line_of [] [] h = absurd (omega arith)
first_line_of (x ∷ p) [] h = record { line = x ∷ p; others = []; split = refl; at_least = omega arith }
first_line_of p (x ∷ bs) h =
    elim (x == 10) as (λ v. BeginsWith p (cond v (p ∷ lines_from [] bs) (lines_from (p ++ x ∷ []) bs))) [
      | true ↦ record { line = p; others = lines_from [] bs; split = refl; at_least = omega arith }
      | false ↦ let r = first_line_of (p ++ x ∷ []) bs (simp length-append (omega arith)) in
          record { line = r.line; others = r.others; split = r.split; at_least = omega (arith, r.at_least, length-append p (x ∷ [])) }
    ]

pub not_ten : (x : ℕ) → (x ≡ 10 → ⊥) → (x == 10) ≡ false
not_ten x h = grind (arith, nat_tests)

-- the lines are the whole ones, and what is left if it isn't empty
pub lines_end : (bytes part : List ℕ) → part ≡ rest_from [] bytes → lines_of bytes ≡ whole_from [] bytes ++ last_line part
lines_end bytes part f = rw f (sym (lines_from_start bytes) ∙ ap (lines_from []) (sym (append-nil bytes)) ∙ lines_from-append [] bytes [])
