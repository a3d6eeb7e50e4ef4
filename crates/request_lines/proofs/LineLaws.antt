-- Lines joined by newlines are the bytes again, and no others are.
use Rattle.std.proofs.Common.{◌≡◌, ◌≢◌, ◌==◌, ℕ, Bool, true, false, cond, List, [], ◌∷◌, ◌++◌, refl, ap, sym, ◌∙◌, append_assoc, arith, All}
use Rattle.std.specs.List.{flat_map}
use Rattle.std.proofs.lemmas.List.{append-nil}
use Rattle.std.proofs.lemmas.List.Elements.{All-nil, All-cons, All-head, All-tail, All-append}
use Rattle.std.proofs.lemmas.Bool.Decides.{nat_tests}
use Rattle.request_lines.specs.Lines.{lines_of, whole_lines, last_line, HasNoNewline, with_newline, AreLines}
use Rattle.request_lines.specs.Inner.Progress.{lines_from, whole_from, rest_from}
use Rattle.request_lines.proofs.LinesLemmas.{whole_from_start, whole_from-append, rest_from-append, lines_from-append, lines_end, not_ten}

none_more : (p : List ℕ) (x : ℕ) → HasNoNewline p → (x ≢ 10) → HasNoNewline (p ++ x ∷ [])
none_more p x h k = All-append (λ b. b ≢ 10) p (x ∷ []) h (All-cons (λ b. b ≢ 10) x [] k (All-nil (λ b. b ≢ 10)))

at_newline : (p bs : List ℕ) (whole : List (List ℕ)) (last : List ℕ) (x : ℕ) → x ≡ 10 → HasNoNewline p → AreLines bs whole last → AreLines (p ++ x ∷ bs) (p ∷ whole) last
at_newline p bs whole last x e h r = record {
  joined = rw e (ap (λ (t : List ℕ). p ++ 10 ∷ t) r.joined ∙ sym (append_assoc p (10 ∷ []) (flat_map with_newline whole ++ last)) ∙ sym (append_assoc (with_newline p) (flat_map with_newline whole) last));
  whole_have_none = All-cons HasNoNewline p whole h r.whole_have_none;
  last_has_none = r.last_has_none;
}

is_ten : (x : ℕ) → (x == 10) ≡ true → x ≡ 10
is_ten x h = grind (arith, nat_tests)

not_newline : (x : ℕ) → (x == 10) ≡ false → x ≢ 10
not_newline x h = grind (arith, nat_tests)

-- a part and what comes after it are their lines
pub are_from : (p bs : List ℕ) → HasNoNewline p → AreLines (p ++ bs) (whole_from p bs) (rest_from p bs)
are_from p [] h = record { joined = append-nil p; whole_have_none = All-nil HasNoNewline; last_has_none = h }
are_from p (x ∷ bs) h = step p bs x h (λ k. are_from [] bs k) (λ k. are_from (p ++ x ∷ []) bs k) (x == 10) refl
  where
    step : (p bs : List ℕ) (x : ℕ) → HasNoNewline p → (HasNoNewline [] → AreLines bs (whole_from [] bs) (rest_from [] bs)) →
        (HasNoNewline (p ++ x ∷ []) → AreLines ((p ++ x ∷ []) ++ bs) (whole_from (p ++ x ∷ []) bs) (rest_from (p ++ x ∷ []) bs)) →
        (v : Bool) → (x == 10) ≡ v → AreLines (p ++ x ∷ bs) (cond v (p ∷ whole_from [] bs) (whole_from (p ++ x ∷ []) bs)) (cond v (rest_from [] bs) (rest_from (p ++ x ∷ []) bs))
    step p bs x h newline other true e = at_newline p bs (whole_from [] bs) (rest_from [] bs) x (is_ten x e) h (newline (All-nil (λ b. b ≢ 10)))
    step p bs x h newline other false e = rw (append_assoc p (x ∷ []) bs) at (other (none_more p x h (not_newline x e)))

pub are_lines : (bytes : List ℕ) → AreLines bytes (whole_lines bytes) (rest_from [] bytes)
are_lines bytes = rw (whole_from_start bytes) at (are_from [] bytes (All-nil (λ b. b ≢ 10)))

-- bytes with no newline are of one line
pub whole-none : (p line : List ℕ) → HasNoNewline line → whole_from p line ≡ []
whole-none p [] h = refl
whole-none p (x ∷ line) h = rw (not_ten x (All-head (λ b. b ≢ 10) x line h)) (whole-none (p ++ x ∷ []) line (All-tail (λ b. b ≢ 10) x line h))

pub rest-none : (p line : List ℕ) → HasNoNewline line → rest_from p line ≡ p ++ line
rest-none p [] h = sym (append-nil p)
rest-none p (x ∷ line) h = rw (not_ten x (All-head (λ b. b ≢ 10) x line h)) (rest-none (p ++ x ∷ []) line (All-tail (λ b. b ≢ 10) x line h) ∙ append_assoc p (x ∷ []) line)

pub lines-none : (p line others : List ℕ) → HasNoNewline line → lines_from p (line ++ others) ≡ lines_from (p ++ line) others
lines-none p line others h =
    lines_from-append p line others
    ∙ ap (λ (ls : List (List ℕ)). ls ++ lines_from (rest_from p line) others) (whole-none p line h)
    ∙ ap (λ (q : List ℕ). lines_from q others) (rest-none p line h)

-- a line whose end comes behind a part of it
pub whole-line : (p line others : List ℕ) → HasNoNewline line → whole_from p (with_newline line ++ others) ≡ (p ++ line) ∷ whole_from [] others
whole-line p line others h =
    ap (whole_from p) (append_assoc line (10 ∷ []) others) ∙ whole_from-append p line (10 ∷ others)
    ∙ ap (λ (ls : List (List ℕ)). ls ++ whole_from (rest_from p line) (10 ∷ others)) (whole-none p line h)
    ∙ ap (λ (q : List ℕ). whole_from q (10 ∷ others)) (rest-none p line h)

pub rest-line : (p line others : List ℕ) → HasNoNewline line → rest_from p (with_newline line ++ others) ≡ rest_from [] others
rest-line p line others h =
    ap (rest_from p) (append_assoc line (10 ∷ []) others) ∙ rest_from-append p line (10 ∷ others)

pub lines-line : (p line others : List ℕ) → HasNoNewline line → lines_from p (with_newline line ++ others) ≡ (p ++ line) ∷ lines_from [] others
lines-line p line others h =
    ap (lines_from p) (append_assoc line (10 ∷ []) others) ∙ lines-none p line (10 ∷ others) h

whole_of : (whole : List (List ℕ)) (last : List ℕ) → All HasNoNewline whole → HasNoNewline last → whole_from [] (flat_map with_newline whole ++ last) ≡ whole
whole_of [] last h k = whole-none [] last k
whole_of (line ∷ whole) last h k =
    ap (whole_from []) (append_assoc (with_newline line) (flat_map with_newline whole) last)
    ∙ whole-line [] line (flat_map with_newline whole ++ last) (All-head HasNoNewline line whole h)
    ∙ ap (λ (ls : List (List ℕ)). line ∷ ls) (whole_of whole last (All-tail HasNoNewline line whole h) k)

rest_of : (whole : List (List ℕ)) (last : List ℕ) → All HasNoNewline whole → HasNoNewline last → rest_from [] (flat_map with_newline whole ++ last) ≡ last
rest_of [] last h k = rest-none [] last k
rest_of (line ∷ whole) last h k =
    ap (rest_from []) (append_assoc (with_newline line) (flat_map with_newline whole) last)
    ∙ rest-line [] line (flat_map with_newline whole ++ last) (All-head HasNoNewline line whole h)
    ∙ rest_of whole last (All-tail HasNoNewline line whole h) k

pub only_whole : (bytes : List ℕ) (whole : List (List ℕ)) (last : List ℕ) → AreLines bytes whole last → whole ≡ whole_lines bytes
only_whole bytes whole last r = sym (whole_of whole last r.whole_have_none r.last_has_none) ∙ ap (whole_from []) (sym r.joined) ∙ whole_from_start bytes

pub only_last : (bytes : List ℕ) (whole : List (List ℕ)) (last : List ℕ) → AreLines bytes whole last → last ≡ rest_from [] bytes
only_last bytes whole last r = sym (rest_of whole last r.whole_have_none r.last_has_none) ∙ ap (rest_from []) (sym r.joined)

pub lines_are : (bytes : List ℕ) (whole : List (List ℕ)) (last : List ℕ) → AreLines bytes whole last → lines_of bytes ≡ whole ++ last_line last
lines_are bytes whole last r =
    lines_end bytes last (only_last bytes whole last r) ∙ ap (λ (ls : List (List ℕ)). ls ++ last_line last) (whole_from_start bytes ∙ sym (only_whole bytes whole last r))
