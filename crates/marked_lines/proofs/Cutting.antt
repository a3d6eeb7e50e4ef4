-- The cut that the function gives is a cut.
use Rattle.std.proofs.Common.{◌≡◌, ◌≤◌, ℕ, ◌+◌, List, [], ◌∷◌, ◌++◌, Bool, true, false, cond, ◌==◌, ◌&&◌, Option, Some, None, IsSome, ◌⊎◌, inl, inr, length, take, drop, zero, suc, refl, sym, ◌∙◌, ap, subst, arith}
use Rattle.std.proofs.lemmas.List.{take-append-drop}
use Rattle.std.proofs.lemmas.Bool.Decides.{nat_tests}
use Rattle.std.proofs.Math.ListN.{length-drop}
use Rattle.std.specs.List.{prefix_len, flat_map, list_all, AllByRecursion}
use Rattle.json.specs.Word.{after_number}
use Rattle.marked_lines.specs.Cut.{begins_number, is_number_byte, inside, Piece, string, number, single, IsCut, marked, IsSound, Marks}
use Rattle.marked_lines.specs.Inner.MarkedText.{text_end, first_pieces, pieces, is_end, is_sound, marked_text}
use Rattle.marked_lines.specs.Marked.{MarkingIsMarkedText}
use Rattle.marked_lines.proofs.Pieces.{token_at, one_cut}

-- IsText, from inside a string
abbrev IsTextFrom : Bool → List ℕ → List ℕ → Type 0
IsTextFrom kept bytes rest = ((text : List ℕ) × (bytes ≡ text ++ 34 ∷ []) × (inside kept text ≡ Some false)) ⊎ (IsSome (inside kept bytes) × (rest ≡ []))

one_more : (n x : ℕ) (xs : List ℕ) → take (1 + n) (x ∷ xs) ≡ x ∷ take n xs
one_more n x xs = let e : 1 + n ≡ suc n = omega arith in rw e refl

drop_more : (n x : ℕ) (xs : List ℕ) → drop (1 + n) (x ∷ xs) ≡ drop n xs
drop_more n x xs = let e : 1 + n ≡ suc n = omega arith in rw e refl

same_byte : (b : ℕ) → (b == 34) ≡ true → b ≡ 34
same_byte b e = grind (arith, nat_tests)

not_byte : (b : ℕ) → (b == 34) ≡ false → b ≡ 34 → ⊥
not_byte b e h = grind (arith, nat_tests)

text_there : (kept : Bool) (xs : List ℕ) → IsTextFrom kept (take (text_end kept xs) xs) (drop (text_end kept xs) xs)
text_there true [] = inr (refl, refl)
text_there false [] = inr (refl, refl)
text_there true (x ∷ xs) = rw (one_more, drop_more) (longer (text_there false xs))
  where
    longer : {a b : List ℕ} → IsTextFrom false a b → IsTextFrom true (x ∷ a) b
    longer (inl h) = inl (x ∷ h.0, ap (λ l. x ∷ l) h.1, h.2)
    longer (inr h) = inr h
text_there false (x ∷ xs) = by_quote (x == 34) refl (text_there (x == 92) xs)
  where
    longer : {a b : List ℕ} → (x == 34) ≡ false → IsTextFrom (x == 92) a b → IsTextFrom false (x ∷ a) b
    longer {a} {b} e (inl h) = inl (x ∷ h.0, ap (λ l. x ∷ l) h.1, ap (λ t. cond t None (inside (x == 92) h.0)) e ∙ h.2)
    longer {a} {b} e (inr h) = inr (subst (λ t. IsSome (cond t None (inside (x == 92) a))) (sym e) h.0, h.1)

    by_quote : (b : Bool) → (x == 34) ≡ b → IsTextFrom (x == 92) (take (text_end (x == 92) xs) xs) (drop (text_end (x == 92) xs) xs)
        → IsTextFrom false (take (cond b 1 (1 + text_end (x == 92) xs)) (x ∷ xs)) (drop (cond b 1 (1 + text_end (x == 92) xs)) (x ∷ xs))
    by_quote true e h = inl ([], ap (λ y. y ∷ []) (same_byte x e), refl)
    by_quote false e h = rw (one_more, drop_more) (longer e h)

-- the pieces are a cut
pub cut_is : (most : ℕ) (bytes : List ℕ) → length bytes ≤ most → IsCut bytes (first_pieces most bytes)
unfolding first_pieces
cut_is zero [] h = refl
cut_is zero (x ∷ xs) h = absurd (omega arith)
cut_is (suc most) [] h = refl
cut_is (suc most) (x ∷ xs) h = by_first (x == 34) (begins_number x) refl refl (λ l e. cut_is most l e)
  where
    n : ℕ
    n = 1 + prefix_len is_number_byte xs

    by_first : (q b : Bool) → (x == 34) ≡ q → begins_number x ≡ b → ((l : List ℕ) → length l ≤ most → IsCut l (first_pieces most l))
        → IsCut (x ∷ xs) (cond q (string (take (text_end false xs) xs) ∷ first_pieces most (drop (text_end false xs) xs))
        (cond b (number (take n (x ∷ xs)) ∷ first_pieces most (drop n (x ∷ xs))) (single x ∷ first_pieces most xs)))
    by_first true b eq eb ih = (
      drop (text_end false xs) xs,
      ap (λ y. y ∷ xs) (same_byte x eq) ∙ ap (λ l. 34 ∷ l) (sym (take-append-drop (text_end false xs) xs)),
      text_there false xs,
      ih (drop (text_end false xs) xs) (omega (arith, length-drop (text_end false xs) xs)),
    )
    by_first false true eq eb ih = (
      drop n (x ∷ xs),
      sym (take-append-drop n (x ∷ xs)),
      (token_at (x ∷ xs) xs x (prefix_len is_number_byte xs) refl eb refl).piece,
      ih (drop n (x ∷ xs)) (omega (arith, length-drop n (x ∷ xs))),
    )
    by_first false false eq eb ih = (xs, refl, (λ e. not_byte x eq e, eb), ih xs (omega arith))

-- ---- soundness as a test

end_is : (r : Option (List ℕ)) → is_end r ≡ true → r ≡ Some []
end_is None h = cc
end_is (Some []) h = refl
end_is (Some (x ∷ xs)) h = cc

sound_is : (p : Piece) → is_sound p ≡ true → IsSound p
sound_is (string bytes) h = tt
sound_is (number token) h = end_is (after_number token) h
sound_is (single byte) h = tt

sound_test : (p : Piece) → IsSound p → is_sound p ≡ true
sound_test (string bytes) h = refl
sound_test (number token) h = ap is_end h
sound_test (single byte) h = refl

pub all_sound : (ps : List Piece) → AllByRecursion IsSound ps → list_all is_sound ps ≡ true
all_sound [] h = refl
all_sound (p ∷ ps) h = rw (sound_test p h.0) (all_sound ps h.1)

both_true : (a b : Bool) → (a && b) ≡ true → (a ≡ true) × (b ≡ true)
both_true true b h = (refl, h)
both_true false b h = cc

pub sound_all : (ps : List Piece) → list_all is_sound ps ≡ true → AllByRecursion IsSound ps
sound_all [] h = tt
sound_all (p ∷ ps) h = let both = both_true (is_sound p) (list_all is_sound ps) h in (sound_is p both.0, sound_all ps both.1)

pub marking_law : MarkingIsMarkedText
unfolding marked_text
marking_law bytes out = (
  λ m. let same = one_cut bytes m.0 (pieces bytes) m.1 (cut_is (length bytes) bytes (omega arith)) in
      let sound : list_all is_sound (pieces bytes) ≡ true = all_sound (pieces bytes) (subst (AllByRecursion IsSound) same m.2) in
      ap (λ b. cond b (Some (flat_map marked (pieces bytes))) None) sound ∙ ap (λ l. Some (flat_map marked l)) (sym same) ∙ ap Some (sym m.3),
  λ e. by_test (list_all is_sound (pieces bytes)) refl e,
)
  where
    by_test : (b : Bool) → list_all is_sound (pieces bytes) ≡ b → cond b (Some (flat_map marked (pieces bytes))) None ≡ Some out → Marks bytes out
    by_test true e h = (pieces bytes, cut_is (length bytes) bytes (omega arith), sound_all (pieces bytes) e, cc)
    by_test false e h = cc

-- where nothing is the marked text, the function gives nothing
pub unmarkable : (bytes : List ℕ) → ((out : List ℕ) → Marks bytes out → ⊥) → marked_text bytes ≡ None
unmarkable bytes none = by_text (marked_text bytes) refl
  where
    by_text : (o : Option (List ℕ)) → marked_text bytes ≡ o → marked_text bytes ≡ None
    by_text None e = e
    by_text (Some out) e = absurd (none out ((marking_law bytes out).1 e))
