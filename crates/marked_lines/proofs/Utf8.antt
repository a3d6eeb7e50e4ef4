-- The mark keeps UTF-8: each of its bytes stands beside an ASCII byte.
use Rattle.std.proofs.Common.{◌≡◌, ◌<◌, inl, inr, ℕ, List, [], ◌∷◌, ◌++◌, length, get_or, true, refl, sym, ap, subst, ◌∙◌, arith, append_assoc, length-append, append-nil, IsUtf8, IsAscii, IsCharBoundary}
use Rattle.std.proofs.lemmas.Bool.{false≢true}
use Rattle.std.proofs.lemmas.Bool.Decides.{nat_tests}
use Rattle.std.proofs.lemmas.Str.{IsUtf8-append, IsUtf8-take, IsUtf8-drop, IsUtf8-nil, IsUtf8-from_ascii, IsCharBoundary-after_ascii}
use Rattle.std.proofs.lemmas.Str.Ascii.{IsAscii-nil, IsAscii-cons}
use Rattle.std.proofs.Math.Seq.{take-append_seam, drop-append_seam}
use Rattle.marked_lines.specs.Cut.{is_number_byte, Piece, string, number, single, IsText, IsPiece, IsCut}
use Rattle.marked_lines.proofs.Tokens.{AllNum, greedy}
use Rattle.marked_lines.proofs.Lexing.{marked_of}

ascii_one : (x : ℕ) → x < 128 → IsAscii (x ∷ [])
ascii_one x h = IsAscii-cons x [] h IsAscii-nil

at_seam : (a r : List ℕ) (x : ℕ) → get_or (a ++ x ∷ r) (length a) 0 ≡ x
at_seam [] r x = refl
at_seam (y ∷ a) r x = at_seam a r x

boundary : (a r : List ℕ) (x : ℕ) → x < 128 → IsCharBoundary (a ++ x ∷ r) (length a)
boundary a r x h = (omega (arith, length-append a (x ∷ r)), λ i j. absurd (omega (arith, at_seam a r x)))

past_one : (x : ℕ) (r : List ℕ) → x < 128 → IsUtf8 (x ∷ r) → IsUtf8 r
past_one x r h u = IsUtf8-drop (x ∷ r) 1 u (IsCharBoundary-after_ascii (x ∷ r) 0 u (omega arith) h)

pub apart_at : (a r : List ℕ) (x : ℕ) → x < 128 → IsUtf8 (a ++ x ∷ r) → IsUtf8 a × IsUtf8 r
apart_at a r x h u = (
  subst IsUtf8 (take-append_seam a (x ∷ r)) (IsUtf8-take (a ++ x ∷ r) (length a) u (boundary a r x h)),
  past_one x r h (subst IsUtf8 (drop-append_seam a (x ∷ r)) (IsUtf8-drop (a ++ x ∷ r) (length a) u (boundary a r x h))),
)

pub joined_at : (a r : List ℕ) (x : ℕ) → x < 128 → IsUtf8 a → IsUtf8 r → IsUtf8 (a ++ x ∷ r)
joined_at a r x h u v = IsUtf8-append a (x ∷ r) u (IsUtf8-append (x ∷ []) r (IsUtf8-from_ascii (x ∷ []) (ascii_one x h)) v)

number_byte_ascii : (x : ℕ) → is_number_byte x ≡ true → x < 128
number_byte_ascii x h = grind (arith, nat_tests)

pub token_ascii : (t : List ℕ) → AllNum t → IsAscii t
token_ascii [] h = IsAscii-nil
token_ascii (x ∷ t) h = IsAscii-cons x t (number_byte_ascii x h.0) (token_ascii t h.1)

pub past_token : (t r : List ℕ) → AllNum t → IsUtf8 (t ++ r) → IsUtf8 r
past_token [] r h u = u
past_token (x ∷ t) r h u = past_token t r h.1 (past_one x (t ++ r) (number_byte_ascii x h.0) u)

string_marks : (f b rest : List ℕ) (ps : List Piece) → IsText b rest → (IsUtf8 rest → IsUtf8 (marked_of ps)) → IsUtf8 (f ++ 34 ∷ (b ++ rest)) → IsUtf8 (f ++ 34 ∷ 115 ∷ (b ++ marked_of ps))
string_marks f b rest ps (inl h) ih u =
    let whole : (r : List ℕ) → b ++ r ≡ h.0 ++ 34 ∷ r = λ r. ap (λ l. l ++ r) h.1 ∙ append_assoc h.0 (34 ∷ []) r in
    let a = apart_at f (b ++ rest) 34 (omega arith) u in
    let c = apart_at h.0 rest 34 (omega arith) (subst IsUtf8 (whole rest) a.1) in
    joined_at f (115 ∷ (b ++ marked_of ps)) 34 (omega arith) a.0
    (joined_at [] (b ++ marked_of ps) 115 (omega arith) IsUtf8-nil (subst IsUtf8 (sym (whole (marked_of ps))) (joined_at h.0 (marked_of ps) 34 (omega arith) c.0 (ih c.1))))
string_marks f b rest ps (inr h) ih u =
    let a = apart_at f (b ++ rest) 34 (omega arith) u in
    joined_at f (115 ∷ (b ++ marked_of ps)) 34 (omega arith) a.0
    (joined_at [] (b ++ marked_of ps) 115 (omega arith) IsUtf8-nil (IsUtf8-append b (marked_of ps) (subst IsUtf8 (ap (λ r. b ++ r) h.1 ∙ append-nil b) a.1) (ih (subst IsUtf8 (sym h.1) IsUtf8-nil))))

number_marks : (f t rest : List ℕ) (ps : List Piece) → IsPiece (number t) rest → (IsUtf8 rest → IsUtf8 (marked_of ps)) → IsUtf8 (f ++ (t ++ rest)) → IsUtf8 (f ++ 34 ∷ 110 ∷ ((t ++ 34 ∷ []) ++ marked_of ps))
number_marks f [] rest ps h ih u = absurd (false≢true h.0)
number_marks f (x ∷ t) rest ps h ih u =
    let nums = (greedy (x ∷ t) rest h.1).0 in
    let a = apart_at f (t ++ rest) x (number_byte_ascii x nums.0) u in
    let r = past_token t rest nums.1 a.1 in
    joined_at f _ 34 (omega arith) a.0
    (joined_at [] _ 110 (omega arith) IsUtf8-nil (subst IsUtf8 (sym (append_assoc (x ∷ t) (34 ∷ []) (marked_of ps))) (joined_at (x ∷ t) (marked_of ps) 34 (omega arith) (IsUtf8-from_ascii (x ∷ t) (token_ascii (x ∷ t) nums)) (ih r))))

-- the marked text is UTF-8 if the line is, behind any bytes f
pub marks_utf8 : (f bytes : List ℕ) (ps : List Piece) → IsCut bytes ps → IsUtf8 (f ++ bytes) → IsUtf8 (f ++ marked_of ps)
marks_utf8 f bytes [] c u = subst (λ l. IsUtf8 (f ++ l)) c u
marks_utf8 f bytes (string b ∷ ps) c u = string_marks f b c.0 ps c.2 (λ v. marks_utf8 [] c.0 ps c.3 v) (subst (λ l. IsUtf8 (f ++ l)) c.1 u)
marks_utf8 f bytes (number t ∷ ps) c u = number_marks f t c.0 ps c.2 (λ v. marks_utf8 [] c.0 ps c.3 v) (subst (λ l. IsUtf8 (f ++ l)) c.1 u)
marks_utf8 f bytes (single x ∷ ps) c u =
    subst IsUtf8 (append_assoc f (x ∷ []) (marked_of ps)) (marks_utf8 (f ++ x ∷ []) c.0 ps c.3 (subst IsUtf8 (sym (append_assoc f (x ∷ []) c.0)) (subst (λ l. IsUtf8 (f ++ l)) c.1 u)))
