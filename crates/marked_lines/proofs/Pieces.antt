-- A line has one cut, and what is left to mark behind a piece.
use Rattle.std.proofs.Common.{◌≡◌, ◌<◌, ℕ, ◌+◌, List, [], ◌∷◌, ◌++◌, Bool, true, false, cond, ◌==◌, Some, None, IsSome, inl, inr, length, take, drop, slice_index, suc, refl, sym, ◌∙◌, ap, subst, arith, append_assoc, length-append}
use Rattle.std.proofs.lemmas.List.{append-nil, take-append-drop}
use Rattle.std.proofs.lemmas.List.Folds.{length-prefix_len}
use Rattle.std.proofs.lemmas.Bool.Decides.{nat_tests}
use Rattle.std.specs.Str.{IsAscii}
use Rattle.std.proofs.lemmas.Str.Ascii.{IsAscii-nil, IsAscii-cons}
use Rattle.std.proofs.Math.Seq.{take-append_seam, drop-append_seam}
use Rattle.std.specs.List.{prefix_len, flat_map, AllByRecursion}
use Rattle.marked_lines.specs.Inner.MarkedText.{text_end}
use Rattle.marked_lines.specs.Cut.{begins_number, is_number_byte, inside, Piece, string, number, single, IsText, IsPiece, spelling, IsCut, marked, IsSound, Marks}

pub text_end-closed : (kept : Bool) (text rest : List ℕ) → inside kept text ≡ Some false → text_end kept (text ++ 34 ∷ rest) ≡ length text + 1
text_end-closed true [] rest h = cc
text_end-closed false [] rest h = refl
text_end-closed true (x ∷ text) rest h = omega (arith, text_end-closed false text rest h)
text_end-closed false (x ∷ text) rest h = closed_step (x == 34) (x == 92) text rest h (λ g. text_end-closed (x == 92) text rest g)
  where
    closed_step : (quote kept : Bool) (text rest : List ℕ) → cond quote None (inside kept text) ≡ Some false → (inside kept text ≡ Some false → text_end kept (text ++ 34 ∷ rest) ≡ length text + 1) → cond quote 1 (1 + text_end kept (text ++ 34 ∷ rest)) ≡ length (34 ∷ text) + 1
    closed_step true kept text rest h k = cc
    closed_step false kept text rest h k = omega (arith, k h)

pub text_end-open : (kept : Bool) (text : List ℕ) → IsSome (inside kept text) → text_end kept text ≡ length text
text_end-open kept [] h = refl
text_end-open true (x ∷ text) h = omega (arith, text_end-open false text h)
text_end-open false (x ∷ text) h = open_step (x == 34) (x == 92) text h (λ g. text_end-open (x == 92) text g)
  where
    open_step : (quote kept : Bool) (text : List ℕ) → IsSome (cond quote None (inside kept text)) → (IsSome (inside kept text) → text_end kept text ≡ length text) → cond quote 1 (1 + text_end kept text) ≡ length (34 ∷ text)
    open_step true kept text h k = cc
    open_step false kept text h k = omega (arith, k h)

-- ---- the first piece is the only one

-- two fronts of one list, as long as each other
pub same_front : (a b r s : List ℕ) → a ++ r ≡ b ++ s → length a ≡ length b → (a ≡ b) × (r ≡ s)
same_front a b r s e n = (
  sym (take-append_seam a r) ∙ ap (take (length a)) e ∙ ap (λ k. take k (b ++ s)) n ∙ take-append_seam b s,
  sym (drop-append_seam a r) ∙ ap (drop (length a)) e ∙ ap (λ k. drop k (b ++ s)) n ∙ drop-append_seam b s,
)

text_end-is : (bytes rest : List ℕ) → IsText bytes rest → text_end false (bytes ++ rest) ≡ length bytes
text_end-is bytes rest (inl h) =
    ap (λ b. text_end false (b ++ rest)) h.1 ∙ ap (text_end false) (append_assoc h.0 (34 ∷ []) rest) ∙ text_end-closed false h.0 rest h.2
    ∙ sym (ap length h.1 ∙ length-append h.0 (34 ∷ []))
text_end-is bytes rest (inr h) =
    ap (λ r. text_end false (bytes ++ r)) h.1 ∙ ap (text_end false) (append-nil bytes) ∙ text_end-open false bytes h.0

not_quote_number : (x : ℕ) → x ≡ 34 → begins_number x ≡ true → ⊥
not_quote_number x e h = let f : begins_number 34 ≡ true = ap begins_number (sym e) ∙ h in cc

pub same_first : (p q : Piece) (r s : List ℕ) → IsPiece p r → IsPiece q s → spelling p ++ r ≡ spelling q ++ s → (p ≡ q) × (r ≡ s)
same_first (string a) (string b) r s hp hq e =
    let e' : a ++ r ≡ b ++ s = cc in
    let both = same_front a b r s e' (sym (text_end-is a r hp) ∙ ap (text_end false) e' ∙ text_end-is b s hq) in
    (ap string both.0, both.1)
same_first (string a) (number []) r s hp hq e = cc
same_first (string a) (number (x ∷ t)) r s hp hq e = absurd (not_quote_number x (cc) hq.0)
same_first (string a) (single x) r s hp hq e = absurd (hq.0 (cc))
same_first (number []) q r s hp hq e = cc
same_first (number (x ∷ t)) (string b) r s hp hq e = absurd (not_quote_number x (cc) hp.0)
same_first (number (x ∷ t)) (number b) r s hp hq e =
    let both = same_front (x ∷ t) b r s e (sym hp.1 ∙ ap (prefix_len is_number_byte) e ∙ hq.1) in
    (ap number both.0, both.1)
same_first (number (x ∷ t)) (single y) r s hp hq e =
    let f : begins_number y ≡ true = cc in cc
same_first (single x) (string b) r s hp hq e = absurd (hp.0 (cc))
same_first (single x) (number []) r s hp hq e = cc
same_first (single x) (number (y ∷ t)) r s hp hq e =
    let f : begins_number x ≡ true = cc in cc
same_first (single x) (single y) r s hp hq e = (cc, cc)

not_empty : (p : Piece) (r : List ℕ) → IsPiece p r → spelling p ++ r ≡ [] → ⊥
not_empty (string a) r h e = cc
not_empty (number []) r h e = cc
not_empty (number (x ∷ t)) r h e = cc
not_empty (single x) r h e = cc

-- ---- what is left to mark

-- out is marked, and rest is left
pub record Ahead (bytes out rest : List ℕ) : Type 0 where
  pub forward : (more : List ℕ) → Marks rest more → Marks bytes (out ++ more)
  pub backward : (all : List ℕ) → Marks bytes all → (more : List ℕ) × Marks rest more

pub ahead-start : (bytes : List ℕ) → Ahead bytes [] bytes
ahead-start bytes = record { forward = λ more m. m; backward = λ all m. (all, m) }

pub ahead-end : (bytes out : List ℕ) → Ahead bytes out [] → Marks bytes out
ahead-end bytes out h = subst (Marks bytes) (append-nil out) (h.forward [] ([], refl, tt, refl))

marks-cons : (p : Piece) (next more : List ℕ) → IsPiece p next → IsSound p → Marks next more → Marks (spelling p ++ next) (marked p ++ more)
marks-cons p next more hp sound m = (p ∷ m.0, (next, refl, hp, m.1), (sound, m.2), ap (λ l. marked p ++ l) m.3)

-- the front of what is marked is the first piece
marks-first : (p : Piece) (next all : List ℕ) → IsPiece p next → Marks (spelling p ++ next) all → IsSound p × ((more : List ℕ) × Marks next more)
marks-first p next all hp m = first_of_cut m.0 m.1 m.2
  where
    first_of_cut : (qs : List Piece) → IsCut (spelling p ++ next) qs → AllByRecursion IsSound qs → IsSound p × ((more : List ℕ) × Marks next more)
    first_of_cut [] cut sound = absurd (not_empty p next hp cut)
    first_of_cut (q ∷ qs) cut sound =
        let same = same_first p q next cut.0 hp cut.2 cut.1 in
        (subst IsSound (sym same.0) sound.0, (flat_map marked qs, (qs, subst (λ r. IsCut r qs) (sym same.1) cut.3, sound.1, refl)))

pub ahead-piece : (bytes out rest : List ℕ) (p : Piece) (next : List ℕ) → Ahead bytes out rest → rest ≡ spelling p ++ next → IsPiece p next → IsSound p → Ahead bytes (out ++ marked p) next
ahead-piece bytes out rest p next h e hp sound = record {
  forward = λ more m. subst (Marks bytes) (sym (append_assoc out (marked p) more)) (h.forward (marked p ++ more) (subst (λ l. Marks l (marked p ++ more)) (sym e) (marks-cons p next more hp sound m)));
  backward = λ all m. let left = h.backward all m in (marks-first p next left.0 hp (subst (λ l. Marks l left.0) e left.1)).1;
}

pub ahead-unsound : (bytes out rest : List ℕ) (p : Piece) (next : List ℕ) → Ahead bytes out rest → rest ≡ spelling p ++ next → IsPiece p next → (IsSound p → ⊥) → (all : List ℕ) → Marks bytes all → ⊥
ahead-unsound bytes out rest p next h e hp unsound all m =
    let left = h.backward all m in unsound (marks-first p next left.0 hp (subst (λ l. Marks l left.0) e left.1)).0

-- a line has one cut, and so one marked text
pub one_cut : (bytes : List ℕ) (ps qs : List Piece) → IsCut bytes ps → IsCut bytes qs → ps ≡ qs
one_cut bytes [] [] a b = refl
one_cut bytes [] (q ∷ qs) a b = absurd (not_empty q b.0 b.2 (sym b.1 ∙ a))
one_cut bytes (p ∷ ps) [] a b = absurd (not_empty p a.0 a.2 (sym a.1 ∙ b))
one_cut bytes (p ∷ ps) (q ∷ qs) a b =
    let same = same_first p q a.0 b.0 a.2 b.2 (sym a.1 ∙ b.1) in
    let e = one_cut a.0 ps qs a.3 (subst (λ r. IsCut r qs) (sym same.1) b.3) in
    ap (λ x. x ∷ ps) same.0 ∙ ap (λ l. q ∷ l) e

-- ---- number tokens are ASCII

number_byte_ascii : (x : ℕ) → is_number_byte x ≡ true → x < 128
number_byte_ascii x h = grind (arith, nat_tests)

pub ascii_token : (t : List ℕ) → prefix_len is_number_byte t ≡ length t → IsAscii t
ascii_token [] h = IsAscii-nil
ascii_token (x ∷ t) h = by_test (is_number_byte x) (number_byte_ascii x) h (λ e. ascii_token t e)
  where
    by_test : (b : Bool) → (b ≡ true → x < 128) → cond b (1 + prefix_len is_number_byte t) 0 ≡ length (x ∷ t) → (prefix_len is_number_byte t ≡ length t → IsAscii t) → IsAscii (x ∷ t)
    by_test true small e rest = IsAscii-cons x t (small refl) (rest (omega arith))
    by_test false small e rest = absurd (omega arith)

-- ---- steps

pub two_pushes : (a b c x y z : List ℕ) → b ≡ a ++ x → c ≡ b ++ y → y ≡ z → c ≡ a ++ (x ++ z)
two_pushes a b c x y z p q e = q ∙ ap (λ l. l ++ y) p ∙ append_assoc a x y ∙ ap (λ l. a ++ (x ++ l)) e

pub inside-more : (kept : Bool) (text : List ℕ) (byte : ℕ) (now : Bool) → inside kept text ≡ Some now → inside kept (text ++ byte ∷ []) ≡ inside now (byte ∷ [])
inside-more kept [] byte now h = let e : kept ≡ now = cc in ap (λ k. inside k (byte ∷ [])) e
inside-more true (x ∷ text) byte now h = inside-more false text byte now h
inside-more false (x ∷ text) byte now h = by_quote (x == 34) (x == 92) h (λ g. inside-more (x == 92) text byte now g)
  where
    by_quote : (quote kept : Bool) → cond quote None (inside kept text) ≡ Some now → (inside kept text ≡ Some now → inside kept (text ++ byte ∷ []) ≡ inside now (byte ∷ [])) → cond quote None (inside kept (text ++ byte ∷ [])) ≡ inside now (byte ∷ [])
    by_quote true kept h k = cc
    by_quote false kept h k = k h

take_one_more : (n x : ℕ) (xs : List ℕ) → take (1 + n) (x ∷ xs) ≡ x ∷ take n xs
take_one_more n x xs = let e : 1 + n ≡ suc n = omega arith in rw e refl

-- the longest front that passes, passes
front_passes : (xs : List ℕ) → prefix_len is_number_byte (take (prefix_len is_number_byte xs) xs) ≡ prefix_len is_number_byte xs
front_passes [] = refl
front_passes (x ∷ xs) = by_first (is_number_byte x) refl (front_passes xs)
  where
    by_first : (b : Bool) → is_number_byte x ≡ b → prefix_len is_number_byte (take (prefix_len is_number_byte xs) xs) ≡ prefix_len is_number_byte xs → prefix_len is_number_byte (take (cond b (1 + prefix_len is_number_byte xs) 0) (x ∷ xs)) ≡ cond b (1 + prefix_len is_number_byte xs) 0
    by_first true e h = rw (take_one_more, e) (ap (λ k. 1 + k) h)
    by_first false e h = refl

number_goes_on : (x : ℕ) → begins_number x ≡ true → is_number_byte x ≡ true
number_goes_on x h = grind (arith, nat_tests)

-- a number token at the front of rest
pub record Token (rest : List ℕ) (len : ℕ) : Type 0 where
  pub alone : prefix_len is_number_byte (take len rest) ≡ length (take len rest)
  pub piece : IsPiece (number (take len rest)) (drop len rest)

pub token_at : (rest after : List ℕ) (first n : ℕ) → rest ≡ first ∷ after → begins_number first ≡ true → n ≡ prefix_len is_number_byte after → Token rest (1 + n)
token_at rest after first n e begins h =
    let len : prefix_len is_number_byte rest ≡ 1 + n = ap (prefix_len is_number_byte) e ∙ ap (λ b. cond b (1 + prefix_len is_number_byte after) 0) (number_goes_on first begins) ∙ ap (λ k. 1 + k) (sym h) in
    let size : length (take (1 + n) rest) ≡ 1 + n = subst (λ m. length (take m rest) ≡ m) len (length-prefix_len is_number_byte rest) in
    record {
      alone = subst (λ m. prefix_len is_number_byte (take m rest) ≡ m) len (front_passes rest) ∙ sym size;
      piece = (ap (λ l. begins_number (slice_index (take (1 + n) l) 0)) e ∙ rw take_one_more begins, ap (prefix_len is_number_byte) (take-append-drop (1 + n) rest) ∙ len ∙ sym size);
    }

pub empty_from_length : (l : List ℕ) → length l ≡ 0 → l ≡ []
empty_from_length [] h = refl
empty_from_length (x ∷ l) h = absurd (omega arith)

pub inside-kept : (kept now : Bool) (byte : ℕ) → kept ≡ true → now ≡ false → inside kept (byte ∷ []) ≡ Some now
inside-kept kept now byte k n = rw (k, n) refl

pub inside-free : (kept now : Bool) (byte : ℕ) → kept ≡ false → (byte ≡ 34 → ⊥) → now ≡ (byte == 92) → inside kept (byte ∷ []) ≡ Some now
inside-free kept now byte k apart n =
    let free : (byte == 34) ≡ false = grind (arith, nat_tests) in rw (k, n) (ap (λ b. cond b None (Some (byte == 92))) free)

pub one_marking : (bytes a b : List ℕ) → Marks bytes a → Marks bytes b → a ≡ b
one_marking bytes a b m n = m.3 ∙ ap (flat_map marked) (one_cut bytes m.0 n.0 m.1 n.1) ∙ sym n.3
