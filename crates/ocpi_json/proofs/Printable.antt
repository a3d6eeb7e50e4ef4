-- Printable texts are UTF-8, and lie in cells.
use Rattle.std.proofs.Common.{◌≡◌, ◌+◌, ◌-◌, ◌<◌, ◌≤◌, ◌∙◌, ℕ, zero, suc, Bool, List, [], ◌∷◌, ◌++◌, true, false, cond, length, drop, replicate, refl, sym, ap, ap₂, append_assoc, arith, length-append, take-append-drop}
use Rattle.std.specs.Str.{IsAscii, IsUtf8}
use Rattle.std.proofs.Math.Seq.{take-append_seam, drop-append_seam}
use Rattle.std.proofs.lemmas.List.{drop-replicate, length-replicate, length-map, map-append}
use Rattle.std.proofs.lemmas.Bool.{false≢true}
use Rattle.std.proofs.lemmas.Bool.Decides.{nat_tests}
use Rattle.std.proofs.lemmas.Str.{IsUtf8-from_ascii}
use Rattle.std.proofs.lemmas.Str.Ascii.{IsAscii-nil, IsAscii-cons}
use Rattle.std.specs.Prelude.{nat_eq}
use Rattle.std.specs.Cmp.Lexicographic.{pointwise, same_text, other_text}
use Rattle.ocpi_json.specs.Folded.{is_printable, folded, same_folded}
use Rattle.ocpi_json.specs.Inner.Cells.{Holds, is_written, padded, refilled, written, written_len, zeros}

below_128 : (byte : ℕ) (rest : List ℕ) → is_printable (byte ∷ rest) ≡ true → byte < 128
below_128 byte rest h = grind (arith, nat_tests)

others : (byte : ℕ) (rest : List ℕ) → is_printable (byte ∷ rest) ≡ true → is_printable rest ≡ true
others byte rest h = grind (arith, nat_tests)

ascii : (text : List ℕ) → is_printable text ≡ true → IsAscii text
ascii [] h = IsAscii-nil
ascii (byte ∷ rest) h = IsAscii-cons byte rest (below_128 byte rest h) (ascii rest (others byte rest h))

pub printable_utf8 : (text : List ℕ) → is_printable text ≡ true → IsUtf8 text
printable_utf8 text h = IsUtf8-from_ascii text (ascii text h)

some_byte : (byte : ℕ) (rest : List ℕ) → is_printable (byte ∷ rest) ≡ true → is_written byte ≡ true
some_byte byte rest h = grind (arith, nat_tests)

pub written_len-padded : (text : List ℕ) (k : ℕ) → is_printable text ≡ true → written_len (text ++ zeros k) ≡ length text
written_len-padded [] zero h = refl
written_len-padded [] (suc k) h = refl
written_len-padded (byte ∷ rest) k h =
    let more = written_len-padded rest k (others byte rest h) in
    ap (λ b. cond b (1 + written_len (rest ++ zeros k)) 0) (some_byte byte rest h) ∙ omega (arith, more)

written_padded : (text : List ℕ) (k : ℕ) → is_printable text ≡ true → written (text ++ zeros k) ≡ text
written_padded text k h = rw (written_len-padded text k h, take-append_seam) refl

pub written_laid : (most : ℕ) (text : List ℕ) → is_printable text ≡ true → written (text ++ drop (length text) (replicate most 0)) ≡ text
written_laid most text h = rw (drop-replicate) (written_padded text (most - length text) h)

pub laid : (most : ℕ) (text : List ℕ) → length text ≤ most → is_printable text ≡ true → Holds most (text ++ drop (length text) (replicate most 0))
laid most text fits h =
    rw (drop-replicate) (by_len (written_len-padded text (most - length text) h))
  where
    by_len : written_len (padded most text) ≡ length text → Holds most (padded most text)
    by_len e = record {
      full = rw (length-append, length-replicate) (omega arith);
      printable = rw (e, take-append_seam) h;
      rest = rw (e, drop-append_seam) refl;
    }

joined_zeros : (m n : ℕ) → zeros m ++ zeros n ≡ zeros (m + n)
joined_zeros zero n = let e : zero + n ≡ n = omega arith in rw e refl
joined_zeros (suc m) n = let e : suc m + n ≡ suc (m + n) = omega arith in rw e (ap (λ rest. 0 ∷ rest) (joined_zeros m n))

zeros_behind : (text : List ℕ) (most more : ℕ) → length text ≤ most → most ≤ more
    → padded most text ++ drop most (replicate more 0) ≡ text ++ drop (length text) (replicate more 0)
zeros_behind text most more fits wider =
    let first : drop most (replicate more 0) ≡ zeros (more - most) = rw drop-replicate refl in
    let second : drop (length text) (replicate more 0) ≡ zeros (more - length text) = rw drop-replicate refl in
    let e : (most - length text) + (more - most) ≡ more - length text = omega (arith, fits, wider) in
    let behind : zeros (most - length text) ++ drop most (replicate more 0) ≡ drop (length text) (replicate more 0) =
    ap (λ rest. zeros (most - length text) ++ rest) first ∙ joined_zeros (most - length text) (more - most) ∙ ap zeros e ∙ sym second in
    append_assoc text (zeros (most - length text)) (drop most (replicate more 0)) ∙ ap (λ rest. text ++ rest) behind

pub written_fits : (most : ℕ) (cells : List ℕ) → Holds most cells → length (written cells) ≤ most
written_fits most cells h =
    let whole = ap length (take-append-drop (written_len cells) cells) in
    let parts = length-append (written cells) (drop (written_len cells) cells) in
    omega (arith, whole, parts, h.full)

-- cells of a text, and zeros behind them up to more bytes
pub widened_cells : (most more : ℕ) (cells : List ℕ) → most ≤ more → Holds most cells
    → cells ++ drop most (replicate more 0) ≡ written cells ++ drop (length (written cells)) (replicate more 0)
widened_cells most more cells wider h =
    let fits = written_fits most cells h in
    ap (λ front. front ++ drop most (replicate more 0)) (sym (refilled most cells h)) ∙ zeros_behind (written cells) most more fits wider

zeros_folded : (k : ℕ) → folded (zeros k) ≡ zeros k
zeros_folded zero = refl
zeros_folded (suc k) = ap (λ rest. 0 ∷ rest) (zeros_folded k)

pub cells_folded : (most : ℕ) (cells : List ℕ) → Holds most cells → folded cells ≡ padded most (folded (written cells))
cells_folded most cells h =
    ap folded (sym (refilled most cells h)) ∙ map-append _ (written cells) _
    ∙ ap₂ (λ front rest. front ++ rest) refl (zeros_folded _ ∙ ap (λ n. zeros (most - n)) (sym (length-map (written cells) _)))

below_127 : (byte : ℕ) (rest : List ℕ) → is_printable (byte ∷ rest) ≡ true → is_printable (folded (byte ∷ [])) ≡ true
below_127 byte rest h = grind (arith, nat_tests)

printable-folded : (text : List ℕ) → is_printable text ≡ true → is_printable (folded text) ≡ true
printable-folded [] h = refl
printable-folded (byte ∷ rest) h = grind (arith, nat_tests, below_127 byte rest h, printable-folded rest (others byte rest h))

same_written : (most : ℕ) (a b : List ℕ) → is_printable a ≡ true → is_printable b ≡ true → padded most a ≡ padded most b → a ≡ b
same_written most a b p q e =
    sym (written_padded a (most - length a) p) ∙ ap written e ∙ written_padded b (most - length b) q

pub told_alike : (most : ℕ) (x y : List ℕ) → is_printable x ≡ true → is_printable y ≡ true → (told : Bool)
    → (told ≡ true → padded most (folded x) ≡ padded most (folded y)) → (padded most (folded x) ≡ padded most (folded y) → told ≡ true)
    → told ≡ same_folded x y
told_alike most x y p q told if_told if_same = by_tests told (same_folded x y) refl if_told if_same
  where
    by_tests : (told same : Bool) → same ≡ pointwise nat_eq (folded x) (folded y)
        → (told ≡ true → padded most (folded x) ≡ padded most (folded y)) → (padded most (folded x) ≡ padded most (folded y) → told ≡ true)
        → told ≡ same
    by_tests true true e f g = refl
    by_tests false false e f g = refl
    by_tests true false e f g =
        absurd (other_text (folded x) (folded y) e (same_written most (folded x) (folded y) (printable-folded x p) (printable-folded y q) (f refl)))
    by_tests false true e f g = absurd (false≢true (g (ap (padded most) (same_text (folded x) (folded y) e))))
