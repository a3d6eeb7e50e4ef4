-- What a window on a file shows of it.
use Rattle.std.proofs.Common.{◌≡◌, ℕ, suc, ◌+◌, ◌-◌, ◌<◌, List, [], ◌∷◌, ◌++◌, length, take, drop, Option, None, Some, sym, ◌∙◌, ap, arith, length-drop}
use Rattle.std.specs.Prelude.{min, IfSome}
use Rattle.std.proofs.lemmas.List.{ext_get_or, get_or-drop, get_or-take, length-take-le, take_at, take_min}
use Rattle.memchr.specs.Find.{IsFirstByte, is_byte}
use Rattle.sqlite_disk.specs.Disk.{Holds}
use Rattle.kept_lines.specs.Inner.Window.{BeginsLine}
use Rattle.kept_lines.proofs.Parsing.{line_before, line_split}

-- a line after an open mark
pub begins_line : (after : List ℕ) (found : Option ℕ) → IsFirstByte (is_byte 10) after found → IfSome found (BeginsLine (43 ∷ after))
begins_line after None first = tt
begins_line after (Some i) first = record {
  within = omega (arith, first.0.high);
  line = line_before after i first;
  split =
      ap (λ (l : List ℕ). 43 ∷ l) (line_split after i first)
      ∙ ap (λ (l : List ℕ). 43 ∷ take i after ++ 10 ∷ l) (sym (let more : i + 2 ≡ suc (i + 1) = omega arith in ap (λ (n : ℕ). drop n (43 ∷ after)) more));
}

-- the bytes that a file holds at a place are the next there
bytes_at : (at : ℕ) (bytes file : List ℕ) → Holds file at bytes → take (length bytes) (drop at file) ≡ bytes
bytes_at at bytes file holds =
    let size : length (take (length bytes) (drop at file)) ≡ length bytes = length-take-le (length bytes) (drop at file) (omega (arith, holds.within, length-drop at file)) in
    ext_get_or 0 (take (length bytes) (drop at file)) bytes size (λ i below.
    let low : i < length bytes = omega (arith, size, below) in get_or-take (length bytes) (drop at file) i 0 low ∙ get_or-drop at file i 0 ∙ holds.each i low)

-- a read of as many bytes as there are, at most so many
pub read_is : (file buf items : List ℕ) (begin most len : ℕ) → length buf ≡ min (length file - begin) most → len ≡ length buf → (0 < length buf → Holds file begin buf)
    → take len (buf ++ drop (length buf) items) ≡ take most (drop begin file)
read_is file buf items begin most len size same holds =
    take_at buf (drop (length buf) items) len (sym same) ∙ from buf size holds
  where
    from : (bytes : List ℕ) → length bytes ≡ min (length file - begin) most → (0 < length bytes → Holds file begin bytes) → bytes ≡ take most (drop begin file)
    from [] size holds = ap (λ (n : ℕ). take n (drop begin file)) (let none : 0 ≡ min most (length (drop begin file)) = omega (arith, size, length-drop begin file) in none) ∙ take_min most (drop begin file)
    from (byte ∷ bytes) size holds =
        sym (bytes_at begin (byte ∷ bytes) file (holds (omega arith)))
        ∙ ap (λ (n : ℕ). take n (drop begin file)) (let all : length (byte ∷ bytes) ≡ min most (length (drop begin file)) = omega (arith, size, length-drop begin file) in all)
        ∙ take_min most (drop begin file)
