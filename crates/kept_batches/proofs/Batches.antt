-- Lines that are added to a batch.
use Rattle.std.proofs.Common.{◌≡◌, ℕ, zero, suc, ◌+◌, ◌-◌, ◌/◌, ◌%◌, ◌<◌, ◌≤◌, Bool, List, [], ◌∷◌, ◌++◌, length, take, drop, None, Some, Result, Ok, Err, refl, sym, ◌∙◌, ap, subst, arith, append_assoc, length-append, length-drop, reverse}
use Rattle.std.specs.Prelude.{OnOk, OnErr, IsOk, is_ok, if◌then◌else◌}
use Rattle.memchr.specs.Find.{IsFirstByte, is_byte}
use Rattle.std.proofs.lemmas.List.{take_at, drop_at, take_rest, drop-append-le, drop_all, append-nil, length-take-le}
use Rattle.std.proofs.lemmas.List.Elements.{All-push}
use Rattle.std.specs.List.{All}
use Rattle.hex.specs.Hex.{encode_lower, lower_digits}
use Rattle.hex.proofs.HexLemmas.{length-encode_with}
use Rattle.kept_batches.specs.Text.{IsLine, AddsLines, lines_in, marked, ended as ended_lines}
use Rattle.kept_batches.specs.Heads.{head}
use Rattle.kept_batches.specs.File.{digits, header, shut_mark, size_part, record_of}
use Rattle.kept_batches.specs.Inner.Writes.{sealed}
use Rattle.kept_batches.proofs.Parsing.{parts, lines_in-marked, line_split, no_newline, marked-append}
use Rattle.kept_batches.proofs.HeadLemmas.{length-head_back}
use Rattle.kept_batches.proofs.FileLemmas.{length-digits}

pub digits-step : (width n : ℕ) → 0 < width → digits (width - 1) (n / 10) ++ (48 + n % 10) ∷ [] ≡ digits width n
digits-step zero n some = absurd (omega (arith, some))
digits-step (suc width) n some = ap (λ (k : ℕ). digits k (n / 10) ++ (48 + n % 10) ∷ []) (let same : suc width - 1 ≡ width = omega arith in same)

pub whole_lines : (text : List ℕ) (lines : List (List ℕ)) → All IsLine lines → text ≡ marked lines → (text ≡ marked (lines_in text)) × (lines_in text ≡ lines)
whole_lines text lines are is =
    let stands_for : lines_in text ≡ lines = ap lines_in (is ∙ sym (append-nil (marked lines))) ∙ lines_in-marked lines [] are ∙ append-nil lines in (is ∙ ap marked (sym stands_for), stands_for)

-- a line after those of a batch
one_more : (old line new : List ℕ) → IsLine line → 75 ≤ length old → drop 75 old ≡ marked (lines_in (drop 75 old)) → new ≡ old ++ 43 ∷ line ++ 10 ∷ []
    → (drop 75 new ≡ marked (lines_in (drop 75 new))) × (lines_in (drop 75 new) ≡ lines_in (drop 75 old) ++ line ∷ [])
one_more old line new is long whole grown =
    let lines = lines_in (drop 75 old) in
    whole_lines (drop 75 new) (lines ++ line ∷ []) (All-push IsLine lines line (parts (drop 75 old)).are is)
    (ap (λ (l : List ℕ). drop 75 l) (grown ∙ append_assoc old (43 ∷ line) (10 ∷ [])) ∙ drop-append-le 75 old (43 ∷ line ++ 10 ∷ []) long ∙ ap (λ (l : List ℕ). l ++ (43 ∷ line ++ 10 ∷ [])) whole ∙ sym (marked-append lines (line ∷ [])))

pub record Pushed {T E : Type 0} (result : Result T E) (old line new : List ℕ) : Type 0 where
  pub long : 75 ≤ length new
  pub whole : drop 75 new ≡ marked (lines_in (drop 75 new))
  pub lines : OnOk result (lines_in (drop 75 new) ≡ lines_in (drop 75 old) ++ line ∷ [])

pub pushed : {T E : Type 0} (result : Result T E) (old line new : List ℕ) → IsLine line → 75 ≤ length old → drop 75 old ≡ marked (lines_in (drop 75 old))
    → OnOk result (new ≡ old ++ 43 ∷ line ++ 10 ∷ []) → OnErr result (new ≡ old) → Pushed result old line new
pushed (Ok x) old line new is long whole ok err =
    let both = one_more old line new is long whole ok in
    record { long = omega (arith, long, ap length ok, length-append old (43 ∷ line), length-append (old ++ 43 ∷ line) (10 ∷ [])); whole = both.0; lines = both.1 }
pushed (Err e) old line new is long whole ok err =
    record { long = omega (arith, long, ap length err); whole = ap (λ (l : List ℕ). drop 75 l) err ∙ whole ∙ ap (λ (l : List ℕ). marked (lines_in (drop 75 l))) (sym err); lines = tt }

-- the lines of a batch that has no more bytes than its room
pub no_lines : (bytes : List ℕ) → length bytes ≡ 75 → lines_in (drop 75 bytes) ≡ []
no_lines bytes size = ap lines_in (drop_all 75 bytes (omega (arith, size)))

pub none_whole : (bytes : List ℕ) → length bytes ≡ 75 → drop 75 bytes ≡ marked (lines_in (drop 75 bytes))
none_whole bytes size = let none = drop_all 75 bytes (omega (arith, size)) in none ∙ ap (λ (l : List ℕ). marked (lines_in l)) (sym none)

pub no_bytes : (bytes : List ℕ) → 75 ≤ length bytes → drop 75 bytes ≡ marked (lines_in (drop 75 bytes)) → lines_in (drop 75 bytes) ≡ [] → length bytes ≡ 75
no_bytes bytes long whole none = let all : length (drop 75 bytes) ≡ 0 = ap length whole ∙ ap (λ (l : List (List ℕ)). length (marked l)) none in omega (arith, long, all, length-drop 75 bytes)

pub length-header : (size : ℕ) (last : List ℕ) → length last ≡ 32 → length (header size last) ≡ 75
length-header size last thirty_two =
    omega (
      arith,
      thirty_two,
      length-digits 8 size,
      length-append (digits 8 size) (32 ∷ []),
      length-encode_with lower_digits last,
      length-append (encode_lower last) (10 ∷ []),
      length-append (32 ∷ (digits 8 size ++ 32 ∷ [])) (encode_lower last ++ 10 ∷ []),
    )

-- the header is the front of a batch
pub header-front : (before batch : List (List ℕ)) → take 75 (record_of before batch) ≡ header (length (marked batch)) (head (before ++ batch))
header-front before batch =
    let size = size_part batch in
    let hex = encode_lower (head (before ++ batch)) in
    let h = header (length (marked batch)) (head (before ++ batch)) in
    let split : h ++ marked batch ≡ record_of before batch = append_assoc size (hex ++ 10 ∷ []) (marked batch) ∙ ap (λ (l : List ℕ). size ++ l) (append_assoc hex (10 ∷ []) (marked batch)) in
    ap (λ (l : List ℕ). take 75 l) (sym split) ∙ take_at h (marked batch) 75 (length-header (length (marked batch)) (head (before ++ batch)) (length-head_back (reverse (before ++ batch))))

-- the lines are what they were before the header was written and the mark added
pub unsealed : (last text whole : List ℕ) (len : ℕ) → length last ≡ 32 → len ≡ 75 + length text → whole ≡ sealed last text → drop 75 (take len whole) ≡ text
unsealed last text whole len thirty_two len_is is =
    let h = header (length text) last in
    let size = length-header (length text) last thirty_two in
    let split : whole ≡ (h ++ text) ++ shut_mark = is ∙ sym (append_assoc h text shut_mark) in
    ap (λ (l : List ℕ). drop 75 (take len l)) split
    ∙ ap (λ (l : List ℕ). drop 75 l) (take_at (h ++ text) shut_mark len (omega (arith, len_is, size, length-append h text)))
    ∙ drop_at h text 75 size

pub unsealed_length : (last text whole : List ℕ) (len : ℕ) → length last ≡ 32 → len ≡ 75 + length text → whole ≡ sealed last text → length (take len whole) ≡ len
unsealed_length last text whole len thirty_two len_is is =
    length-take-le len whole
    (omega (arith, len_is, ap length is, length-header (length text) last thirty_two, length-append (header (length text) last) (text ++ shut_mark), length-append text shut_mark))

-- a header is written at the front of a batch
pub headed : (given room now items : List ℕ) (len : ℕ) → given ≡ room ++ drop 75 now → length room ≡ 75 → now ≡ items → 75 ≤ length items → len ≡ length items
    → take len (given ++ drop (length given) items) ≡ room ++ drop 75 items
headed given room now items len is size same low all =
    take_at given (drop (length given) items) len (omega (arith, ap length is, size, low, all, length-append room (drop 75 now), length-drop 75 now, ap length same))
    ∙ is ∙ ap (λ (l : List ℕ). room ++ drop 75 l) same

pub grown : {T E : Type 0} (result : Result T E) (new old more : List ℕ) → new ≡ (if is_ok result then old ++ more else old) → IsOk result → new ≡ old ++ more
grown result new old more e ok = e ∙ ap (λ (b : Bool). if b then old ++ more else old) ok

ended-append : (xs ys : List (List ℕ)) → ended_lines (xs ++ ys) ≡ ended_lines xs ++ ended_lines ys
ended-append [] ys = refl
ended-append (x ∷ xs) ys =
    ap (λ (t : List ℕ). x ++ 10 ∷ t) (ended-append xs ys) ∙ sym (append_assoc x (10 ∷ ended_lines xs) (ended_lines ys))

-- one more line of a text
pub one_more_pushed : (text rest : List ℕ) (lines : List (List ℕ)) (i : ℕ) → text ≡ ended_lines lines ++ rest → IsFirstByte (is_byte 10) rest (Some i)
    → text ≡ ended_lines (lines ++ take i rest ∷ []) ++ take (length rest - (i + 1)) (drop (i + 1) rest)
one_more_pushed text rest lines i is first =
    let after = take (length rest - (i + 1)) (drop (i + 1) rest) in
    is ∙ ap (λ (l : List ℕ). ended_lines lines ++ l) (line_split rest i first ∙ ap (λ (l : List ℕ). take i rest ++ 10 ∷ l) (sym (take_rest rest (i + 1))) ∙ sym (append_assoc (take i rest) (10 ∷ []) after))
    ∙ sym (append_assoc (ended_lines lines) (ended_lines (take i rest ∷ [])) after)
    ∙ ap (λ (l : List ℕ). l ++ after) (sym (ended-append lines (take i rest ∷ [])))

pub all_pushed : (old new : List (List ℕ)) (text rest : List ℕ) (lines : List (List ℕ)) → All IsLine lines → new ≡ old ++ lines → text ≡ ended_lines lines ++ rest → IsFirstByte (is_byte 10) rest None
    → AddsLines old text (length text - length rest) new
all_pushed old new text rest lines are is split first =
    let size : length (ended_lines lines) ≡ length text - length rest = omega (arith, ap length split, length-append (ended_lines lines) rest) in
    record {
      added = lines;
      are = are;
      new_is = is;
      within = omega arith;
      front = ap (λ (l : List ℕ). take (length text - length rest) l) split ∙ take_at (ended_lines lines) rest (length text - length rest) size;
      no_more = subst IsLine (sym (ap (λ (l : List ℕ). drop (length text - length rest) l) split ∙ drop_at (ended_lines lines) rest (length text - length rest) size)) (no_newline rest first);
    }
