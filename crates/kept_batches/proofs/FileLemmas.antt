-- Files.
use Rattle.std.proofs.Common.{◌≡◌, ◌≢◌, ℕ, zero, suc, ◌+◌, ◌/◌, ◌%◌, ◌^◌, ◌<◌, ◌≤◌, List, [], ◌∷◌, ◌++◌, length, get_or, take, drop, refl, sym, ◌∙◌, ap, subst, arith, append_assoc, length-append, reverse, pow-suc}
use Rattle.std.proofs.lemmas.List.{take_at, drop_at, append-nil, append_cancel_right, append_cancel_left}
use Rattle.std.proofs.lemmas.List.Elements.{All-head, All-tail}
use Rattle.std.specs.List.{All}
use Rattle.hex.specs.Hex.{lower_digits}
use Rattle.hex.proofs.HexLemmas.{length-encode_with}
use Rattle.kept_batches.specs.Text.{lines_in, marked}
use Rattle.kept_batches.specs.Heads.{head}
use Rattle.kept_batches.specs.File.{open_mark, shut_mark, digits, size_part, head_part, lines_part, record_of, records, all_lines, IsBatch, IsUnbegun, Keeps, whole, torn, unmarked, unbegun}
use Rattle.kept_batches.specs.Laws.{KeepsOne}
use Rattle.kept_batches.proofs.Parsing.{lines_in-marked}
use Rattle.kept_batches.proofs.HeadLemmas.{length-head_back}

-- equal texts whose fronts have one length
pub record Peeled (p q s t : List ℕ) : Type 0 where
  pub front : p ≡ q
  pub back : s ≡ t

pub peel : (p q s t : List ℕ) → length p ≡ length q → p ++ s ≡ q ++ t → Peeled p q s t
peel p q s t same e = record {
  front = sym (take_at p s (length q) same) ∙ ap (λ (l : List ℕ). take (length q) l) e ∙ take_at q t (length q) refl;
  back = sym (drop_at p s (length q) same) ∙ ap (λ (l : List ℕ). drop (length q) l) e ∙ drop_at q t (length q) refl;
}

pub length-digits : (width n : ℕ) → length (digits width n) ≡ width
length-digits zero n = refl
length-digits (suc width) n = omega (arith, length-digits width (n / 10), length-append (digits width (n / 10)) ((48 + n % 10) ∷ []))

digits-same : (width m n : ℕ) → m < 10 ^ width → n < 10 ^ width → digits width m ≡ digits width n → m ≡ n
digits-same zero m n low less e = omega (arith, low, less)
digits-same (suc width) m n low less e =
    let cut = peel (digits width (m / 10)) (digits width (n / 10)) ((48 + m % 10) ∷ []) ((48 + n % 10) ∷ []) (length-digits width (m / 10) ∙ sym (length-digits width (n / 10))) e in
    let last : 48 + m % 10 ≡ 48 + n % 10 = ap (λ (l : List ℕ). get_or l 0 0) cut.back in
    let power = pow-suc 10 width in
    let high = digits-same width (m / 10) (n / 10) (omega (arith, low, power)) (omega (arith, less, power)) cut.front in
    omega (arith, high, last)

pub length-size_part : (batch : List (List ℕ)) → length (size_part batch) ≡ 10
length-size_part batch = omega (arith, length-digits 8 (length (marked batch)), length-append (digits 8 (length (marked batch))) (32 ∷ []))

pub length-head_part : (before batch : List (List ℕ)) → length (head_part before batch) ≡ 64
length-head_part before batch = omega (arith, length-encode_with lower_digits (head (before ++ batch)), length-head_back (reverse (before ++ batch)))

pub length-record_of : (before batch : List (List ℕ)) → length (record_of before batch) ≡ 75 + length (marked batch)
length-record_of before batch =
    omega (
      arith,
      length-size_part batch,
      length-head_part before batch,
      length-append (head_part before batch) (lines_part batch),
      length-append (size_part batch) (head_part before batch ++ lines_part batch),
    )

pub body_split : (before batch : List (List ℕ)) (t : List ℕ) → record_of before batch ++ t ≡ size_part batch ++ (head_part before batch ++ (lines_part batch ++ t))
body_split before batch t =
    append_assoc (size_part batch) (head_part before batch ++ lines_part batch) t
    ∙ ap (λ (l : List ℕ). size_part batch ++ l) (append_assoc (head_part before batch) (lines_part batch) t)

pub size-same : (a b : List (List ℕ)) → IsBatch a → IsBatch b → size_part a ≡ size_part b → length (marked a) ≡ length (marked b)
size-same a b is is_too e =
    let cut : digits 8 (length (marked a)) ≡ digits 8 (length (marked b)) =
    append_cancel_right (digits 8 (length (marked a))) (digits 8 (length (marked b))) (32 ∷ []) (ap (λ (l : List ℕ). drop 1 l) e) in
    digits-same 8 (length (marked a)) (length (marked b)) (omega (arith, is.fits)) (omega (arith, is_too.fits)) cut

pub marked-same : (a b : List (List ℕ)) → IsBatch a → IsBatch b → marked a ≡ marked b → a ≡ b
marked-same a b is is_too e =
    sym (lines_in-marked a [] is.are ∙ append-nil a) ∙ ap (λ (l : List ℕ). lines_in (l ++ [])) e ∙ lines_in-marked b [] is_too.are ∙ append-nil b

-- a text begins with one batch at most
pub record OneBody (before : List (List ℕ)) (a b : List (List ℕ)) (t u : List ℕ) : Type 0 where
  pub batch : a ≡ b
  pub rest : t ≡ u

pub lines_part-same : (a b : List (List ℕ)) (t u : List ℕ) → IsBatch a → IsBatch b → length (marked a) ≡ length (marked b) → lines_part a ++ t ≡ lines_part b ++ u → Peeled (marked a) (marked b) t u
lines_part-same a b t u is is_too size e = peel (marked a) (marked b) t u size (ap (λ (l : List ℕ). drop 1 l) e)

pub one_body : (before after a b : List (List ℕ)) (t u : List ℕ) → IsBatch a → IsBatch b → record_of before a ++ t ≡ record_of after b ++ u → OneBody before a b t u
one_body before after a b t u is is_too e =
    let sizes = peel (size_part a) (size_part b) _ _ (length-size_part a ∙ sym (length-size_part b)) (sym (body_split before a t) ∙ e ∙ body_split after b u) in
    let heads = peel (head_part before a) (head_part after b) _ _ (length-head_part before a ∙ sym (length-head_part after b)) sizes.back in
    let cut = lines_part-same a b t u is is_too (size-same a b is is_too sizes.front) heads.back in
    record { batch = marked-same a b is is_too cut.front; rest = cut.back }

-- what stands behind the batches that count
pub data Tail (before : List (List ℕ)) (tail : List ℕ) (more : List (List ℕ)) : Type 0 where
  shut_tail : (rest : List ℕ) → tail ≡ shut_mark ++ rest → more ≡ [] → Tail before tail more
  marked_tail : (mark : List ℕ) (batch : List (List ℕ)) → length mark ≡ 4 → mark ≢ open_mark → mark ≢ shut_mark → IsBatch batch
      → tail ≡ mark ++ (record_of before batch ++ shut_mark) → more ≡ batch → Tail before tail more

pub apart : shut_mark ≢ open_mark
apart e = absurd (omega (arith, ap (λ (l : List ℕ). get_or l 0 0) e))

pub tail_not_open : (before : List (List ℕ)) (tail : List ℕ) (more : List (List ℕ)) → Tail before tail more → take 4 tail ≢ open_mark
tail_not_open before tail more (shut_tail rest is none) e = apart (sym (ap (λ (l : List ℕ). take 4 l) is) ∙ e)
tail_not_open before tail more (marked_tail mark batch four not_open not_shut good is last) e =
    not_open (sym (take_at mark (record_of before batch ++ shut_mark) 4 four) ∙ sym (ap (λ (l : List ℕ). take 4 l) is) ∙ e)

pub tail_one : (before : List (List ℕ)) (tail : List ℕ) (more other : List (List ℕ)) → Tail before tail more → Tail before tail other → more ≡ other
tail_one before tail more other (shut_tail rest is none) (shut_tail rest_too is_too none_too) = none ∙ sym none_too
tail_one before tail more other (shut_tail rest is none) (marked_tail mark batch four not_open not_shut good is_too last) =
    absurd (not_shut (sym (take_at mark (record_of before batch ++ shut_mark) 4 four) ∙ sym (ap (λ (l : List ℕ). take 4 l) is_too) ∙ ap (λ (l : List ℕ). take 4 l) is))
tail_one before tail more other (marked_tail mark batch four not_open not_shut good is last) (shut_tail rest is_too none) =
    absurd (not_shut (sym (take_at mark (record_of before batch ++ shut_mark) 4 four) ∙ sym (ap (λ (l : List ℕ). take 4 l) is) ∙ ap (λ (l : List ℕ). take 4 l) is_too))
tail_one before tail more other (marked_tail mark batch four not_open not_shut good is last) (marked_tail mark_too batch_too four_too not_open_too not_shut_too good_too is_too last_too) =
    let cut = peel mark mark_too _ _ (four ∙ sym four_too) (sym is ∙ is_too) in
    let one = one_body before before batch batch_too shut_mark shut_mark good good_too cut.back in last ∙ one.batch ∙ sym last_too

pub record OneFrames (xs ys : List (List (List ℕ))) (s t : List ℕ) : Type 0 where
  pub batches : xs ≡ ys
  pub rest : s ≡ t

pub frame_split : (before batch : List (List ℕ)) (more : List (List (List ℕ))) (s : List ℕ) → records before (batch ∷ more) ++ s ≡ open_mark ++ (record_of before batch ++ (records (before ++ batch) more ++ s))
frame_split before batch more s =
    append_assoc open_mark (record_of before batch ++ records (before ++ batch) more) s
    ∙ ap (λ (l : List ℕ). open_mark ++ l) (append_assoc (record_of before batch) (records (before ++ batch) more) s)

pub one_frames : (before : List (List ℕ)) (xs ys : List (List (List ℕ))) (s t : List ℕ) → All IsBatch xs → All IsBatch ys → take 4 s ≢ open_mark → take 4 t ≢ open_mark
    → records before xs ++ s ≡ records before ys ++ t → OneFrames xs ys s t
one_frames before [] [] s t are are_too shut shut_too e = record { batches = refl; rest = e }
one_frames before [] (b ∷ ys) s t are are_too shut shut_too e = absurd (shut (ap (λ (l : List ℕ). take 4 l) (e ∙ frame_split before b ys t)))
one_frames before (a ∷ xs) [] s t are are_too shut shut_too e = absurd (shut_too (ap (λ (l : List ℕ). take 4 l) (sym e ∙ frame_split before a xs s)))
one_frames before (a ∷ xs) (b ∷ ys) s t are are_too shut shut_too e =
    let cut : record_of before a ++ (records (before ++ a) xs ++ s) ≡ record_of before b ++ (records (before ++ b) ys ++ t) =
    append_cancel_left open_mark _ _ (sym (frame_split before a xs s) ∙ e ∙ frame_split before b ys t) in
    let one = one_body before before a b _ _ (All-head IsBatch a xs are) (All-head IsBatch b ys are_too) cut in
    let more = one_frames (before ++ a) xs ys s t (All-tail IsBatch a xs are) (All-tail IsBatch b ys are_too) shut shut_too
    (one.rest ∙ ap (λ (l : List (List ℕ)). records (before ++ l) ys ++ t) (sym one.batch)) in
    record { batches = cc (one.batch, more.batches); rest = more.rest }

pub record Seen (file : List ℕ) (lines : List (List ℕ)) : Type 0 where
  pub batches : List (List (List ℕ))
  pub are : All IsBatch batches
  pub tail : List ℕ
  pub more : List (List ℕ)
  pub is : file ≡ records [] batches ++ tail
  pub kind : Tail (all_lines batches) tail more
  pub lines_are : lines ≡ all_lines batches ++ more

pub data Sight (file : List ℕ) (lines : List (List ℕ)) : Type 0 where
  seen : Seen file lines → Sight file lines
  short : IsUnbegun file → lines ≡ [] → Sight file lines

pub sight : (file : List ℕ) (lines : List (List ℕ)) → Keeps file lines → Sight file lines
sight file lines (whole batches w e) = seen (record { batches = batches; are = w.are; tail = shut_mark; more = []; is = w.is; kind = shut_tail [] refl refl; lines_are = e ∙ sym (append-nil (all_lines batches)) })
sight file lines (torn batches w e) = seen (record { batches = batches; are = w.are; tail = shut_mark ++ w.rest; more = []; is = w.is ∙ append_assoc (records [] batches) shut_mark w.rest; kind = shut_tail w.rest refl refl; lines_are = e ∙ sym (append-nil (all_lines batches)) })
sight file lines (unmarked batches batch w e) = seen (record { batches = batches; are = w.are; tail = w.mark ++ (record_of (all_lines batches) batch ++ shut_mark); more = batch; is = w.is; kind = marked_tail w.mark batch w.four w.not_open w.not_shut w.last refl refl; lines_are = e })
sight file lines (unbegun w e) = short w e

pub seen_one : (file : List ℕ) (xs ys : List (List ℕ)) → Seen file xs → Seen file ys → xs ≡ ys
seen_one file xs ys s t =
    let one = one_frames [] s.batches t.batches s.tail t.tail s.are t.are (tail_not_open _ _ _ s.kind) (tail_not_open _ _ _ t.kind) (sym s.is ∙ t.is) in
    let kind : Tail (all_lines s.batches) s.tail t.more = subst (λ (b : List (List (List ℕ))). Tail (all_lines b) s.tail t.more) (sym one.batches) (subst (λ (l : List ℕ). Tail (all_lines t.batches) l t.more) (sym one.rest) t.kind) in
    s.lines_are ∙ cc (one.batches, tail_one (all_lines s.batches) s.tail s.more t.more s.kind kind) ∙ sym t.lines_are

pub frames_long : (before batch : List (List ℕ)) (more : List (List (List ℕ))) → 79 ≤ length (records before (batch ∷ more))
frames_long before batch more = omega (arith, length-record_of before batch, length-append (record_of before batch) (records (before ++ batch) more), length-append open_mark (record_of before batch ++ records (before ++ batch) more))

tail_short : (before : List (List ℕ)) (tail : List ℕ) (more : List (List ℕ)) → Tail before tail more → length tail ≤ 4 → tail ≡ shut_mark
tail_short before tail more (shut_tail [] is none) few = is
tail_short before tail more (shut_tail (x ∷ rest) is none) few = absurd (omega (arith, few, ap length is))
tail_short before tail more (marked_tail mark batch four not_open not_shut good is last) few =
    absurd (omega (arith, few, four, ap length is, length-append mark (record_of before batch ++ shut_mark), length-append (record_of before batch) shut_mark, length-record_of before batch))

not_short : (file : List ℕ) (batches : List (List (List ℕ))) (tail : List ℕ) (more : List (List ℕ)) → file ≡ records [] batches ++ tail → Tail (all_lines batches) tail more → length file ≤ 4 → file ≡ shut_mark
not_short file [] tail more is kind few = is ∙ tail_short [] tail more kind (omega (arith, few, ap length is))
not_short file (batch ∷ batches) tail more is kind few =
    absurd (omega (arith, few, ap length is, length-append (records [] (batch ∷ batches)) tail, frames_long [] batch batches))

seen_not_short : (file : List ℕ) (lines : List (List ℕ)) → Seen file lines → IsUnbegun file → ⊥
seen_not_short file lines s u = u.not_shut (not_short file s.batches s.tail s.more s.is s.kind u.short)

one_sight : (file : List ℕ) (xs ys : List (List ℕ)) → Sight file xs → Sight file ys → xs ≡ ys
one_sight file xs ys (seen s) (seen t) = seen_one file xs ys s t
one_sight file xs ys (seen s) (short u e) = absurd (seen_not_short file xs s u)
one_sight file xs ys (short u e) (seen t) = absurd (seen_not_short file ys t u)
one_sight file xs ys (short u e) (short v f) = e ∙ sym f

pub keeps_one : KeepsOne
keeps_one file xs ys keeps keeps_too = one_sight file xs ys (sight file xs keeps) (sight file ys keeps_too)
