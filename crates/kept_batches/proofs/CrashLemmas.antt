-- What a crash leaves.
use Rattle.std.proofs.Common.{◌≡◌, ◌≢◌, ◌⊎◌, inl, inr, ℕ, ◌+◌, ◌≤◌, List, [], ◌∷◌, ◌++◌, length, take, drop, refl, sym, ◌∙◌, ap, subst, arith, append_assoc, length-append, length-drop, take-append-drop}
use Rattle.std.proofs.lemmas.List.{take_at, drop_at, append-nil, length-take-le, drop-drop}
use Rattle.std.proofs.lemmas.List.Elements.{All-push, All-nil}
use Rattle.std.specs.List.{All}
use Rattle.sqlite_disk.specs.Disk.{Torn}
use Rattle.kept_batches.specs.File.{open_mark, shut_mark, most_bytes, record_of, records, all_lines, file_of, staged, IsBatch, IsBeforeOrAfter, Keeps, whole, torn, unmarked, unbegun}
use Rattle.kept_batches.specs.Laws.{AppendsSurvive, CutsSurvive, BeginningsSurvive, MarksSurvive}
use Rattle.kept_batches.proofs.HeadLemmas.{Same, is, is_not, cases_same}
use Rattle.kept_batches.proofs.FileLemmas.{length-record_of, frame_split}
use Rattle.kept_batches.proofs.Steps.{torn_front, torn_back, torn_past, written_past, written_range, same_front}

pub records-append : (before : List (List ℕ)) (batches : List (List (List ℕ))) (batch : List (List ℕ)) → records before (batches ++ batch ∷ []) ≡ records before batches ++ (open_mark ++ record_of (before ++ all_lines batches) batch)
records-append before [] batch =
    ap (λ (l : List ℕ). open_mark ++ l) (append-nil (record_of before batch)) ∙ ap (λ (l : List (List ℕ)). open_mark ++ record_of l batch) (sym (append-nil before))
records-append before (x ∷ batches) batch =
    ap (λ (l : List ℕ). open_mark ++ (record_of before x ++ l)) (records-append (before ++ x) batches batch)
    ∙ sym (frame_split before x batches (open_mark ++ record_of ((before ++ x) ++ all_lines batches) batch))
    ∙ ap (λ (l : List (List ℕ)). records before (x ∷ batches) ++ (open_mark ++ record_of l batch)) (append_assoc before x (all_lines batches))

pub all_lines-append : (batches : List (List (List ℕ))) (batch : List (List ℕ)) → all_lines (batches ++ batch ∷ []) ≡ all_lines batches ++ batch
all_lines-append [] batch = append-nil batch
all_lines-append (x ∷ batches) batch = ap (λ (l : List (List ℕ)). x ++ l) (all_lines-append batches batch) ∙ sym (append_assoc x (all_lines batches) batch)

pub file_of-append : (batches : List (List (List ℕ))) (batch : List (List ℕ)) → file_of (batches ++ batch ∷ []) ≡ records [] batches ++ (open_mark ++ (record_of (all_lines batches) batch ++ shut_mark))
file_of-append batches batch =
    ap (λ (l : List ℕ). l ++ shut_mark) (records-append [] batches batch)
    ∙ append_assoc (records [] batches) (open_mark ++ record_of (all_lines batches) batch) shut_mark
    ∙ ap (λ (l : List ℕ). records [] batches ++ l) (append_assoc open_mark (record_of (all_lines batches) batch) shut_mark)

-- anything behind the shut mark
pub behind : (batches : List (List (List ℕ))) (rest : List ℕ) → All IsBatch batches → length rest ≤ 79 + most_bytes → Keeps (file_of batches ++ rest) (all_lines batches)
behind batches [] are few = whole batches (record { are = are; is = append-nil (file_of batches) }) refl
behind batches (x ∷ rest) are few = torn batches (record { are = are; rest = x ∷ rest; is = refl; some = omega arith; few = few }) refl

module _ (batches : List (List (List ℕ))) (batch : List (List ℕ)) (are : All IsBatch batches) (good : IsBatch batch) where
  pub few : length (record_of (all_lines batches) batch ++ shut_mark) ≤ 79 + most_bytes
  few = omega (arith, good.fits, length-record_of (all_lines batches) batch, length-append (record_of (all_lines batches) batch) shut_mark)

  pub staged-is : staged batches batch ≡ file_of batches ++ (record_of (all_lines batches) batch ++ shut_mark)
  staged-is = sym (append_assoc (records [] batches) shut_mark (record_of (all_lines batches) batch ++ shut_mark))

  pub staged_keeps : Keeps (staged batches batch) (all_lines batches)
  staged_keeps = subst (λ (f : List ℕ). Keeps f (all_lines batches)) (sym staged-is) (behind batches (record_of (all_lines batches) batch ++ shut_mark) are few)

  -- a batch behind any mark but the shut one
  pub kept_behind : (mark : List ℕ) → length mark ≡ 4 → mark ≢ shut_mark → Keeps (records [] batches ++ (mark ++ (record_of (all_lines batches) batch ++ shut_mark))) (all_lines batches ++ batch)
  kept_behind mark four not_shut = pick (cases_same mark open_mark)
    where
      pick : Same mark open_mark → Keeps (records [] batches ++ (mark ++ (record_of (all_lines batches) batch ++ shut_mark))) (all_lines batches ++ batch)
      pick (is e t) =
          whole (batches ++ batch ∷ []) (record {
            are = All-push IsBatch batches batch are good;
            is = ap (λ (m : List ℕ). records [] batches ++ (m ++ (record_of (all_lines batches) batch ++ shut_mark))) e ∙ sym (file_of-append batches batch);
          }) (sym (all_lines-append batches batch))
      pick (is_not n t) = unmarked batches batch (record { are = are; last = good; mark = mark; four = four; not_open = n; not_shut = not_shut; is = refl }) refl

  pub any_mark : (mark : List ℕ) → length mark ≡ 4 → IsBeforeOrAfter (all_lines batches) batch (records [] batches ++ (mark ++ (record_of (all_lines batches) batch ++ shut_mark)))
  any_mark mark four = pick (cases_same mark shut_mark)
    where
      pick : Same mark shut_mark → IsBeforeOrAfter (all_lines batches) batch (records [] batches ++ (mark ++ (record_of (all_lines batches) batch ++ shut_mark)))
      pick (is e t) = inl (subst (λ (m : List ℕ). Keeps (records [] batches ++ (m ++ (record_of (all_lines batches) batch ++ shut_mark))) (all_lines batches)) (sym e) staged_keeps)
      pick (is_not n t) = inr (kept_behind mark four n)

-- a write over a range in the middle
pub torn_range : (front middle back c : List ℕ) → Torn (length front) (length middle) (front ++ (middle ++ back)) c → c ≡ front ++ (take (length middle) (drop (length front) c) ++ back)
torn_range front middle back c t =
    let at = length front in
    let n = length middle in
    let long : at ≤ length (front ++ (middle ++ back)) = omega (arith, length-append front (middle ++ back)) in
    let first = torn_front at n (front ++ (middle ++ back)) c long t ∙ take_at front (middle ++ back) at refl in
    let last = torn_back at n (front ++ (middle ++ back)) c long t ∙ ap (λ (l : List ℕ). drop (at + n) l) (sym (append_assoc front middle back)) ∙ drop_at (front ++ middle) back (at + n) (length-append front middle) in
    sym (take-append-drop at c)
    ∙ ap (λ (l : List ℕ). l ++ drop at c) first
    ∙ ap (λ (l : List ℕ). front ++ l) (sym (take-append-drop n (drop at c)) ∙ ap (λ (l : List ℕ). take n (drop at c) ++ l) (drop-drop n at c ∙ last))

pub torn_size : (front middle back c : List ℕ) → Torn (length front) (length middle) (front ++ (middle ++ back)) c → length (take (length middle) (drop (length front) c)) ≡ length middle
torn_size front middle back c t =
    length-take-le (length middle) (drop (length front) c)
    (omega (arith, t.no_shorter, length-append front (middle ++ back), length-append middle back, length-drop (length front) c))

pub appends_survive : AppendsSurvive
appends_survive batches batch are good = record {
  written = λ n c few t.
      let after = drop (length (file_of batches)) c in
      subst (λ (f : List ℕ). Keeps f (all_lines batches)) (sym (torn_past (length (file_of batches)) n (file_of batches) c refl t))
      (behind batches after are (omega (arith, few, t.no_longer, length-drop (length (file_of batches)) c)));
  staged_is = λ c t h. written_past (length (file_of batches)) (record_of (all_lines batches) batch ++ shut_mark) (file_of batches) c refl t h ∙ sym (staged-is batches batch are good);
  staged_keeps = staged_keeps batches batch are good;
  marked = λ c t.
      let mark = take 4 (drop (length (records [] batches)) c) in
      subst (IsBeforeOrAfter (all_lines batches) batch) (sym (torn_range (records [] batches) shut_mark (record_of (all_lines batches) batch ++ shut_mark) c t))
      (any_mark batches batch are good mark (torn_size (records [] batches) shut_mark (record_of (all_lines batches) batch ++ shut_mark) c t));
  opened = λ c t h.
      torn_range (records [] batches) shut_mark (record_of (all_lines batches) batch ++ shut_mark) c t
      ∙ ap (λ (m : List ℕ). records [] batches ++ (m ++ (record_of (all_lines batches) batch ++ shut_mark))) (written_range (length (records [] batches)) open_mark c h)
      ∙ sym (file_of-append batches batch);
}

pub cuts_survive : CutsSurvive
cuts_survive batches file c t cut =
    let size = length (file_of batches) in
    let long : size ≤ length file = omega (arith, ap length t.is, length-append (file_of batches) t.rest) in
    let front : take size c ≡ file_of batches =
    same_front size c file (omega (arith, long, cut.no_shorter)) long (λ i less. cut.below i (omega (arith, long, less)) less)
    ∙ ap (λ (l : List ℕ). take size l) t.is ∙ take_at (file_of batches) t.rest size refl in
    let is : c ≡ file_of batches ++ drop size c = sym (take-append-drop size c) ∙ ap (λ (l : List ℕ). l ++ drop size c) front in
    subst (λ (f : List ℕ). Keeps f (all_lines batches)) (sym is)
    (behind batches (drop size c) t.are (omega (arith, t.few, cut.no_longer, ap length t.is, length-append (file_of batches) t.rest, length-drop size c)))

-- a file that has no more bytes than a shut mark
pub short_keeps : (c : List ℕ) → length c ≤ 4 → Keeps c []
short_keeps c few = pick (cases_same c shut_mark)
  where
    pick : Same c shut_mark → Keeps c []
    pick (is e t) = whole [] (record { are = All-nil IsBatch; is = e }) refl
    pick (is_not n t) = unbegun (record { short = few; not_shut = n }) refl

pub beginnings_survive : BeginningsSurvive
beginnings_survive file c u t = short_keeps c (omega (arith, u.short, t.no_longer))

half : (first second : List ℕ) → length first ≡ 2 → (first ≢ 45 ∷ 45 ∷ []) ⊎ (second ≢ 45 ∷ 45 ∷ []) → first ++ second ≢ shut_mark
half first second two (inl n) e = n (sym (take_at first second 2 two) ∙ ap (λ (l : List ℕ). take 2 l) e)
half first second two (inr n) e = n (sym (drop_at first second 2 two) ∙ ap (λ (l : List ℕ). drop 2 l) e)

pub marks_survive : MarksSurvive
marks_survive batches batch first second are good two too not =
    kept_behind batches batch are good (first ++ second) (omega (arith, two, too, length-append first second)) (half first second two not)
