-- A batch that is added to a log.
use Rattle.std.proofs.Common.{◌≡◌, inl, ℕ, ◌+◌, ◌≤◌, List, [], ◌∷◌, ◌++◌, length, refl, sym, ◌∙◌, ap, subst, arith, append_assoc, length-append}
use Rattle.std.proofs.lemmas.List.Elements.{All-push}
use Rattle.hex.specs.Hex.{encode_lower}
use Rattle.sqlite_disk.specs.Disk.{Only}
use Rattle.kept_batches.specs.Text.{lines_in, marked}
use Rattle.kept_batches.specs.Heads.{head, heads_from}
use Rattle.kept_batches.specs.File.{IsBatch, IsBeforeOrAfter, Keeps, whole, size_part, record_of, records, all_lines, open_mark, shut_mark}
use Rattle.kept_batches.specs.Verdict.{kept_in, accepted}
use Rattle.kept_batches.specs.Inner.Writes.{IsNext, Appends, AppendsAtAnyMoment, sealed}
use Rattle.kept_batches.specs.Log.{IsLog}
use Rattle.kept_batches.proofs.Parsing.{parts}
use Rattle.kept_batches.proofs.LineLemmas.{head-after}
use Rattle.kept_batches.proofs.FileLemmas.{length-record_of, body_split}
use Rattle.kept_batches.proofs.CrashLemmas.{records-append, all_lines-append}
use Rattle.kept_batches.proofs.VerdictLemmas.{verdict_is_right}

pub kept_by : (file : List ℕ) (lines : List (List ℕ)) → Keeps file lines → kept_in file ≡ lines
kept_by file lines k = ap accepted ((verdict_is_right file lines).1 k)

pub whole_log : (file : List ℕ) (end : ℕ) (last : List ℕ) (l : IsLog file end last) → Keeps file (all_lines l.batches)
whole_log file end last l = whole l.batches (record { are = l.are; is = l.file_is }) refl

-- a crash before anything is written
pub same_left : (old : List ℕ) (end : ℕ) (last : List ℕ) (batch : List (List ℕ)) (may_leave : List ℕ → Type 0) → IsLog old end last → Only old may_leave
    → (c : List ℕ) → may_leave c → IsBeforeOrAfter (kept_in old) batch c
same_left old end last batch may_leave l only c left =
    let k = whole_log old end last l in
    inl (subst (λ (f : List ℕ). Keeps f (kept_in old)) (sym (only c left)) (subst (λ (x : List (List ℕ)). Keeps old x) (sym (kept_by old (all_lines l.batches) k)) k))

sealed-is : (before batch : List (List ℕ)) → sealed (head (before ++ batch)) (marked batch) ≡ record_of before batch ++ shut_mark
sealed-is before batch =
    let size = size_part batch in
    let hex = encode_lower (head (before ++ batch)) in
    let rest = marked batch ++ shut_mark in
    append_assoc size (hex ++ 10 ∷ []) rest ∙ ap (λ (l : List ℕ). size ++ l) (append_assoc hex (10 ∷ []) rest) ∙ sym (body_split before batch shut_mark)

module _ (old : List ℕ) (end : ℕ) (last text : List ℕ) (l : IsLog old end last) (is_lines : text ≡ marked (lines_in text)) (fits : length text ≤ 16_777_216)
    (next_head : List ℕ) (head_is : next_head ≡ heads_from last (lines_in text)) where
  new_head : next_head ≡ head (all_lines l.batches ++ lines_in text)
  new_head = head_is ∙ ap (λ (h : List ℕ). heads_from h (lines_in text)) l.head_is ∙ head-after (all_lines l.batches) (lines_in text)

  good : IsBatch (lines_in text)
  good = record { are = (parts text).are; fits = omega (arith, fits, ap length is_lines) }

  pub next : IsNext old end (sealed next_head text) l.batches (lines_in text)
  next = record {
    are = l.are;
    good = good;
    file_is = l.file_is;
    end_is = l.end_is;
    text_is = ap (λ (t : List ℕ). sealed next_head t) is_lines ∙ ap (λ (h : List ℕ). sealed h (marked (lines_in text))) new_head ∙ sealed-is (all_lines l.batches) (lines_in text);
  }

  was : kept_in old ≡ all_lines l.batches
  was = kept_by old (all_lines l.batches) (whole_log old end last l)

  pub at_any_moment : (may_leave : List ℕ → Type 0) → AppendsAtAnyMoment old end (sealed next_head text) may_leave → (c : List ℕ) → may_leave c → IsBeforeOrAfter (kept_in old) (lines_in text) c
  at_any_moment may_leave moments c left =
      subst (λ (k : List (List ℕ)). IsBeforeOrAfter k (lines_in text) c) (sym was) (moments l.batches (lines_in text) next c left)

  pub log_after : (new : List ℕ) → Appends old end (sealed next_head text) new → IsLog new (end + (79 + length text)) next_head
  log_after new added = record {
    batches = l.batches ++ lines_in text ∷ [];
    are = All-push IsBatch l.batches (lines_in text) l.are good;
    file_is = added l.batches (lines_in text) next;
    end_is = omega (arith, l.end_is, ap length is_lines, ap length (records-append [] l.batches (lines_in text)), length-append (records [] l.batches) (open_mark ++ record_of (all_lines l.batches) (lines_in text)), length-append open_mark (record_of (all_lines l.batches) (lines_in text)), length-record_of (all_lines l.batches) (lines_in text));
    head_is = new_head ∙ ap head (sym (all_lines-append l.batches (lines_in text)));
  }

  pub kept_more : (new : List ℕ) → Appends old end (sealed next_head text) new → kept_in new ≡ kept_in old ++ lines_in text
  kept_more new added =
      kept_by new (all_lines (l.batches ++ lines_in text ∷ [])) (whole (l.batches ++ lines_in text ∷ []) (record { are = All-push IsBatch l.batches (lines_in text) l.are good; is = added l.batches (lines_in text) next }) refl)
      ∙ all_lines-append l.batches (lines_in text)
      ∙ ap (λ (k : List (List ℕ)). k ++ lines_in text) (sym was)
