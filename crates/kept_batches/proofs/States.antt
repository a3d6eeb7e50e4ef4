-- Where a recovery is in a file.
use Rattle.std.proofs.Common.{◌≡◌, ◌≢◌, ◌⊎◌, inl, inr, ℕ, ◌+◌, ◌-◌, ◌<◌, ◌≤◌, Bool, true, false, if◌then◌else◌, List, [], ◌∷◌, ◌++◌, Option, None, Some, length, take, drop, refl, sym, ◌∙◌, ap, subst, arith, append_assoc, length-append, length-drop, take-append-drop}
use Rattle.std.specs.Prelude.{nat_le}
use Rattle.std.proofs.lemmas.List.{take_at, drop_at, append-nil, take-take, drop-take, drop-drop, length-take-le, length-take, drop_all}
use Rattle.std.proofs.lemmas.List.Elements.{All-nil, All-push}
use Rattle.kept_batches.specs.Text.{lines_in, marked}
use Rattle.kept_batches.specs.Heads.{head}
use Rattle.kept_batches.specs.File.{open_mark, shut_mark, most_bytes, record_of, records, all_lines, IsBatch, Keeps, whole, torn, unbegun}
use Rattle.kept_batches.specs.Verdict.{accepts, damage, readable, damaged_at, damage_in, candidate, after, read, verdict}
use Rattle.kept_batches.specs.declared.end.End.{End}
use Rattle.kept_batches.specs.declared.end.End.TheVariants.{Whole, Torn, Unmarked, Unbegun}
use Rattle.kept_batches.specs.Inner.Finding.{BeginsWith, IsMarked, IsUnmarkedLast, IsDamage}
use Rattle.kept_batches.specs.Inner.Writes.{IsHalved}
use Rattle.kept_batches.specs.Inner.Window.{IsWindow}
use Rattle.kept_batches.specs.Inner.State.{ComesAfter, IsRead, IsLent, IsState}
use Rattle.kept_batches.proofs.FileLemmas.{length-record_of}
use Rattle.kept_batches.proofs.CrashLemmas.{records-append, all_lines-append}
use Rattle.kept_batches.proofs.VerdictLemmas.{yes_or_no, le-from, begun, Begun, verdict_is_right}
use Rattle.kept_batches.proofs.Batches.{whole_lines}
use Rattle.kept_batches.proofs.OpenLemmas.{keeps_halves}
use Rattle.kept_batches.proofs.Readings.{le-not, More, reading, reads_on, damage_read, damage_in_window, all_in_window}

pub start_state : (file last : List ℕ) → last ≡ head [] → IsState None file 0 last 0 []
start_state file last is = record {
  lines = [];
  at = record { batches = []; are = All-nil IsBatch; place_is = refl; last_is = is; lines_are = refl; after = refl };
  lent = record { lent = []; lines_are = refl; count_is = refl };
}

-- the part of a file after a front
from_place : (file front rest : List ℕ) (place : ℕ) → file ≡ front ++ rest → place ≡ length front → file ≡ front ++ drop place file
from_place file front rest place split size =
    split ∙ ap (λ (l : List ℕ). front ++ l) (sym (ap (λ (l : List ℕ). drop place l) split ∙ drop_at front rest place (sym size)))

-- a batch at the place
module _ (file : List ℕ) (place : ℕ) (last : List ℕ) (lines : List (List ℕ)) (r : IsRead None file place last lines) (text : List ℕ) (there : take (length text) (drop place file) ≡ text)
    (size : ℕ) (next : List ℕ) (w : BeginsWith lines (drop 4 text) size next) where
  abbrev batch : List (List ℕ)
  batch = candidate (drop 4 text)

  abbrev tail : List ℕ
  tail = after lines (drop 4 text) ++ drop (length text) (drop place file)

  b : Begun lines (drop 4 text)
  b = begun lines (drop 4 text) w.begins_with

  -- all of the file, up to this batch and after it
  split : file ≡ records [] r.batches ++ (take 4 text ++ (record_of lines (candidate (drop 4 text)) ++ (after lines (drop 4 text) ++ drop (length text) (drop place file))))
  split =
      r.after
      ∙ ap (λ (l : List ℕ). records [] r.batches ++ l)
      (sym (take-append-drop (length text) (drop place file))
      ∙ ap (λ (l : List ℕ). l ++ drop (length text) (drop place file)) (there ∙ sym (take-append-drop 4 text) ∙ ap (λ (l : List ℕ). take 4 text ++ l) b.is_split)
      ∙ append_assoc (take 4 text) (record_of lines batch ++ after lines (drop 4 text)) (drop (length text) (drop place file))
      ∙ ap (λ (l : List ℕ). take 4 text ++ l) (append_assoc (record_of lines batch) (after lines (drop 4 text)) (drop (length text) (drop place file))))

  lines_next : lines ++ candidate (drop 4 text) ≡ all_lines (r.batches ++ candidate (drop 4 text) ∷ [])
  lines_next = ap (λ (l : List (List ℕ)). l ++ batch) r.lines_are ∙ sym (all_lines-append r.batches batch)

  place_next : place + (79 + size) ≡ length (records [] (r.batches ++ candidate (drop 4 text) ∷ []))
  place_next =
      omega (
        arith,
        r.place_is,
        w.size_is,
        ap length (records-append [] r.batches batch),
        length-append (records [] r.batches) (open_mark ++ record_of (all_lines r.batches) batch),
        length-append open_mark (record_of (all_lines r.batches) batch),
        length-record_of (all_lines r.batches) batch,
      )

  same_record : record_of lines (candidate (drop 4 text)) ≡ record_of (all_lines r.batches) (candidate (drop 4 text))
  same_record = ap (λ (l : List (List ℕ)). record_of l batch) r.lines_are

  -- its lines are the pending ones
  pub pending_next : lines_in (take size (drop 75 (drop 4 text))) ≡ candidate (drop 4 text)
  pending_next = (whole_lines (take size (drop 75 (drop 4 text))) batch b.good.are w.lines_are).1

  pub marked_read : take 4 text ≡ open_mark → IsRead None file (place + (79 + size)) next (lines ++ candidate (drop 4 text))
  marked_read is_open = record {
    batches = r.batches ++ batch ∷ [];
    are = All-push IsBatch r.batches batch r.are b.good;
    place_is = place_next;
    last_is = w.next_is;
    lines_are = lines_next;
    after =
        from_place file (records [] (r.batches ++ batch ∷ [])) tail (place + (79 + size))
        (split
        ∙ ap (λ (l : List ℕ). records [] r.batches ++ (l ++ (record_of lines batch ++ tail))) is_open
        ∙ ap (λ (l : List ℕ). records [] r.batches ++ (open_mark ++ (l ++ tail))) same_record
        ∙ ap (λ (l : List ℕ). records [] r.batches ++ l) (sym (append_assoc open_mark (record_of (all_lines r.batches) batch) tail))
        ∙ sym (append_assoc (records [] r.batches) (open_mark ++ record_of (all_lines r.batches) batch) tail)
        ∙ ap (λ (l : List ℕ). l ++ tail) (sym (records-append [] r.batches batch))) place_next;
  }

  -- nothing but a shut mark comes after it, and its own mark is another one
  pub unmarked_read : (is_shut : Bool) → text ≡ drop place file → take 4 text ≢ shut_mark → after lines (drop 4 text) ≡ shut_mark → (is_shut ≡ true → take 2 text ≡ 45 ∷ 45 ∷ []) → (is_shut ≡ false → take 2 text ≢ 45 ∷ 45 ∷ [])
      → IsRead (Some (Unmarked place is_shut)) file (place + (79 + size)) next (lines ++ candidate (drop 4 text))
  unmarked_read is_shut all not_shut end if_shut if_not = record {
    batches = r.batches ++ batch ∷ [];
    are = All-push IsBatch r.batches batch r.are b.good;
    place_is = place_next;
    last_is = w.next_is;
    lines_are = lines_next;
    after = record { first = r.batches; batch = batch; halved = halves; batches_are = refl };
  }
    where
      four : length (take 4 text) ≡ 4
      four = length-take-le 4 text (omega (arith, w.within, length-drop 4 text))

      joined : take 2 (take 4 text) ++ drop 2 (take 4 text) ≡ take 4 text
      joined = take-append-drop 2 (take 4 text)

      front : take 2 (take 4 text) ≡ take 2 text
      front = take-take 2 4 text (omega arith)

      nothing : drop (length text) (drop place file) ≡ []
      nothing = drop_all (length text) (drop place file) (omega (arith, ap length all))

      halves : IsHalved file place is_shut r.batches (candidate (drop 4 text))
      halves = record {
        are = r.are;
        good = b.good;
        first = take 2 (take 4 text);
        second = drop 2 (take 4 text);
        two = length-take-le 2 (take 4 text) (omega (arith, four));
        two_too = omega (arith, four, length-drop 2 (take 4 text));
        file_is =
            split
            ∙ ap (λ (l : List ℕ). records [] r.batches ++ (take 4 text ++ (record_of lines batch ++ (after lines (drop 4 text) ++ l)))) nothing
            ∙ ap (λ (l : List ℕ). records [] r.batches ++ (take 4 text ++ (record_of lines batch ++ l))) (append-nil (after lines (drop 4 text)) ∙ end)
            ∙ ap (λ (l : List ℕ). records [] r.batches ++ (take 4 text ++ (l ++ shut_mark))) same_record
            ∙ ap (λ (l : List ℕ). records [] r.batches ++ (l ++ (record_of (all_lines r.batches) batch ++ shut_mark))) (sym joined);
        end_is = r.place_is;
        first_open = λ e f. if_not e (sym front ∙ f);
        second_open = λ e f. not_shut (sym joined ∙ ap (λ (l : List ℕ). l ++ drop 2 (take 4 text)) (front ∙ if_shut e) ∙ ap (λ (l : List ℕ). (45 ∷ 45 ∷ []) ++ l) f);
      }

-- all lines of a batch that was read are pending
pub all_pending : (lines batch : List (List ℕ)) (count : ℕ) → IsLent count [] lines → IsLent count batch (lines ++ batch)
all_pending lines more count l = record { lent = lines; lines_are = refl; count_is = l.count_is ∙ ap length (sym (l.lines_are ∙ append-nil l.lent)) }

pub one_lent : (e : Option End) (file : List ℕ) (place : ℕ) (last : List ℕ) (count : ℕ) (line : List ℕ) (lines : List (List ℕ)) → IsState e file place last count (line ∷ lines) → IsState e file place last (count + 1) lines
one_lent e file place last count line lines s = record {
  lines = s.lines;
  at = s.at;
  lent = record {
    lent = s.lent.lent ++ line ∷ [];
    lines_are = s.lent.lines_are ∙ sym (append_assoc s.lent.lent (line ∷ []) lines);
    count_is = omega (arith, s.lent.count_is, length-append s.lent.lent (line ∷ []));
  };
}

-- a batch that is marked, in a window
pub marked_state : (file : List ℕ) (place : ℕ) (last : List ℕ) (count : ℕ) (text : List ℕ) (size : ℕ) (next : List ℕ) → IsState None file place last count [] → take (length text) (drop place file) ≡ text → IsMarked last text size next
    → IsState None file (place + (79 + size)) next count (lines_in (take size (drop 75 (drop 4 text))))
marked_state file place last count text size next s there m =
    let w = m.batch s.lines s.at.last_is in
    let pending = pending_next file place last s.lines s.at text there size next w in
    record {
      lines = s.lines ++ candidate (drop 4 text);
      at = marked_read file place last s.lines s.at text there size next w m.mark;
      lent = subst (λ (p : List (List ℕ)). IsLent count p (s.lines ++ candidate (drop 4 text))) (sym pending) (all_pending s.lines (candidate (drop 4 text)) count s.lent);
    }

-- the last batch, unmarked, in a window on all that is left
pub unmarked_state : (file : List ℕ) (place : ℕ) (last : List ℕ) (count : ℕ) (text : List ℕ) (size : ℕ) (next : List ℕ) (is_shut : Bool) → IsState None file place last count [] → text ≡ take 16_777_300 (drop place file) → IsUnmarkedLast last text size next
    → (is_shut ≡ true → take 2 text ≡ 45 ∷ 45 ∷ []) → (is_shut ≡ false → take 2 text ≢ 45 ∷ 45 ∷ [])
    → IsState (Some (Unmarked place is_shut)) file (place + (79 + size)) next count (lines_in (take size (drop 75 (drop 4 text))))
unmarked_state file place last count text size next is_shut s window m if_shut if_not =
    let w = m.batch s.lines s.at.last_is in
    let b = begun s.lines (drop 4 text) w.begins_with in
    let few : length text < 16_777_300 = omega (arith, ap length m.end, w.size_is, b.good.fits, w.within, length-drop (75 + size) (drop 4 text), length-drop 4 text) in
    let all : text ≡ drop place file = all_in_window 16_777_300 (drop place file) text window few in
    let there : take (length text) (drop place file) ≡ text = ap (λ (l : List ℕ). take (length text) l) (sym all ∙ sym (append-nil text)) ∙ take_at text [] (length text) refl in
    let pending = pending_next file place last s.lines s.at text there size next w in
    record {
      lines = s.lines ++ candidate (drop 4 text);
      at = unmarked_read file place last s.lines s.at text there size next w is_shut all m.not_shut (sym w.after_is ∙ m.end) if_shut if_not;
      lent = subst (λ (p : List (List ℕ)). IsLent count p (s.lines ++ candidate (drop 4 text))) (sym pending) (all_pending s.lines (candidate (drop 4 text)) count s.lent);
    }

-- with another end, where nothing is read
ends_with : (e : Option End) (file : List ℕ) (place : ℕ) (last : List ℕ) (count : ℕ) (pending : List (List ℕ)) (s : IsState None file place last count pending) → ComesAfter e file place s.at.batches → IsState e file place last count pending
ends_with e file place last count pending s a = record {
  lines = s.lines;
  at = record { batches = s.at.batches; are = s.at.are; place_is = s.at.place_is; last_is = s.at.last_is; lines_are = s.at.lines_are; after = a };
  lent = s.lent;
}

module _ (file : List ℕ) (place : ℕ) (last : List ℕ) (count : ℕ) (s : IsState None file place last count []) (text : List ℕ) (window : text ≡ take 16_777_300 (drop place file)) where
  all_of : length text < 16_777_300 → file ≡ records [] s.at.batches ++ text
  all_of few = s.at.after ∙ ap (λ (l : List ℕ). records [] s.at.batches ++ l) (sym (all_in_window 16_777_300 (drop place file) text window few))

  pub whole_state : take 4 text ≡ shut_mark → length text ≡ 4 → IsState (Some Whole) file place last count []
  whole_state shut four =
      ends_with (Some Whole) file place last count [] s
      (all_of (omega (arith, four)) ∙ ap (λ (l : List ℕ). records [] s.at.batches ++ l) (sym (take-append-drop 4 text) ∙ ap (λ (l : List ℕ). take 4 text ++ l) (drop_all 4 text (omega (arith, four))) ∙ append-nil (take 4 text) ∙ shut))

  pub torn_state : take 4 text ≡ shut_mark → 4 < length text → length text ≤ 83 + most_bytes → IsState (Some Torn) file place last count []
  torn_state shut long few =
      ends_with (Some Torn) file place last count [] s (record {
        are = s.at.are;
        rest = drop 4 text;
        is =
            all_of (omega (arith, few))
            ∙ ap (λ (l : List ℕ). records [] s.at.batches ++ l) (sym (take-append-drop 4 text) ∙ ap (λ (l : List ℕ). l ++ drop 4 text) shut)
            ∙ sym (append_assoc (records [] s.at.batches) shut_mark (drop 4 text));
        some = omega (arith, long, length-drop 4 text);
        few = omega (arith, few, length-drop 4 text);
      })

  none_yet : place ≡ 0 → s.at.batches ≡ []
  none_yet zero_is = pick s.at.batches (omega (arith, zero_is, s.at.place_is))
    where
      pick : (batches : List (List (List ℕ))) → length (records [] batches) ≡ 0 → batches ≡ []
      pick [] size = refl
      pick (x ∷ batches) size = absurd (omega (arith, size))

  pub unbegun_state : place ≡ 0 → length text ≤ 4 → text ≢ shut_mark → IsState (Some Unbegun) file place last count []
  unbegun_state zero_is few not_shut =
      let none = none_yet zero_is in
      let is : file ≡ text = all_of (omega (arith, few)) ∙ ap (λ (l : List (List (List ℕ))). records [] l ++ text) none in
      ends_with (Some Unbegun) file place last count [] s (record { unbegun = record { short = omega (arith, few, ap length is); not_shut = λ e. not_shut (sym is ∙ e) }; none = none })

  long_file : (place ≡ 0 → 4 < length text) → 4 < length file
  long_file long = pick s.at.batches s.at.place_is (ap length s.at.after)
    where
      pick : (batches : List (List (List ℕ))) → place ≡ length (records [] batches) → length file ≡ length (records [] batches ++ drop place file) → 4 < length file
      pick [] size all = omega (arith, long size, ap length window, length-take 16_777_300 (drop place file), all)
      pick (x ∷ batches) size all =
          omega (arith, all, length-append (records [] (x ∷ batches)) (drop place file), length-append (record_of [] x) (records x batches), length-record_of [] x)

  -- damage in the window is damage of the file
  module _ (long : place ≡ 0 → 4 < length text) (d : (before : List (List ℕ)) → last ≡ head before → IsDamage before text) where
    damage_verdict : verdict file ≡ damage place s.lines
    damage_verdict =
        let r = reading file place s.at.batches s.at.are s.at.after s.at.place_is (long_file long) in
        let there = damage_in_window (all_lines s.at.batches) (drop place file) 16_777_296 (omega arith) (subst (λ (l : List ℕ). IsDamage (all_lines s.at.batches) l) window (d (all_lines s.at.batches) (s.at.last_is ∙ ap head s.at.lines_are))) in
        r.is ∙ damage_read r.left (all_lines s.at.batches) place (drop place file) there ∙ ap (λ (l : List (List ℕ)). damage place l) (sym s.at.lines_are)

    pub damage_state : damage_in file ≡ Some place
    damage_state = ap damaged_at damage_verdict

    -- and the lines before it are lent
    pub spent_state : drop count (readable (verdict file)) ≡ []
    spent_state =
        ap (λ (l : List (List ℕ)). drop count l) (ap readable damage_verdict ∙ s.lent.lines_are) ∙ drop_at s.lent.lent [] count (sym s.lent.count_is)

-- what may be repaired keeps the lines that were read
pub end_keeps : (e : End) (file : List ℕ) (place : ℕ) (last : List ℕ) (lines : List (List ℕ)) → IsRead (Some e) file place last lines → Keeps file lines
end_keeps Whole file place last lines r = whole r.batches (record { are = r.are; is = r.after }) r.lines_are
end_keeps Torn file place last lines r = torn r.batches r.after r.lines_are
end_keeps (Unmarked mark is_shut) file place last lines r =
    let a = r.after in
    subst (λ (l : List (List ℕ)). Keeps file l) (sym (r.lines_are ∙ ap all_lines a.batches_are ∙ all_lines-append a.first a.batch))
    (pick (yes_or_no is_shut))
  where
    pick : (is_shut ≡ true) ⊎ (is_shut ≡ false) → Keeps file (all_lines r.after.first ++ r.after.batch)
    pick (inl e) = keeps_halves file mark is_shut r.after.first r.after.batch r.after.halved file r.after.halved.first r.after.halved.second r.after.halved.file_is r.after.halved.two r.after.halved.two_too (inr (r.after.halved.second_open e))
    pick (inr e) = keeps_halves file mark is_shut r.after.first r.after.batch r.after.halved file r.after.halved.first r.after.halved.second r.after.halved.file_is r.after.halved.two r.after.halved.two_too (inl (r.after.halved.first_open e))
end_keeps Unbegun file place last lines r = unbegun r.after.unbegun (r.lines_are ∙ ap all_lines r.after.none)

pub end_verdict : (e : End) (file : List ℕ) (place : ℕ) (last : List ℕ) (lines : List (List ℕ)) → IsRead (Some e) file place last lines → verdict file ≡ accepts lines
end_verdict e file place last lines r = (verdict_is_right file lines).1 (end_keeps e file place last lines r)

-- the lines that were read are the first that can be
pub readable_more : (e : Option End) (file : List ℕ) (place : ℕ) (last : List ℕ) (lines : List (List ℕ)) → IsRead e file place last lines → More lines (readable (verdict file))
readable_more (Some e) file place last lines r = record { more = []; is = ap readable (end_verdict e file place last lines r) ∙ sym (append-nil lines) }
readable_more None file place last lines r = pick (yes_or_no (nat_le (length file) 4))
  where
    none : (batches : List (List (List ℕ))) → file ≡ records [] batches ++ drop place file → length file ≤ 4 → all_lines batches ≡ []
    none [] split few = refl
    none (x ∷ batches) split few =
        absurd (omega (arith, few, ap length split, length-append (records [] (x ∷ batches)) (drop place file), length-append (record_of [] x) (records x batches), length-record_of [] x))

    pick : (nat_le (length file) 4 ≡ true) ⊎ (nat_le (length file) 4 ≡ false) → More lines (readable (verdict file))
    pick (inl low) = record {
      more = [];
      is = ap readable (ap (λ (b : Bool). if b then accepts [] else read (length file) [] 0 file) low) ∙ sym (append-nil lines ∙ r.lines_are ∙ none r.batches r.after (le-from _ _ low));
    }
    pick (inr high) =
        let long = le-not (length file) 4 high in
        let v = reading file place r.batches r.are r.after r.place_is long in
        let m = reads_on v.left (all_lines r.batches) place (drop place file) in
        record { more = m.more; is = ap readable v.is ∙ m.is ∙ ap (λ (l : List (List ℕ)). l ++ m.more) (sym r.lines_are) }

-- the lines that are left begin with the pending ones
pub left_is : (e : Option End) (file : List ℕ) (place : ℕ) (last : List ℕ) (count : ℕ) (pending : List (List ℕ)) → IsState e file place last count pending → More pending (drop count (readable (verdict file)))
left_is e file place last count pending s =
    let m = readable_more e file place last s.lines s.at in
    record {
      more = m.more;
      is =
          ap (λ (l : List (List ℕ)). drop count l) (m.is ∙ ap (λ (l : List (List ℕ)). l ++ m.more) s.lent.lines_are ∙ append_assoc s.lent.lent pending m.more)
          ∙ drop_at s.lent.lent (pending ++ m.more) count (sym s.lent.count_is);
    }

pub line_left : (e : Option End) (file : List ℕ) (place : ℕ) (last : List ℕ) (count : ℕ) (line : List ℕ) (lines : List (List ℕ)) → IsState e file place last count (line ∷ lines)
    → drop count (readable (verdict file)) ≡ line ∷ drop (count + 1) (readable (verdict file))
line_left e file place last count line lines s =
    let m = left_is e file place last count (line ∷ lines) s in
    m.is ∙ ap (λ (l : List (List ℕ)). line ∷ l) (sym (sym (drop-drop 1 count (readable (verdict file))) ∙ ap (λ (l : List (List ℕ)). drop 1 l) m.is))

pub none_left : (e : End) (file : List ℕ) (place : ℕ) (last : List ℕ) (count : ℕ) → IsState (Some e) file place last count [] → drop count (readable (verdict file)) ≡ []
none_left e file place last count s =
    ap (λ (l : List (List ℕ)). drop count l) (ap readable (end_verdict e file place last s.lines s.at) ∙ s.lent.lines_are)
    ∙ drop_at s.lent.lent [] count (sym s.lent.count_is)

pub not_damaged : (e : End) (file : List ℕ) (place : ℕ) (last : List ℕ) (lines : List (List ℕ)) → IsRead (Some e) file place last lines → damage_in file ≡ None
not_damaged e file place last lines r = ap damaged_at (end_verdict e file place last lines r)

pub same_state : (e f : Option End) (file other : List ℕ) (place at : ℕ) (last : List ℕ) (count number : ℕ) (pending left : List (List ℕ)) → f ≡ e → other ≡ file → at ≡ place → number ≡ count → left ≡ pending
    → IsState e file place last count pending → IsState f other at last number left
same_state e f file other place at last count number pending left end_is file_is place_is count_is pending_is s =
    subst (λ (x : Option End). IsState x other at last number left) (sym end_is)
    (subst (λ (x : List ℕ). IsState e x at last number left) (sym file_is)
    (subst (λ (x : ℕ). IsState e file x last number left) (sym place_is)
    (subst (λ (x : ℕ). IsState e file place last x left) (sym count_is)
    (subst (λ (x : List (List ℕ)). IsState e file place last count x) (sym pending_is) s))))

-- between two batches no line is pending
pub none_pending : (items : List ℕ) (next stop : ℕ) → next ≡ stop → take (stop - next) (drop next items) ≡ []
none_pending items next stop same = ap (λ (n : ℕ). take n (drop next items)) (let zero_left : stop - next ≡ 0 = omega (arith, same) in zero_left)

pub none_marked : (items : List ℕ) (next stop : ℕ) → next ≡ stop → take (stop - next) (drop next items) ≡ marked (lines_in (take (stop - next) (drop next items)))
none_marked items next stop same = let none = none_pending items next stop same in none ∙ ap (λ (l : List ℕ). marked (lines_in l)) (sym none)

-- a part of a window is a window
pub window_at : (file window : List ℕ) (begin stop : ℕ) → IsWindow file begin window → stop ≤ length window → take (length (drop stop window)) (drop (begin + stop) file) ≡ drop stop window
window_at file window begin stop is low =
    let n = length window - stop in
    let size : length window ≡ stop + n = omega (arith, low) in
    let left : length (drop stop window) ≡ n = omega (arith, length-drop stop window) in
    ap (λ (k : ℕ). take k (drop (begin + stop) file)) left
    ∙ ap (λ (l : List ℕ). take n l) (sym (drop-drop stop begin file))
    ∙ sym (drop-take stop n (drop begin file))
    ∙ ap (λ (k : ℕ). drop stop (take k (drop begin file))) (sym size)
    ∙ ap (λ (l : List ℕ). drop stop l) is

-- the pending lines of a batch whose mark is at `stop`
pub batch_pending : (items : List ℕ) (stop size : ℕ) → take ((stop + 79 + size) - (stop + 79)) (drop (stop + 79) items) ≡ take size (drop 75 (drop 4 (drop stop items)))
batch_pending items stop size =
    ap (λ (k : ℕ). take k (drop (stop + 79) items)) (let same : (stop + 79 + size) - (stop + 79) ≡ size = omega arith in same)
    ∙ ap (λ (l : List ℕ). take size l)
    (ap (λ (k : ℕ). drop k items) (let same : stop + 79 ≡ (stop + 4) + 75 = omega arith in same) ∙ sym (drop-drop 75 (stop + 4) items) ∙ ap (λ (l : List ℕ). drop 75 l) (sym (drop-drop 4 stop items)))
