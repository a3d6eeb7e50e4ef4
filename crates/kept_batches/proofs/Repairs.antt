-- What a repair makes of a file.
use Rattle.std.proofs.Common.{◌≡◌, ℕ, ◌+◌, Bool, List, [], Some, Result, Ok, Err, length, refl, sym, ◌∙◌, ap, subst, arith, length-append}
use Rattle.std.specs.Prelude.{OnOk}
use Rattle.sqlite_disk.specs.Disk.{Only}
use Rattle.kept_batches.specs.Heads.{head}
use Rattle.kept_batches.specs.File.{shut_mark, records, all_lines, file_of, Keeps, whole, unbegun, IsUnbegun}
use Rattle.kept_batches.specs.Verdict.{accepted, damaged_at, kept_in, damage_in}
use Rattle.kept_batches.specs.declared.end.End.{End}
use Rattle.kept_batches.specs.declared.end.End.TheVariants.{Whole, Torn, Unmarked, Unbegun}
use Rattle.kept_batches.specs.Reading.{AreFoundAlike}
use Rattle.kept_batches.specs.Log.{IsLog}
use Rattle.kept_batches.specs.Inner.Writes.{Cuts, CutsAtAnyMoment, OpensAgain, OpensAgainAtAnyMoment}
use Rattle.kept_batches.specs.Inner.State.{IsRead, IsRepaired, KeepsTheSame}
use Rattle.kept_batches.proofs.CrashLemmas.{all_lines-append}
use Rattle.kept_batches.proofs.VerdictLemmas.{verdict_is_right}
use Rattle.kept_batches.proofs.States.{end_keeps}

pub on_ok : {T E : Type 0} (result : Result T E) {P Q : Type 0} → (P → Q) → OnOk result P → OnOk result Q
on_ok (Ok x) f p = f p
on_ok (Err e) f p = tt

alike : (one other : List ℕ) (lines : List (List ℕ)) → Keeps one lines → Keeps other lines → AreFoundAlike one other
alike one other lines k l =
    let v = (verdict_is_right one lines).1 k in
    let w = (verdict_is_right other lines).1 l in
    (ap accepted v ∙ sym (ap accepted w), ap damaged_at v ∙ sym (ap damaged_at w))

pub same_alike : (one other : List ℕ) → one ≡ other → AreFoundAlike one other
same_alike one other e = (ap kept_in e, ap damage_in e)

module _ (old : List ℕ) (place : ℕ) where
  log_is : (e : End) (last : List ℕ) (lines : List (List ℕ)) (new : List ℕ) (r : IsRead (Some e) old place last lines) → new ≡ file_of r.batches → IsLog new place last × AreFoundAlike new old
  log_is e last lines new r is = (
    record { batches = r.batches; are = r.are; file_is = is; end_is = r.place_is; head_is = r.last_is ∙ ap head r.lines_are },
    alike new old lines (whole r.batches (record { are = r.are; is = is }) r.lines_are) (end_keeps e old place last lines r),
  )

  become : (e f : End) → e ≡ f → (last : List ℕ) (lines : List (List ℕ)) → IsRead (Some e) old place last lines → IsRead (Some f) old place last lines
  become e f is last lines r = subst (λ (x : End). IsRead (Some x) old place last lines) is r

  pub whole_repaired : (e : End) → e ≡ Whole → IsRepaired e old place old
  whole_repaired e is last lines r = let w = become e Whole is last lines r in log_is Whole last lines old w w.after

  pub all_alike : (e : End) (may_leave : List ℕ → Type 0) → Only old may_leave → KeepsTheSame e old place may_leave
  all_alike e may_leave only last lines r c left = same_alike c old (only c left)

  torn_size : (last : List ℕ) (lines : List (List ℕ)) (r : IsRead (Some Torn) old place last lines) → place + 4 ≡ length (file_of r.batches)
  torn_size last lines r = omega (arith, r.place_is, length-append (records [] r.batches) shut_mark)

  pub torn_repaired : (e : End) → e ≡ Torn → (new : List ℕ) → Cuts old (place + 4) new → IsRepaired e old place new
  torn_repaired e is new cuts last lines r =
      let w = become e Torn is last lines r in log_is Torn last lines new w (cuts w.batches w.after (torn_size last lines w))

  pub torn_alike : (e : End) → e ≡ Torn → (may_leave : List ℕ → Type 0) → CutsAtAnyMoment old (place + 4) may_leave → KeepsTheSame e old place may_leave
  torn_alike e is may_leave cuts last lines r c left =
      let w = become e Torn is last lines r in
      alike c old lines (subst (λ (l : List (List ℕ)). Keeps c l) (sym w.lines_are) (cuts w.batches w.after (torn_size last lines w) c left)) (end_keeps Torn old place last lines w)

  pub unmarked_repaired : (e : End) (mark : ℕ) (is_shut : Bool) → e ≡ Unmarked mark is_shut → (new : List ℕ) → OpensAgain old mark is_shut new → IsRepaired e old place new
  unmarked_repaired e mark is_shut is new opens last lines r =
      let w = become e (Unmarked mark is_shut) is last lines r in
      let a = w.after in
      log_is (Unmarked mark is_shut) last lines new w (opens a.first a.batch a.halved ∙ ap file_of (sym a.batches_are))

  pub unmarked_alike : (e : End) (mark : ℕ) (is_shut : Bool) → e ≡ Unmarked mark is_shut → (may_leave : List ℕ → Type 0) → OpensAgainAtAnyMoment old mark is_shut may_leave → KeepsTheSame e old place may_leave
  unmarked_alike e mark is_shut is may_leave opens last lines r c left =
      let w = become e (Unmarked mark is_shut) is last lines r in
      let a = w.after in
      alike c old lines (subst (λ (l : List (List ℕ)). Keeps c l) (sym (w.lines_are ∙ ap all_lines a.batches_are ∙ all_lines-append a.first a.batch)) (opens a.first a.batch a.halved c left))
      (end_keeps (Unmarked mark is_shut) old place last lines w)

  pub unbegun_repaired : (e : End) → e ≡ Unbegun → (new : List ℕ) → (IsUnbegun old → new ≡ shut_mark) → IsRepaired e old place new
  unbegun_repaired e is new begins last lines r =
      let w = become e Unbegun is last lines r in
      let a = w.after in
      log_is Unbegun last lines new w (begins a.unbegun ∙ ap file_of (sym a.none))

  pub unbegun_alike : (e : End) → e ≡ Unbegun → (may_leave : List ℕ → Type 0) → (IsUnbegun old → (c : List ℕ) → may_leave c → Keeps c []) → KeepsTheSame e old place may_leave
  unbegun_alike e is may_leave begins last lines r c left =
      let w = become e Unbegun is last lines r in
      let a = w.after in
      alike c old [] (begins a.unbegun c left) (unbegun a.unbegun refl)
