-- A store that is answered, and then new lines.
use Rattle.std.proofs.Common.{◌≡◌, inl, inr, ℕ, ◌+◌, ◌-◌, ◌≤◌, List, [], ◌∷◌, ◌++◌, length, take, drop, Option, None, Some, Result, Ok, Err, sym, ◌∙◌, ap, subst, arith, append_assoc}
use Rattle.std.specs.Prelude.{MatchResult, OnOk}
use Rattle.std.proofs.lemmas.List.{append-nil, drop-append-le, length-drop, take-append-le}
use Rattle.std.proofs.Math.Seq.{take-append-add}
use Rattle.sqlite_disk.specs.Disk.{Only}
use Rattle.request_lines.specs.Answering.{Rule}
use Rattle.kept_batches.specs.Verdict.{kept_in}
use Rattle.kept_answers.specs.Keeping.{IsAllKept, IsKept, IsStoreAnswered, IsStoreSent, FitsKept, answers_had, greeting}
use Rattle.kept_answers.specs.Kept.{AreAnswered}
use Rattle.kept_answers.proofs.KeptLemmas.{all_kept, answers_sent}

pub of_either : {T E P Q : Type 0} (result : Result T E) → (P → Q) → MatchResult result (λ _. P) (λ _. Q) → Q
of_either (Ok x) then holds = then holds
of_either (Err e) then holds = holds

pub ok_of : {T E P R : Type 0} (Q : Type 0) (result : Result T E) → (P → R) → MatchResult result (λ _. P) (λ _. Q) → OnOk result R
ok_of Q (Ok x) then holds = then holds
ok_of Q (Err e) then holds = tt

had_within : (from : Option ℕ) (kept : ℕ) → FitsKept from kept → answers_had from ≤ kept
had_within None kept none = omega (arith, none)
had_within (Some had) kept few = few

-- nothing but the answers to the store's lines was sent, and the store is as it was
pub kept_of_store : {A : Type 0} (rule : Rule A) (start : A) (may_leave : List ℕ → Type 0) (lines : List (List ℕ)) (from : Option ℕ) (sent : List ℕ)
    → IsStoreSent rule start lines from sent → ((file : List ℕ) → may_leave file → kept_in file ≡ lines) → IsKept rule start may_leave lines [] from sent
kept_of_store rule start may_leave [] from sent none same = (none, same)
kept_of_store rule start may_leave (first ∷ before) from sent (inl none) same = inl (none, same)
kept_of_store rule start may_leave (first ∷ before) from sent (inr (fits, inl begins)) same =
    let few = had_within from (length before) fits in
    inr (
      fits,
      record {
        answered = 0;
        is_sent = inl begins;
        leaves = λ file left. inl (0, omega arith, omega (arith, few), same file left ∙ ap (λ (l : List (List ℕ)). first ∷ l) (sym (append-nil before)));
      },
    )
kept_of_store rule start may_leave (first ∷ before) from sent (inr (fits, inr (after, is, resent))) same =
    let few = had_within from (length before) fits in
    let then = resent.sent_after in inr (
      fits,
      record {
        answered = then.answered;
        is_sent = inr (
          few,
          record {
            had = resent.had;
            middle = resent.middle;
            text = then.text;
            end = then.end;
            answered_before = subst (λ (l : List (List ℕ)). rule.answers start (take (answers_had from) l) resent.had resent.middle) (sym (append-nil before)) resent.answered_before;
            answered_after = subst (λ (l : List (List ℕ)). rule.answers resent.middle (take then.answered (drop (answers_had from) l)) then.text then.end) (sym (append-nil before)) then.answers;
            written = (then.written.0, ap (λ (l : List ℕ). greeting first before ++ l) then.written.1 ∙ sym (append_assoc (greeting first before) after then.written.0) ∙ ap (λ (l : List ℕ). l ++ then.written.0) (sym is));
          },
        );
        leaves = λ file left. inl (0, omega arith, omega (arith, few, then.within, length-drop (answers_had from) before), same file left ∙ ap (λ (l : List (List ℕ)). first ∷ l) (sym (append-nil before)));
      },
    )

-- new lines that are all answered
pub all_answered : {A : Type 0} (rule : Rule A) (start end : A) (file : List ℕ) (may_leave : List ℕ → Type 0) (is_clean : Type 0) (before new : List (List ℕ)) (sent : List ℕ)
    → rule.answers start new sent end → (is_clean → kept_in file ≡ before ++ new) → Only file may_leave → AreAnswered rule start may_leave is_clean before new sent
all_answered rule start end file may_leave is_clean before new sent told kept only =
    answers_sent rule start end may_leave is_clean before new sent sent [] told (sym (append-nil sent)) (λ clean. all_kept file may_leave before new (length new) only (kept clean) (omega arith))

module _ {A : Type 0} (rule : Rule A) (more : (a b c : A) (ls ms : List (List ℕ)) (t u : List ℕ) → rule.answers a ls t b → rule.answers b ms u c → rule.answers a (ls ++ ms) (t ++ u) c) where
  -- and new lines after it
  pub kept_after_store : (start middle : A) (may_leave : List ℕ → Type 0) (is_clean : Type 0) (lines new : List (List ℕ)) (from : Option ℕ) (sent_before sent : List ℕ)
      → IsStoreAnswered rule start lines from sent_before middle → AreAnswered rule middle may_leave is_clean lines new sent → is_clean → IsKept rule start may_leave lines new from (sent_before ++ sent)
  kept_after_store start middle may_leave is_clean [] new from sent_before sent answered then clean = absurd answered
  kept_after_store start middle may_leave is_clean (first ∷ before) new from sent_before sent (fits, (after, is, resent)) then clean =
      let few = had_within from (length before) fits in
      let rest = drop (answers_had from) before in
      let size : length rest ≡ length before - answers_had from = length-drop (answers_had from) before in inr (
        fits,
        record {
          answered = length rest + then.answered;
          is_sent = inr (
            few,
            record {
              had = resent.had;
              middle = resent.middle;
              text = after ++ then.text;
              end = then.end;
              answered_before = subst (λ (l : List (List ℕ)). rule.answers start l resent.had resent.middle) (sym (take-append-le (answers_had from) before new few)) resent.answered_before;
              answered_after = subst (λ (l : List (List ℕ)). rule.answers resent.middle l (after ++ then.text) then.end)
                  (sym (ap (λ (l : List (List ℕ)). take (length rest + then.answered) l) (drop-append-le (answers_had from) before new few) ∙ take-append-add rest new then.answered))
                  (more _ _ _ _ _ _ _ resent.answered_after then.answers);
              written = (
                then.written.0,
                ap (λ (l : List ℕ). greeting first before ++ (after ++ l)) then.written.1
                    ∙ sym (append_assoc (greeting first before) after (sent ++ then.written.0))
                    ∙ ap (λ (l : List ℕ). l ++ (sent ++ then.written.0)) (sym is)
                    ∙ sym (append_assoc sent_before sent then.written.0),
              );
            },
          );
          leaves = λ file left.
              let kept = then.kept clean file left in
              inl (kept.0, kept.2, omega (arith, kept.1, size, few), kept.3);
        },
      )

  pub all_kept_after_store : (start middle end : A) (file : List ℕ) (lines new : List (List ℕ)) (from : Option ℕ) (sent_before sent : List ℕ)
      → IsStoreAnswered rule start lines from sent_before middle → rule.answers middle new sent end → kept_in file ≡ lines ++ new → IsAllKept rule start file lines new from (sent_before ++ sent) end
  all_kept_after_store start middle end file [] new from sent_before sent answered told kept = absurd answered
  all_kept_after_store start middle end file (first ∷ before) new from sent_before sent (fits, (after, is, resent)) told kept =
      let few = had_within from (length before) fits in (
        kept,
        (
          after ++ sent,
          ap (λ (l : List ℕ). l ++ sent) is ∙ append_assoc (greeting first before) after sent,
          record {
            had = resent.had;
            middle = resent.middle;
            answered_before = subst (λ (l : List (List ℕ)). rule.answers start l resent.had resent.middle) (sym (take-append-le (answers_had from) before new few)) resent.answered_before;
            answered_after = subst (λ (l : List (List ℕ)). rule.answers resent.middle l (after ++ sent) end) (sym (drop-append-le (answers_had from) before new few)) (more _ _ _ _ _ _ _ resent.answered_after told);
          },
        ),
      )
