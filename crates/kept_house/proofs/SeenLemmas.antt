-- What is kept and sent by one rule, seen by another.
use Rattle.std.proofs.Common.{◌≤◌, ◌⊎◌, inl, inr, ℕ, List, [], ◌∷◌, ◌++◌, length, take, drop, Option}
use Rattle.request_lines.specs.Answering.{Rule}
use Rattle.request_lines.proofs.SeenRuns.{Shows}
use Rattle.kept_answers.specs.Kept.{Begins}
use Rattle.kept_answers.specs.Keeping.{HasAnswered, IsAllKept, IsKept, answers_had, greeting}

module _ {A B : Type 0} (rule : Rule A) (shown : Rule B) (seen : A → B) (Stays : A → Type 0) (shows : Shows rule shown seen Stays) where
  answered_seen : (start : A) (greeted : List ℕ) (lines : List (List ℕ)) (from answered : ℕ) (sent : List ℕ) → Stays start → HasAnswered rule start greeted lines from answered sent
      → HasAnswered shown (seen start) greeted lines from answered sent
  answered_seen start greeted lines from answered sent stays has =
      let first = shows.answers start has.middle (take from lines) has.had stays has.answered_before in
      let then = shows.answers has.middle has.end (take answered (drop from lines)) has.text first.0 has.answered_after in record {
        had = has.had;
        middle = seen has.middle;
        text = has.text;
        end = seen has.end;
        answered_before = first.1;
        answered_after = then.1;
        written = has.written;
      }

  pub kept_seen : (start : A) (may_leave : List ℕ → Type 0) (lines new : List (List ℕ)) (from : Option ℕ) (sent : List ℕ) → Stays start → IsKept rule start may_leave lines new from sent
      → IsKept shown (seen start) may_leave lines new from sent
  kept_seen start may_leave [] new from sent stays untouched = untouched
  kept_seen start may_leave (first ∷ before) new from sent stays (inl untouched) = inl untouched
  kept_seen start may_leave (first ∷ before) new from sent stays (inr (fits, has)) = inr (fits, record { answered = has.answered; is_sent = by has.is_sent; leaves = has.leaves })
    where
      by : Begins sent (greeting first before) ⊎ ((answers_had from ≤ length before) × HasAnswered rule start (greeting first before) (before ++ new) (answers_had from) has.answered sent)
          → Begins sent (greeting first before) ⊎ ((answers_had from ≤ length before) × HasAnswered shown (seen start) (greeting first before) (before ++ new) (answers_had from) has.answered sent)
      by (inl begins) = inl begins
      by (inr (few, it)) = inr (few, answered_seen start (greeting first before) (before ++ new) (answers_had from) has.answered sent stays it)

  pub all_kept_seen : (start end : A) (file : List ℕ) (lines new : List (List ℕ)) (from : Option ℕ) (sent : List ℕ) → Stays start → IsAllKept rule start file lines new from sent end
      → Stays end × IsAllKept shown (seen start) file lines new from sent (seen end)
  all_kept_seen start end file [] new from sent stays all = absurd all
  all_kept_seen start end file (first ∷ before) new from sent stays (kept, (after, is, resent)) =
      let first = shows.answers start resent.middle (take (answers_had from) (before ++ new)) resent.had stays resent.answered_before in
      let then = shows.answers resent.middle end (drop (answers_had from) (before ++ new)) after first.0 resent.answered_after in (
        then.0,
        (kept, (after, is, record { had = resent.had; middle = seen resent.middle; answered_before = first.1; answered_after = then.1 })),
      )
