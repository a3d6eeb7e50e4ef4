-- Runs over one store, one after another.
use Rattle.std.proofs.Common.{◌≡◌, ⊎_elim, inl, inr, subst, Option, None, Some, ℕ, ◌+◌, ◌≤◌, List, [], ◌∷◌, ◌++◌, length, take, drop, refl, sym, ◌∙◌, ap, arith, append_assoc, length-append}
use Rattle.std.proofs.lemmas.List.{append-nil, length-take-le, take-append-drop, take-append-le}
use Rattle.std.proofs.Math.Seq.{take-add}
use Rattle.request_lines.specs.Answering.{Rule}
use Rattle.kept_batches.specs.Verdict.{kept_in}
use Rattle.kept_answers.specs.Keeping.{FitsKept, answers_had, greeting}
use Rattle.kept_answers.specs.Runs.{AreRuns, HasRun, HaveCome, IsDetermined, KeptIsARun, LeadsOneWay, Run, RunsAreOne, all_received, count_received, last_left}

module _ {A : Type 0} (rule : Rule A) (leads : LeadsOneWay rule) (start : A) (first : List ℕ) where
  -- what a run leaves: the lines from before and more, at least those whose answers came, and what the client has of them
  record Left (had : ℕ) (run : Run) (so_far : List ℕ) : Type 0 where
    pub lines : List (List ℕ)
    pub kept : kept_in run.left ≡ first ∷ lines
    pub enough : had + run.received ≤ length lines
    pub end : A
    pub same : rule.answers start (take (had + run.received) lines) (so_far ++ run.came) end

  -- nothing came
  none_came : (had : ℕ) (run : Run) (more : List (List ℕ)) (so_far : List ℕ) (middle : A) → run.received ≡ 0 → run.came ≡ [] → had ≤ length run.before → kept_in run.left ≡ first ∷ (run.before ++ more)
      → rule.answers start (take had run.before) so_far middle → Left had run so_far
  none_came had run more so_far middle none nothing few kept so =
      let front : take (had + run.received) (run.before ++ more) ≡ take had run.before =
      ap (λ (n : ℕ). take n (run.before ++ more)) (omega (arith, none)) ∙ take-append-le had run.before more few in
      let text : so_far ++ run.came ≡ so_far = ap (λ (l : List ℕ). so_far ++ l) nothing ∙ append-nil so_far in record {
        lines = run.before ++ more;
        kept = kept;
        enough = omega (arith, none, few, length-append run.before more);
        end = middle;
        same = subst (λ (l : List (List ℕ)). rule.answers start l (so_far ++ run.came) middle) (sym front) (subst (λ (t : List ℕ). rule.answers start (take had run.before) t middle) (sym text) so);
      }

  -- some came, of lines that are left
  some_came : (had count : ℕ) (run : Run) (so_far : List ℕ) (middle : A) → count ≤ length run.new → had ≤ length run.before → had + run.received ≤ length run.before + count
      → kept_in run.left ≡ first ∷ (run.before ++ take count run.new) → rule.answers start (take had run.before) so_far middle → HaveCome rule start first had run → Left had run so_far
  some_came had count run so_far middle within few enough kept so come =
      let lines = run.before ++ take count run.new in
      let size : length lines ≡ length run.before + count = length-append run.before (take count run.new) ∙ ap (λ (n : ℕ). length run.before + n) (length-take-le count run.new within) in
      let all = run.before ++ run.new in
      let front : take (had + run.received) lines ≡ take (had + run.received) all =
      sym (take-append-le (had + run.received) lines (drop count run.new) (omega (arith, size, enough)))
      ∙ ap (λ (l : List (List ℕ)). take (had + run.received) l) (append_assoc run.before (take count run.new) (drop count run.new) ∙ ap (λ (l : List (List ℕ)). run.before ++ l) (take-append-drop count run.new)) in
      let parts : take (had + run.received) lines ≡ take had run.before ++ take run.received (drop had all) =
      front ∙ take-add had run.received all ∙ ap (λ (l : List (List ℕ)). l ++ take run.received (drop had all)) (take-append-le had run.before run.new few) in
      let one = leads.one_end start (take had run.before) come.text so_far come.middle middle come.answered_before so in
      let after = subst (λ (at : A). rule.answers at (take run.received (drop had all)) run.came come.end) one come.answered in
      let joined = leads.more_lines start middle come.end (take had run.before) (take run.received (drop had all)) so_far run.came so after in record {
        lines = lines;
        kept = kept;
        enough = omega (arith, size, enough);
        end = come.end;
        same = subst (λ (l : List (List ℕ)). rule.answers start l (so_far ++ run.came) come.end) (sym parts) joined;
      }

  no_greeting : (lines : List (List ℕ)) (xs ys : List ℕ) → [] ≡ (greeting first lines ++ xs) ++ ys → ⊥
  no_greeting lines xs ys is = absurd (cc)

  left_by : (had : ℕ) (run : Run) (so_far : List ℕ) (middle : A) → HasRun rule start first had run → rule.answers start (take had run.before) so_far middle → Left had run so_far
  left_by had run so_far middle ran so = ⊎_elim
      (λ none. ⊎_elim
      (λ leaves. none_came had run (take leaves.0 run.new) so_far middle none.0 none.1 ran.promised.few leaves.3 so)
      (λ nothing. none_came had run [] so_far middle none.0 none.1 ran.promised.few (nothing.1 ∙ ap (λ (l : List (List ℕ)). first ∷ l) (sym (append-nil run.before))) so)
      (ran.promised.kept.leaves run.left refl))
      (λ some. ⊎_elim
      (λ leaves. some_came had leaves.0 run so_far middle leaves.1 ran.promised.few (omega (arith, leaves.2, some.0)) leaves.3 so some.1)
      (λ nothing. absurd (no_greeting run.before run.came some.1.began.0 (sym nothing.0 ∙ some.1.began.1)))
      (ran.promised.kept.leaves run.left refl))
      ran.came

  -- over a store that has some lines, of which the client has the first answers
  all_runs : (file so_far : List ℕ) (lines : List (List ℕ)) (had : ℕ) (middle : A) (runs : List Run) → kept_in file ≡ first ∷ lines → had ≤ length lines → rule.answers start (take had lines) so_far middle
      → AreRuns rule start first file had runs
      → (last : List (List ℕ)) × (kept_in (last_left file runs) ≡ first ∷ last) × (had + count_received runs ≤ length last)
      × ((end : A) × rule.answers start (take (had + count_received runs) last) (so_far ++ all_received runs) end)
  all_runs file so_far lines had middle [] kept few so ran = (
    lines,
    kept,
    omega (arith, few),
    (middle, subst (λ (n : ℕ). rule.answers start (take n lines) (so_far ++ []) middle) (omega arith) (subst (λ (t : List ℕ). rule.answers start (take had lines) t middle) (sym (append-nil so_far)) so)),
  )
  all_runs file so_far lines had middle (run ∷ later) kept few so (opened, ran, others) =
      let before : lines ≡ run.before = ap (λ (l : List (List ℕ)). drop 1 l) (sym kept ∙ opened) in
      let left = left_by had run so_far middle ran (subst (λ (l : List (List ℕ)). rule.answers start (take had l) so_far middle) before so) in
      let rest = all_runs run.left (so_far ++ run.came) left.lines (had + run.received) left.end later left.kept left.enough left.same others in
      let total : had + run.received + count_received later ≡ had + (run.received + count_received later) = omega arith in (
        rest.0,
        rest.1,
        omega (arith, rest.2),
        (
          rest.3.0,
          subst (λ (n : ℕ). rule.answers start (take n rest.0) (so_far ++ (run.came ++ all_received later)) rest.3.0) total
              (subst (λ (t : List ℕ). rule.answers start (take (had + run.received + count_received later) rest.0) t rest.3.0) (append_assoc so_far run.came (all_received later)) rest.3.1),
        ),
      )

-- a rule that answers lines in one way leads them to one state
pub leads_one_way : {A : Type 0} (rule : Rule A) → IsDetermined rule → LeadsOneWay rule
leads_one_way rule determined = record {
  one_end = λ start lines text other end last told again. (determined.one_way start lines text other end last told again).1;
  no_lines = determined.no_lines;
  more_lines = determined.more_lines;
}

pub runs_are_one : {A : Type 0} (rule : Rule A) → RunsAreOne rule
runs_are_one rule start first file runs leads empty ran =
    let all = all_runs rule leads start first file [] [] 0 start runs empty (omega arith) (leads.no_lines start) ran in
    let total : 0 + count_received runs ≡ count_received runs = omega arith in
    (all.0, all.1, omega (arith, all.2), (all.3.0, subst (λ (n : ℕ). rule.answers start (take n all.0) (all_received runs) all.3.0) total all.3.1))

-- the client has no more answers than the store has lines
few_had : (from : Option ℕ) (kept : ℕ) → FitsKept from kept → answers_had from ≤ kept
few_had None kept fits = omega arith
few_had (Some had) kept fits = fits

pub kept_is_a_run : {A D : Type 0} (rule : Rule A) (may_leave : D → List ℕ → Type 0) → KeptIsARun rule may_leave
kept_is_a_run rule may_leave start disk first from run kept left = ⊎_elim
    (λ untouched. inl (untouched.0, untouched.1 run.left left))
    (λ other. inr (record {
      few = few_had from (length run.before) other.0;
      kept = record {
        answered = other.1.answered;
        is_sent = other.1.is_sent;
        leaves = λ file same. other.1.leaves file (subst (may_leave disk) (sym same) left);
      };
    }))
    kept
