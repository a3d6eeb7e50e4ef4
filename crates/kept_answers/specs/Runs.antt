-- Runs of one stream over one store, each after the crash that ended the one before.
use Rattle.std.specs.Prelude.{◌≡◌, ◌≤◌, ◌+◌, ◌⊎◌, ℕ, List, [], ◌∷◌, ◌++◌, length, take, drop, Option}
use Rattle.ocpi_types.specs.declared.config.Config.{Config}
use Rattle.request_lines.specs.Answering.{Rule}
use Rattle.request_lines.specs.Script.{answers_to, script_rule}
use Rattle.kept_batches.specs.Verdict.{kept_in}
use Rattle.kept_answers.specs.Keeping.{HasKept, IsKept, answers_had, greeting}
use Rattle.kept_answers.specs.Kept.{Begins}

-- the rule answers lines in one way, and lines in turn
pub record IsDetermined {A : Type 0} (rule : Rule A) : Type 0 where
  pub one_way : (start : A) (lines : List (List ℕ)) (text other : List ℕ) (end last : A) → rule.answers start lines text end → rule.answers start lines other last → (text ≡ other) × (end ≡ last)
  pub no_lines : (start : A) → rule.answers start [] [] start
  pub more_lines : (start middle end : A) (some others : List (List ℕ)) (text more : List ℕ) → rule.answers start some text middle → rule.answers middle others more end → rule.answers start (some ++ others) (text ++ more) end

-- the rule leads lines to one state, and answers lines in turn
pub record LeadsOneWay {A : Type 0} (rule : Rule A) : Type 0 where
  pub one_end : (start : A) (lines : List (List ℕ)) (text other : List ℕ) (end last : A) → rule.answers start lines text end → rule.answers start lines other last → end ≡ last
  pub no_lines : (start : A) → rule.answers start [] [] start
  pub more_lines : (start middle end : A) (some others : List (List ℕ)) (text more : List ℕ) → rule.answers start some text middle → rule.answers middle others more end → rule.answers start (some ++ others) (text ++ more) end

-- a run: the lines from before, the new ones, what was sent, the content that the crash at its end left, and the answers that came to
-- the client whole, with their number
pub record Run : Type 0 where
  pub before : List (List ℕ)
  pub new : List (List ℕ)
  pub sent : List ℕ
  pub left : List ℕ
  pub received : ℕ
  pub came : List ℕ

-- what `keep` promises of a run whose client has the first `had` answers
pub record IsRunKept {A : Type 0} (rule : Rule A) (start : A) (first : List ℕ) (had : ℕ) (run : Run) : Type 0 where
  pub few : had ≤ length run.before
  pub kept : HasKept rule start (λ file. file ≡ run.left) first run.before run.new had run.sent

-- after the first `had` answers, those to the next lines came to the client whole: after the greeting they begin what was sent
pub record HaveCome {A : Type 0} (rule : Rule A) (start : A) (first : List ℕ) (had : ℕ) (run : Run) : Type 0 where
  pub text : List ℕ
  pub middle : A
  pub end : A
  pub answered_before : rule.answers start (take had run.before) text middle
  pub answered : rule.answers middle (take run.received (drop had (run.before ++ run.new))) run.came end
  pub began : Begins (greeting first run.before ++ run.came) run.sent

-- a run, and what came to the client: nothing, or answers of which `keep` had begun each
pub record HasRun {A : Type 0} (rule : Rule A) (start : A) (first : List ℕ) (had : ℕ) (run : Run) : Type 0 where
  pub promised : IsRunKept rule start first had run
  pub came : ((run.received ≡ 0) × (run.came ≡ [])) ⊎ ((run.received ≤ promised.kept.answered) × HaveCome rule start first had run)

-- whatever content a crash leaves of a call of `keep`: nothing was sent and the store is as it was, or the call was such a run
abbrev pub KeptIsARun : {A D : Type 0} → Rule A → (D → List ℕ → Type 0) → Type 0
KeptIsARun {A} {D} rule may_leave =
    (start : A) (disk : D) (first : List ℕ) (from : Option ℕ) (run : Run) →
    IsKept rule start (may_leave disk) (first ∷ run.before) run.new from run.sent → may_leave disk run.left →
    ((run.sent ≡ []) × (kept_in run.left ≡ first ∷ run.before)) ⊎ IsRunKept rule start first (answers_had from) run

-- runs one after another: each begins with what the crash before it left, and says truly how many answers the client has
abbrev pub AreRuns : {A : Type 0} → Rule A → A → List ℕ → List ℕ → ℕ → List Run → Type 0
AreRuns rule start first file had [] = Unit {0}
AreRuns rule start first file had (run ∷ later) =
    (kept_in file ≡ first ∷ run.before) × HasRun rule start first had run × AreRuns rule start first run.left (had + run.received) later

-- what came to the client in all runs together
abbrev pub all_received : List Run → List ℕ
all_received [] = []
all_received (run ∷ later) = run.came ++ all_received later

-- how many answers that were
abbrev pub count_received : List Run → ℕ
count_received [] = 0
count_received (run ∷ later) = run.received + count_received later

-- the content that the last crash left
abbrev pub last_left : List ℕ → List Run → List ℕ
last_left file [] = file
last_left file (run ∷ later) = last_left run.left later

-- Over a store that begins without lines, what the client received in all runs together answers the first lines that the last crash
-- left: each answer once, in order, and of a line that is still there.
abbrev pub RunsAreOne : {A : Type 0} → Rule A → Type 0
RunsAreOne {A} rule =
    (start : A) (first file : List ℕ) (runs : List Run) → LeadsOneWay rule → kept_in file ≡ first ∷ [] → AreRuns rule start first file 0 runs →
    (lines : List (List ℕ)) × (kept_in (last_left file runs) ≡ first ∷ lines) × (count_received runs ≤ length lines)
    × ((end : A) × rule.answers start (take (count_received runs) lines) (all_received runs) end)

-- a script answers its lines in one way
abbrev pub ScriptsAreDetermined : Type 0
ScriptsAreDetermined = (config : Config) → IsDetermined (script_rule config)

-- What the client of a script received in all runs together are the script's answers to the first lines that the last crash left: each
-- answer once, in order, and of a line that is still there.
abbrev pub ScriptRunsAreOne : Type 0
ScriptRunsAreOne =
    (config : Config) (first file : List ℕ) (runs : List Run) →
    kept_in file ≡ first ∷ [] → AreRuns (script_rule config) [] first file 0 runs →
    (lines : List (List ℕ)) × (kept_in (last_left file runs) ≡ first ∷ lines) × (count_received runs ≤ length lines)
    × (all_received runs ≡ answers_to config [] (take (count_received runs) lines))
