-- A run by one rule, seen as a run by another.
use Rattle.std.proofs.Common.{◌≡◌, ℕ, ◌⊎◌, inl, inr, Bool, List, [], ◌∷◌, ap, ◌∙◌, Result, Ok, Err, MatchResult}
use Rattle.ocpi_types.specs.declared.config.Config.{Config}
use Rattle.plain_house.specs.declared.event.Event.{Event}
use Rattle.request_lines.specs.declared.faults.Count.{Count}
use Rattle.request_lines.specs.declared.faults.ScriptFault.{ScriptFault}
use Rattle.request_lines.specs.declared.faults.ScriptFault.TheVariants.{Read, Write, NoMemory, LineTooLong}
use Rattle.request_lines.specs.Answering.{Rule, Run, Input, AreAllAnswered, IsFault, GivesUpAtFirst}
use Rattle.request_lines.specs.Script.{after, answers_to, list_after, script_rule}
use Rattle.request_lines.specs.Inner.InTurn.{AnswersInTurn}

-- the states where some fact stays are seen as states of another rule
pub record Shows {A B : Type 0} (rule : Rule A) (shown : Rule B) (seen : A → B) (Stays : A → Type 0) : Type 0 where
  pub answers : (a b : A) (lines : List (List ℕ)) (text : List ℕ) → Stays a → rule.answers a lines text b → Stays b × shown.answers (seen a) lines text (seen b)
  pub gives_up : (a b : A) (line : List ℕ) → Stays a → rule.gives_up a line b → Stays b × shown.gives_up (seen a) line (seen b)

abbrev pub seen_run : {A B : Type 0} → (A → B) → Run A → Run B
seen_run seen run = record { start = seen run.start; written = run.written; now = seen run.now }

gave_up_first : {A B : Type 0} (rule : Rule A) (shown : Rule B) (seen : A → B) (Stays : A → Type 0) → Shows rule shown seen Stays → (a b : A) (others : List (List ℕ)) → Stays a → GivesUpAtFirst rule a others b →
    Stays b × GivesUpAtFirst shown (seen a) others (seen b)
gave_up_first rule shown seen Stays shows a b [] s h = absurd h
gave_up_first rule shown seen Stays shows a b (line ∷ others) s h = shows.gives_up a b line s h

pub left_seen : {A B : Type 0} (rule : Rule A) (shown : Rule B) (seen : A → B) (Stays : A → Type 0) → Shows rule shown seen Stays → (a b : A) (others : List (List ℕ)) (complete : Type 0) → Stays a →
    (b ≡ a) ⊎ (complete × GivesUpAtFirst rule a others b) → Stays b × ((seen b ≡ seen a) ⊎ (complete × GivesUpAtFirst shown (seen a) others (seen b)))
left_seen rule shown seen Stays shows a b others complete s (inl e) = (rw e s, inl (ap seen e))
left_seen rule shown seen Stays shows a b others complete s (inr h) =
    let g = gave_up_first rule shown seen Stays shows a b others s h.1 in (g.0, inr (h.0, g.1))

pub done_seen : {A B : Type 0} (rule : Rule A) (shown : Rule B) (seen : A → B) (Stays : A → Type 0) → Shows rule shown seen Stays → (bytes : List ℕ) (run : Run A) (count : Count) → Stays run.start → AreAllAnswered rule bytes run count →
    Stays run.now × AreAllAnswered shown bytes (seen_run seen run) count
done_seen rule shown seen Stays shows bytes run count s h =
    let step = shows.answers run.start run.now _ run.written s h.answered in
    (step.0, record { answered = step.1; each_short = h.each_short; lines_is = h.lines_is; bytes_is = h.bytes_is })

pub fault_seen : {A B : Type 0} (rule : Rule A) (shown : Rule B) (seen : A → B) (Stays : A → Type 0) → Shows rule shown seen Stays → (input : Input) (run : Run A) (fault : ScriptFault) → Stays run.start → IsFault rule input run fault →
    Stays run.now × IsFault shown input (seen_run seen run) fault
fault_seen rule shown seen Stays shows input run Read s h =
    let step = shows.answers run.start run.now _ run.written s h.answered in
    (step.0, record { answered = step.1; each_short = h.each_short; cause = h.cause })
fault_seen rule shown seen Stays shows input run (Write count) s h =
    let first = shows.answers run.start h.1.middle h.1.before h.1.text s h.1.answered in
    let last = shows.answers h.1.middle run.now (h.1.line ∷ []) h.1.answer first.0 h.1.answered_last in (
      last.0,
      (
        h.0,
        record {
          before = h.1.before;
          line = h.1.line;
          others = h.1.others;
          middle = seen h.1.middle;
          text = h.1.text;
          answer = h.1.answer;
          sent = h.1.sent;
          split = h.1.split;
          is_complete = h.1.is_complete;
          each_short = h.1.each_short;
          answered = first.1;
          answered_last = last.1;
          sent_is_less = h.1.sent_is_less;
          written_is = h.1.written_is;
        },
      ),
    )
fault_seen rule shown seen Stays shows input run NoMemory s h =
    let first = shows.answers run.start h.middle h.before run.written s h.answered in
    let left = left_seen rule shown seen Stays shows h.middle run.now h.others _ first.0 h.left in (
      left.0,
      record {
        before = h.before;
        others = h.others;
        middle = seen h.middle;
        split = h.split;
        before_complete = h.before_complete;
        each_short = h.each_short;
        answered = first.1;
        left = left.1;
      },
    )
fault_seen rule shown seen Stays shows input run (LineTooLong number) s h =
    let step = shows.answers run.start run.now h.before run.written s h.answered in (
      step.0,
      record {
        before = h.before;
        line = h.line;
        others = h.others;
        split = h.split;
        number_is = h.number_is;
        each_short = h.each_short;
        is_long = h.is_long;
        answered = step.1;
      },
    )

pub stays : {A B : Type 0} (rule : Rule A) (shown : Rule B) (seen : A → B) (Stays : A → A → Type 0) → ((s : A) → Shows rule shown seen (Stays s)) → (result : Result Count ScriptFault) (calls : ℕ) (bytes : List ℕ) (has_failed : Bool) (at_end : Type 0) (start now : A) (written : List ℕ) →
    MatchResult result (λ count. AreAllAnswered rule bytes (record { start = start; written = written; now = now }) count)
    (λ fault. IsFault rule (record { calls = calls; bytes = bytes; has_failed = has_failed; at_end = at_end }) (record { start = start; written = written; now = now }) fault) → Stays start start → Stays start now
stays rule shown seen Stays shows (Ok count) calls bytes has_failed at_end start now written h s =
    (done_seen rule shown seen (Stays start) (shows start) bytes (record { start = start; written = written; now = now }) count s h).0
stays rule shown seen Stays shows (Err fault) calls bytes has_failed at_end start now written h s =
    (fault_seen rule shown seen (Stays start) (shows start) (record { calls = calls; bytes = bytes; has_failed = has_failed; at_end = at_end }) (record { start = start; written = written; now = now }) fault s h).0

pub told_seen : {A B : Type 0} (rule : Rule A) (shown : Rule B) (seen : A → B) (Stays : A → A → Type 0) → ((s : A) → Shows rule shown seen (Stays s)) → (result : Result Count ScriptFault) (calls : ℕ) (bytes : List ℕ) (has_failed : Bool) (at_end : Type 0) (start now : A) (written : List ℕ) (left : B) →
    MatchResult result (λ count. AreAllAnswered rule bytes (record { start = start; written = written; now = now }) count)
    (λ fault. IsFault rule (record { calls = calls; bytes = bytes; has_failed = has_failed; at_end = at_end }) (record { start = start; written = written; now = now }) fault) → Stays start start → left ≡ seen now →
    MatchResult result (λ count. AreAllAnswered shown bytes (record { start = seen start; written = written; now = left }) count)
    (λ fault. IsFault shown (record { calls = calls; bytes = bytes; has_failed = has_failed; at_end = at_end }) (record { start = seen start; written = written; now = left }) fault)
told_seen rule shown seen Stays shows (Ok count) calls bytes has_failed at_end start now written left h s e =
    rw e (done_seen rule shown seen (Stays start) (shows start) bytes (record { start = start; written = written; now = now }) count s h).1
told_seen rule shown seen Stays shows (Err fault) calls bytes has_failed at_end start now written left h s e =
    rw e (fault_seen rule shown seen (Stays start) (shows start) (record { calls = calls; bytes = bytes; has_failed = has_failed; at_end = at_end }) (record { start = start; written = written; now = now }) fault s h).1

-- ---- a house

-- a configuration that equals the first one answers as that one does
pub in_turn_at : (first config config' : Config) (events : List Event) (lines : List (List ℕ)) (text : List ℕ) (left : List Event) → config ≡ first → AnswersInTurn config config' events lines text left →
    (config' ≡ first) × (script_rule first).answers events lines text left
in_turn_at first config config' events lines text left e h =
    (h.0 ∙ e, (h.1 ∙ ap (λ (c : Config). answers_to c events lines) e, h.2 ∙ ap (λ (c : Config). list_after c events lines) e))

pub at_fault_at : (first config config' : Config) (events : List Event) (line : List ℕ) (left : List Event) → config ≡ first → config' ≡ config → (left ≡ events) ⊎ (left ≡ after config events line) →
    (config' ≡ first) × (script_rule first).gives_up events line left
at_fault_at first config config' events line left e f (inl h) = (f ∙ e, inl h)
at_fault_at first config config' events line left e f (inr h) = (f ∙ e, inr (h ∙ ap (λ (c : Config). after c events line) e))
