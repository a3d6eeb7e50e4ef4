-- How lines stop whose answers are written together.
use Rattle.std.proofs.Common.{◌≡◌, ℕ, ◌+◌, ◌-◌, ◌<◌, ◌≤◌, ◌⊎◌, inl, inr, true, false, List, [], ◌∷◌, ◌++◌, length, take, refl, ap, sym, ◌∙◌, append_assoc, arith, length-append, All}
use Rattle.std.proofs.lemmas.Bool.{true≢false}
use Rattle.std.proofs.lemmas.List.{append-nil, length-take-le, take-take}
use Rattle.std.proofs.lemmas.List.Elements.{All-nil, All-cons, All-head, All-tail}
use Rattle.std.proofs.Math.Seq.{take-append_seam, take-append-add}
use Rattle.request_lines.specs.declared.faults.ScriptFault.{ScriptFault}
use Rattle.request_lines.specs.declared.faults.ScriptFault.TheVariants.{Read, Write, NoMemory, LineTooLong}
use Rattle.request_lines.specs.Lines.{IsShort, last_line}
use Rattle.request_lines.specs.Answering.{Rule, Run, LinesRead, IsComplete, StopsAtWrite, GivesUpAtFirst, is_write_fault}
use Rattle.request_lines.specs.Together.{StopsAhead}
use Rattle.request_lines.specs.Inner.Ahead.{StopsTogether}
use Rattle.request_lines.specs.Inner.Chain.{Chain, chain_rule, chain_more}
use Rattle.request_lines.specs.Inner.Progress.{Stops, lines_from, whole_from, rest_from, read_from}
use Rattle.request_lines.proofs.ChainLemmas.{Begins, joined, cut}
use Rattle.request_lines.proofs.LinesLemmas.{lines_from-append}
use Rattle.request_lines.proofs.RunLemmas.{Joins}
use Rattle.request_lines.proofs.SeenRuns.{Shows, seen_run, left_seen}

all_first : {X : Type 0} (P : X → Type 0) (xs ys : List X) → All P (xs ++ ys) → All P xs
all_first P [] ys h = All-nil P
all_first P (x ∷ xs) ys h = All-cons P x xs (All-head P x (xs ++ ys) h) (all_first P xs ys (All-tail P x (xs ++ ys) h))

all_second : {X : Type 0} (P : X → Type 0) (xs ys : List X) → All P (xs ++ ys) → All P ys
all_second P [] ys h = h
all_second P (x ∷ xs) ys h = all_second P xs ys (All-tail P x (xs ++ ys) h)

-- ---- lines that stop, seen by another rule

pub stops_seen : {A B : Type 0} (rule : Rule A) (shown : Rule B) (seen : A → B) (Stays : A → Type 0) → Shows rule shown seen Stays → (read : LinesRead) (n w : ℕ) (fault : ScriptFault) (run : Run A) → Stays run.start →
    Stops rule read n w fault run → Stays run.now × Stops shown read n w fault (seen_run seen run)
stops_seen rule shown seen Stays shows read n w Read run s h = absurd h
stops_seen rule shown seen Stays shows read n w (Write count) run s h =
    let first = shows.answers run.start h.1.middle h.1.before h.1.text s h.1.answered in
    let last = shows.answers h.1.middle run.now (h.1.line ∷ []) h.1.answer first.0 h.1.answered_last in (
      last.0,
      (
        h.0,
        record {
          before = h.1.before;
          line = h.1.line;
          others = h.1.others;
          middle = seen h.1.middle;
          text = h.1.text;
          answer = h.1.answer;
          sent = h.1.sent;
          split = h.1.split;
          is_complete = h.1.is_complete;
          each_short = h.1.each_short;
          answered = first.1;
          answered_last = last.1;
          sent_is_less = h.1.sent_is_less;
          written_is = h.1.written_is;
        },
      ),
    )
stops_seen rule shown seen Stays shows read n w NoMemory run s h =
    let first = shows.answers run.start h.middle h.before run.written s h.answered in
    let left = left_seen rule shown seen Stays shows h.middle run.now h.others _ first.0 h.left in (
      left.0,
      record {
        before = h.before;
        others = h.others;
        middle = seen h.middle;
        split = h.split;
        before_complete = h.before_complete;
        each_short = h.each_short;
        answered = first.1;
        left = left.1;
      },
    )
stops_seen rule shown seen Stays shows read n w (LineTooLong number) run s h =
    let step = shows.answers run.start run.now h.2.before run.written s h.2.answered in (
      step.0,
      (
        h.0,
        h.1,
        record {
          before = h.2.before;
          line = h.2.line;
          others = h.2.others;
          split = h.2.split;
          number_is = h.2.number_is;
          each_short = h.2.each_short;
          is_long = h.2.is_long;
          answered = step.1;
        },
      ),
    )

-- ---- a writer that failed

-- The writer took the first bytes of the answers to these lines, after which memory may have run out.
pub stops_ahead : {A : Type 0} (rule : Rule A) → Joins rule → Begins rule → (a b now : A) (read : LinesRead) (lines others : List (List ℕ)) (text : List ℕ) (sent : ℕ) → Chain rule a lines text b → sent < length text →
    read.lines ≡ lines ++ others → ((place : ℕ) → place < length lines → IsComplete read place) → All IsShort lines → (now ≡ b) ⊎ (IsComplete read (length lines) × GivesUpAtFirst rule b others now) →
    (left : A) × StopsAhead rule read 0 (record { start = a; written = take sent text; now = left }) now
stops_ahead rule more none a b now read lines others text sent h less split complete short left =
    let c = cut rule more none a b lines text sent h less in
    let size : length lines ≡ length c.before + length c.further + 1 = ap length c.split ∙ length-append c.before (c.line ∷ c.further) ∙ omega arith in
    let each : All IsShort (c.before ++ c.line ∷ c.further) = rw c.split at short in
    let parted : All IsShort ((c.before ++ c.line ∷ []) ++ c.further) = rw (append_assoc c.before (c.line ∷ []) c.further) each in (
      c.left,
      record {
        stopped = record {
          before = c.before;
          line = c.line;
          others = c.further ++ others;
          middle = c.middle;
          text = c.text_before;
          answer = c.answer;
          sent = c.place;
          split = split ∙ ap (λ (ls : List (List ℕ)). ls ++ others) c.split ∙ append_assoc c.before (c.line ∷ c.further) others;
          is_complete = complete (length c.before) (omega (arith, size));
          each_short = all_first IsShort (c.before ++ c.line ∷ []) c.further parted;
          answered = c.answered;
          answered_last = c.answered_last;
          sent_is_less = c.place_is_less;
          written_is = c.sent_is;
        };
        further = c.further;
        others = others;
        middle = b;
        unwritten = c.unwritten;
        is_behind = omega arith;
        split = refl;
        further_complete = complete (length c.before + length c.further) (omega (arith, size));
        each_short = all_second IsShort (c.before ++ c.line ∷ []) c.further parted;
        answered = c.answered_further;
        left = rw size at left;
      },
    )

-- at a fault all that newlines end is complete, and at most one line is not
abbrev pub HasFewOpen : LinesRead → Type 0
HasFewOpen read = (length read.lines ≤ read.whole + 1) ⊎ read.at_end

complete_if_few : (read : LinesRead) (lines others : List (List ℕ)) (line : List ℕ) → HasFewOpen read → read.lines ≡ lines ++ line ∷ others → (place : ℕ) → place < length lines → IsComplete read place
complete_if_few read lines others line (inr end) split place less = inr end
complete_if_few read lines others line (inl few) split place less =
    let size : length read.lines ≡ length lines + (length others + 1) = ap length split ∙ length-append lines (line ∷ others) ∙ omega arith in inl (omega (arith, few, size, less))

last_line_few : (part : List ℕ) → length (last_line part) ≤ 1
last_line_few [] = omega arith
last_line_few (x ∷ part) = omega arith

pub whole_and_rest : (part bytes : List ℕ) → lines_from part bytes ≡ whole_from part bytes ++ last_line (rest_from part bytes)
whole_and_rest part bytes = ap (lines_from part) (sym (append-nil bytes)) ∙ lines_from-append part bytes []

pub few_open : (part bytes : List ℕ) → HasFewOpen (read_from part bytes)
few_open part bytes =
    let size : length (lines_from part bytes) ≡ length (whole_from part bytes) + length (last_line (rest_from part bytes)) = ap length (whole_and_rest part bytes) ∙ length-append (whole_from part bytes) (last_line (rest_from part bytes)) in
    inl (omega (arith, size, last_line_few (rest_from part bytes)))

-- Memory ran out or a line was too long, and then the writer failed at the answers before that.
pub fault_ahead : {A : Type 0} (rule : Rule A) → Joins rule → Begins rule → (read : LinesRead) (n w : ℕ) (fault : ScriptFault) (run : Run A) (sent : ℕ) → HasFewOpen read → is_write_fault fault ≡ false →
    Stops (chain_rule rule) read n w fault run → sent < length run.written → (left : A) × StopsAhead rule read 0 (record { start = run.start; written = take sent run.written; now = left }) run.now
fault_ahead rule more none read n w Read run sent few e h less = absurd h
fault_ahead rule more none read n w (Write count) run sent few e h less = absurd (true≢false e)
fault_ahead rule more none read n w NoMemory run sent few e h less =
    stops_ahead rule more none run.start h.middle run.now read h.before h.others run.written sent h.answered less h.split h.before_complete h.each_short h.left
fault_ahead rule more none read n w (LineTooLong number) run sent few e h less =
    stops_ahead rule more none run.start run.now run.now read h.2.before (h.2.line ∷ h.2.others) run.written sent h.2.answered less h.2.split
    (complete_if_few read h.2.before h.2.others h.2.line few h.2.split) h.2.each_short (inl refl)

earlier_complete : (read : LinesRead) (place last : ℕ) → place ≤ last → IsComplete read last → IsComplete read place
earlier_complete read place last le (inl h) = inl (omega (arith, le, h))
earlier_complete read place last le (inr h) = inr h

-- the first bytes of others
first_of : (given waits text answer : List ℕ) (sent : ℕ) → text ++ take sent answer ≡ given ++ waits → sent < length answer → (length given < length (text ++ answer)) × (take (length given) (text ++ answer) ≡ given)
first_of given waits text answer sent e less =
    let size : length (take sent answer) ≡ sent = length-take-le sent answer (omega (arith, less)) in
    let all : length text + length (take sent answer) ≡ length given + length waits = sym (length-append text (take sent answer)) ∙ ap length e ∙ length-append given waits in
    let few : length given ≤ length text + sent = omega (arith, size, all) in
    let whole : take (length text + sent) (text ++ answer) ≡ given ++ waits = take-append-add text answer sent ∙ e in
    let less_all : length given < length (text ++ answer) = (let sum = length-append text answer in omega (arith, few, less, sum)) in
    (less_all, sym (take-take (length given) (length text + sent) (text ++ answer) few) ∙ ap (take (length given)) whole ∙ take-append_seam given waits)

-- the writer failed while it took bytes that were to be written together
pub write_ahead : {A : Type 0} (rule : Rule A) → Joins rule → Begins rule → (read : LinesRead) (run : Run A) (given waits : List ℕ) → StopsAtWrite (chain_rule rule) read run → run.written ≡ given ++ waits →
    (left : A) × StopsAhead rule read 0 (record { start = run.start; written = given; now = left }) run.now
write_ahead {A = A} rule more none read run given waits h e =
    let f = first_of given waits h.text h.answer h.sent (sym h.written_is ∙ e) h.sent_is_less in
    let size = length-append h.before (h.line ∷ []) in
    let chain = chain_more rule run.start h.middle run.now h.before (h.line ∷ []) h.text h.answer h.answered h.answered_last in
    let ahead = stops_ahead rule more none run.start run.now run.now read (h.before ++ h.line ∷ []) h.others (h.text ++ h.answer) (length given) chain f.0
    (h.split ∙ sym (append_assoc h.before (h.line ∷ []) h.others)) (λ place less. earlier_complete read place (length h.before) (omega (arith, less, size)) h.is_complete) h.each_short (inl refl) in
    (ahead.0, rw f.1 at ahead.1)

-- ---- a writer that took all

pub stops_together : {A : Type 0} (rule : Rule A) → Joins rule → Begins rule → (read : LinesRead) (n w : ℕ) (fault : ScriptFault) (run : Run A) → is_write_fault fault ≡ false → Stops (chain_rule rule) read n w fault run →
    StopsTogether rule read n w fault run run.now
stops_together rule more none read n w Read run e h = absurd h
stops_together rule more none read n w (Write count) run e h = absurd (true≢false e)
stops_together rule more none read n w NoMemory run e h = (
  refl,
  record {
    before = h.before;
    others = h.others;
    middle = h.middle;
    split = h.split;
    before_complete = h.before_complete;
    each_short = h.each_short;
    answered = joined rule more none run.start h.middle h.before run.written h.answered;
    left = h.left;
  },
)
stops_together rule more none read n w (LineTooLong number) run e h = (
  refl,
  (
    h.0,
    h.1,
    record {
      before = h.2.before;
      line = h.2.line;
      others = h.2.others;
      split = h.2.split;
      number_is = h.2.number_is;
      each_short = h.2.each_short;
      is_long = h.2.is_long;
      answered = joined rule more none run.start run.now h.2.before run.written h.2.answered;
    },
  ),
)
