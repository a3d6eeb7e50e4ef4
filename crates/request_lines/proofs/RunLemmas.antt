-- How answered lines go on and end.
use Rattle.std.proofs.Common.{◌≡◌, ℕ, ◌+◌, ◌-◌, ◌^◌, ◌<◌, ◌≤◌, ◌⊎◌, inl, inr, true, List, [], ◌∷◌, ◌++◌, length, take, refl, ap, sym, ◌∙◌, append_assoc, arith, length-append, All}
use Rattle.std.proofs.lemmas.Bool.{true≢false}
use Rattle.std.proofs.lemmas.List.{append-nil}
use Rattle.std.proofs.lemmas.List.Elements.{All-nil, All-cons, All-append}
use Rattle.request_lines.specs.declared.progress.Progress.{Progress}
use Rattle.request_lines.specs.declared.faults.ScriptFault.{ScriptFault}
use Rattle.request_lines.specs.declared.faults.ScriptFault.TheVariants.{Read, Write, NoMemory, LineTooLong}
use Rattle.request_lines.specs.Lines.{lines_of, whole_lines, last_line, IsShort, HasNoNewline, with_newline}
use Rattle.request_lines.specs.Answering.{Rule, Run, Input, LinesRead, IsComplete, lines_read, AreAllAnswered, IsFault, StopsAtRead, StopsAtWrite, StopsForMemory, is_write_fault}
use Rattle.request_lines.specs.Inner.Progress.{Stops, CannotKeep, IsUnderWay, lines_from, whole_from, rest_from, read_from, read_line, read_last}
use Rattle.request_lines.proofs.LinesLemmas.{whole_from-append, rest_from-append, lines_from-append, whole_from_start, lines_from_start, lines_end, first_line_of}
use Rattle.request_lines.proofs.LineLaws.{whole-line, rest-line, lines-line, whole-none, rest-none, lines-none}

-- answers that follow one another are answers
abbrev pub Joins : {A : Type 0} → Rule A → Type 0
Joins {A = A} rule = (a b c : A) (ls ms : List (List ℕ)) (t u : List ℕ) → rule.answers a ls t b → rule.answers b ms u c → rule.answers a (ls ++ ms) (t ++ u) c

pub rest_step : (p xs ys part : List ℕ) → part ≡ rest_from p xs → rest_from p (xs ++ ys) ≡ rest_from part ys
rest_step p xs ys part f = rw f (rest_from-append p xs ys)

pub whole_step : (p xs ys part : List ℕ) → part ≡ rest_from p xs → whole_from p (xs ++ ys) ≡ whole_from p xs ++ whole_from part ys
whole_step p xs ys part f = rw f (whole_from-append p xs ys)

pub lines_step : (p xs ys part : List ℕ) → part ≡ rest_from p xs → lines_from p (xs ++ ys) ≡ whole_from p xs ++ lines_from part ys
lines_step p xs ys part f = rw f (lines_from-append p xs ys)

pub length_step : (p xs ys part : List ℕ) → part ≡ rest_from p xs → length (whole_from p (xs ++ ys)) ≡ length (whole_from p xs) + length (whole_from part ys)
length_step p xs ys part f = ap length (whole_step p xs ys part f) ∙ length-append (whole_from p xs) (whole_from part ys)

pub each_step : (p xs ys part : List ℕ) → part ≡ rest_from p xs → All IsShort (whole_from p xs) → All IsShort (whole_from part ys) → All IsShort (whole_from p (xs ++ ys))
each_step p xs ys part f a b = rw (whole_step p xs ys part f) (All-append IsShort (whole_from p xs) (whole_from part ys) a b)

pub one_short : (line : List ℕ) → IsShort line → All IsShort (line ∷ [])
one_short line h = All-cons IsShort line [] h (All-nil IsShort)

pub last_short : (part : List ℕ) → IsShort part → All IsShort (last_line part)
last_short [] h = All-nil IsShort
last_short (x ∷ part) h = one_short (x ∷ part) h

-- bytes with no newline are kept behind a part
pub whole_kept : (p xs ys part bytes : List ℕ) → bytes ≡ xs ++ ys → part ≡ rest_from p xs → HasNoNewline ys → whole_from p bytes ≡ whole_from p xs
whole_kept p xs ys part bytes cut f none =
    ap (whole_from p) cut ∙ whole_step p xs ys part f ∙ ap (λ (ls : List (List ℕ)). whole_from p xs ++ ls) (whole-none part ys none) ∙ append-nil (whole_from p xs)

pub rest_kept : (p xs ys part bytes : List ℕ) → bytes ≡ xs ++ ys → part ≡ rest_from p xs → HasNoNewline ys → rest_from p bytes ≡ part ++ ys
rest_kept p xs ys part bytes cut f none = ap (rest_from p) cut ∙ rest_step p xs ys part f ∙ rest-none part ys none

-- a newline ends a line behind a part of it
pub whole_ended : (p xs line part : List ℕ) → part ≡ rest_from p xs → HasNoNewline line → whole_from p (xs ++ with_newline line) ≡ whole_from p xs ++ (part ++ line) ∷ []
whole_ended p xs line part f none =
    whole_step p xs (with_newline line) part f
    ∙ ap (λ (ys : List ℕ). whole_from p xs ++ whole_from part ys) (sym (append-nil (with_newline line)))
    ∙ ap (λ (ls : List (List ℕ)). whole_from p xs ++ ls) (whole-line part line [] none)

pub rest_ended : (p xs line part : List ℕ) → part ≡ rest_from p xs → HasNoNewline line → rest_from p (xs ++ with_newline line) ≡ []
rest_ended p xs line part f none =
    rest_step p xs (with_newline line) part f ∙ ap (rest_from part) (sym (append-nil (with_newline line))) ∙ rest-line part line [] none

-- ---- which lines are complete

pub complete_weaker : (m n m' n' : ℕ) (E F : Type 0) → (m < n → m' < n') → (E → F) → (m < n) ⊎ E → (m' < n') ⊎ F
complete_weaker m n m' n' E F f e (inl h) = inl (f h)
complete_weaker m n m' n' E F f e (inr h) = inr (e h)

-- lines that stop do so where at least the same ones are complete
pub stops_in : {A : Type 0} (rule : Rule A) (old new : LinesRead) (n w : ℕ) (fault : ScriptFault) (run : Run A) → new.lines ≡ old.lines → ((place : ℕ) → IsComplete old place → IsComplete new place) →
    Stops rule old n w fault run → Stops rule new n w fault run
stops_in rule old new n w Read run e f h = h
stops_in rule old new n w (Write count) run e f h = (
  h.0,
  record {
    before = h.1.before;
    line = h.1.line;
    others = h.1.others;
    middle = h.1.middle;
    text = h.1.text;
    answer = h.1.answer;
    sent = h.1.sent;
    split = e ∙ h.1.split;
    is_complete = f (length h.1.before) h.1.is_complete;
    each_short = h.1.each_short;
    answered = h.1.answered;
    answered_last = h.1.answered_last;
    sent_is_less = h.1.sent_is_less;
    written_is = h.1.written_is;
  },
)
stops_in rule old new n w NoMemory run e f h = record {
  before = h.before;
  others = h.others;
  middle = h.middle;
  split = e ∙ h.split;
  before_complete = λ place less. f place (h.before_complete place less);
  each_short = h.each_short;
  answered = h.answered;
  left = elim h.left [ inl k ↦ inl k | inr k ↦ inr (f (length h.before) k.0, k.1) ];
}
stops_in rule old new n w (LineTooLong number) run e f h = (
  h.0,
  h.1,
  record {
    before = h.2.before;
    line = h.2.line;
    others = h.2.others;
    split = e ∙ h.2.split;
    number_is = h.2.number_is;
    each_short = h.2.each_short;
    is_long = h.2.is_long;
    answered = h.2.answered;
  },
)

-- ---- earlier lines

-- these lines behind others that newlines end
abbrev pub read_behind : List (List ℕ) → LinesRead → LinesRead
read_behind xs read = record { lines = xs ++ read.lines; whole = length xs + read.whole; at_end = read.at_end }

complete_later : (xs : List (List ℕ)) (read : LinesRead) (place place' : ℕ) → place' ≡ length xs + place → IsComplete read place → IsComplete (read_behind xs read) place'
complete_later xs read place place' e h =
    complete_weaker place read.whole place' (length xs + read.whole) read.at_end read.at_end (λ k. omega (arith, e, k)) (λ k. k) h

complete_before : (xs : List (List ℕ)) (read : LinesRead) (m place : ℕ) → ((n : ℕ) → n < m → IsComplete read n) → place < length xs + m → (length xs ≤ place) ⊎ (place < length xs) → IsComplete (read_behind xs read) place
complete_before xs read m place h less (inr k) = inl (omega (arith, k))
complete_before xs read m place h less (inl k) =
    let rest : (n : ℕ) × (place ≡ length xs + n) = (place - length xs, omega (arith, k)) in
    complete_later xs read rest.0 place rest.1 (h rest.0 (omega (arith, less, rest.1)))

le_or_less : (m n : ℕ) → (m ≤ n) ⊎ (n < m)
le_or_less m n = grind arith

-- lines that stop do so behind earlier lines too
pub stops_later : {A : Type 0} (rule : Rule A) → Joins rule → (a b c : A) (xs : List (List ℕ)) (read : LinesRead) (n w : ℕ) (fault : ScriptFault) (text written : List ℕ) → rule.answers a xs text b → All IsShort xs →
    Stops rule read (n + length xs) (w + length text) fault (record { start = b; written = written; now = c }) →
    Stops rule (read_behind xs read) n w fault (record { start = a; written = text ++ written; now = c })
stops_later rule more a b c xs read n w Read text written first short h = h
stops_later rule more a b c xs read n w (Write count) text written first short h = (
  omega (arith, h.0, length-append text written),
  record {
    before = xs ++ h.1.before;
    line = h.1.line;
    others = h.1.others;
    middle = h.1.middle;
    text = text ++ h.1.text;
    answer = h.1.answer;
    sent = h.1.sent;
    split = ap (λ (ls : List (List ℕ)). xs ++ ls) h.1.split ∙ sym (append_assoc xs h.1.before (h.1.line ∷ h.1.others));
    is_complete = complete_later xs read (length h.1.before) (length (xs ++ h.1.before)) (length-append xs h.1.before) h.1.is_complete;
    each_short = rw (append_assoc xs h.1.before (h.1.line ∷ [])) (All-append IsShort xs (h.1.before ++ h.1.line ∷ []) short h.1.each_short);
    answered = more a b h.1.middle xs h.1.before text h.1.text first h.1.answered;
    answered_last = h.1.answered_last;
    sent_is_less = h.1.sent_is_less;
    written_is = ap (λ (t : List ℕ). text ++ t) h.1.written_is ∙ sym (append_assoc text h.1.text (take h.1.sent h.1.answer));
  },
)
stops_later rule more a b c xs read n w NoMemory text written first short h = record {
  before = xs ++ h.before;
  others = h.others;
  middle = h.middle;
  split = ap (λ (ls : List (List ℕ)). xs ++ ls) h.split ∙ sym (append_assoc xs h.before h.others);
  before_complete = λ place less. complete_before xs read (length h.before) place h.before_complete (omega (arith, less, length-append xs h.before)) (le_or_less (length xs) place);
  each_short = All-append IsShort xs h.before short h.each_short;
  answered = more a b h.middle xs h.before text written first h.answered;
  left = elim h.left [
    | inl k ↦ inl k
    | inr k ↦ inr (complete_later xs read (length h.before) (length (xs ++ h.before)) (length-append xs h.before) k.0, k.1)
  ];
}
stops_later rule more a b c xs read n w (LineTooLong number) text written first short h = (
  length xs + h.0,
  omega (arith, h.1),
  record {
    before = xs ++ h.2.before;
    line = h.2.line;
    others = h.2.others;
    split = ap (λ (ls : List (List ℕ)). xs ++ ls) h.2.split ∙ sym (append_assoc xs h.2.before (h.2.line ∷ h.2.others));
    number_is = omega (arith, h.2.number_is, length-append xs h.2.before);
    each_short = All-append IsShort xs h.2.before short h.2.each_short;
    is_long = h.2.is_long;
    answered = more a b c xs h.2.before text written first h.2.answered;
  },
)

-- bytes that stop behind these do so from the start
pub stops_after : {A : Type 0} (rule : Rule A) → Joins rule → (a b c : A) (p bytes xs ys part : List ℕ) (n n' w w' : ℕ) (fault : ScriptFault) (text written : List ℕ) → bytes ≡ xs ++ ys →
    rule.answers a (whole_from p xs) text b → All IsShort (whole_from p xs) → part ≡ rest_from p xs → n' ≡ n + length (whole_from p xs) → w' ≡ w + length text →
    Stops rule (read_from part ys) n' w' fault (record { start = b; written = written; now = c }) →
    Stops rule (read_from p bytes) n w fault (record { start = a; written = text ++ written; now = c })
stops_after rule more a b c p bytes xs ys part n n' w w' fault text written cut first short f l t h =
    let later : Stops rule (read_from part ys) (n + length (whole_from p xs)) (w + length text) fault (record { start = b; written = written; now = c }) = rw (← l, ← t) h in
    let size : length (whole_from p bytes) ≡ length (whole_from p xs) + length (whole_from part ys) = ap (λ (bs : List ℕ). length (whole_from p bs)) cut ∙ length_step p xs ys part f in
    stops_in rule (read_behind (whole_from p xs) (read_from part ys)) (read_from p bytes) n w fault (record { start = a; written = text ++ written; now = c })
    (ap (lines_from p) cut ∙ lines_step p xs ys part f)
    (λ place. complete_weaker place (length (whole_from p xs) + length (whole_from part ys)) place (length (whole_from p bytes)) ⊥ ⊥ (λ k. omega (arith, k, size)) (λ k. k))
    (stops_later rule more a b c (whole_from p xs) (read_from part ys) n w fault text written first short later)

-- ---- one line

-- the line that a newline ends stops
pub stops_at_line : {A : Type 0} (rule : Rule A) (part end line : List ℕ) (n w : ℕ) (fault : ScriptFault) (run : Run A) → HasNoNewline end → line ≡ part ++ end → (others : List ℕ) →
    Stops rule (read_line line (lines_from [] others)) n w fault run → Stops rule (read_from part (with_newline end ++ others)) n w fault run
stops_at_line rule part end line n w fault run none e others h =
    let bytes = with_newline end ++ others in
    let same : lines_from part bytes ≡ line ∷ lines_from [] others = rw e (lines-line part end others none) in
    let size : length (whole_from part bytes) ≡ length (whole_from [] others) + 1 = rw (whole-line part end others none) (omega arith) in
    stops_in rule (read_line line (lines_from [] others)) (read_from part bytes) n w fault run same
    (λ place. complete_weaker place 1 place (length (whole_from part bytes)) ⊥ ⊥ (λ k. omega (arith, k, size)) (λ k. k)) h

-- a last line without a newline stops
pub stops_at_last : {A : Type 0} (rule : Rule A) (part : List ℕ) (n w : ℕ) (fault : ScriptFault) (run : Run A) → 0 < length part →
    Stops rule (read_line part []) n w fault run → Stops rule (read_last part) n w fault run
stops_at_last rule [] n w fault run some h = absurd (omega arith)
stops_at_last rule (x ∷ part) n w fault run some h =
    stops_in rule (read_line (x ∷ part) []) (read_last (x ∷ part)) n w fault run refl (λ place k. inr tt) h

pub stops_for_memory : {A : Type 0} (rule : Rule A) (a : A) (read : LinesRead) → rule.answers a [] [] a → StopsForMemory rule read (record { start = a; written = []; now = a })
stops_for_memory rule a read none = record {
  before = [];
  others = read.lines;
  middle = a;
  split = refl;
  before_complete = λ place less. absurd (omega (arith, less));
  each_short = All-nil IsShort;
  answered = none;
  left = inl refl;
}

-- keeping bytes is no write
pub keeping_writes_none : (line : List ℕ) (n : ℕ) (fault : ScriptFault) → CannotKeep line n fault → is_write_fault fault ≡ true → ⊥
keeping_writes_none line n Read h e = h
keeping_writes_none line n (Write count) h e = h
keeping_writes_none line n NoMemory h e = true≢false (sym e)
keeping_writes_none line n (LineTooLong number) h e = true≢false (sym e)

-- more bytes of a line that are not kept stop
pub stops_at_keep : {A : Type 0} (rule : Rule A) (a : A) (part bytes : List ℕ) (n w : ℕ) (fault : ScriptFault) → rule.answers a [] [] a → HasNoNewline bytes → CannotKeep (part ++ bytes) n fault →
    (others : List ℕ) → Stops rule (read_from part (bytes ++ others)) n w fault (record { start = a; written = []; now = a })
stops_at_keep rule a part bytes n w Read first none h others = absurd h
stops_at_keep rule a part bytes n w (Write count) first none h others = absurd h
stops_at_keep rule a part bytes n w NoMemory first none h others = stops_for_memory rule a (read_from part (bytes ++ others)) first
stops_at_keep rule a part bytes n w (LineTooLong number) first none h others =
    let r = first_line_of (part ++ bytes) others (omega (arith, h.1)) in (
      1,
      h.0,
      record {
        before = [];
        line = r.line;
        others = r.others;
        split = lines-none part bytes others none ∙ r.split;
        number_is = refl;
        each_short = All-nil IsShort;
        is_long = omega (arith, r.at_least, h.1);
        answered = first;
      },
    )

pub gave_up : {A : Type 0} (rule : Rule A) (a b : A) (line : List ℕ) (others : List (List ℕ)) → rule.answers a [] [] a → rule.gives_up a line b → StopsForMemory rule (read_line line others) (record { start = a; written = []; now = b })
gave_up rule a b line others none h = record {
  before = [];
  others = line ∷ others;
  middle = a;
  split = refl;
  before_complete = λ place less. absurd (omega (arith, less));
  each_short = All-nil IsShort;
  answered = none;
  left = inr (inl (omega arith), h);
}

pub only_sent : {A : Type 0} (rule : Rule A) (a b : A) (line text answer : List ℕ) (sent : ℕ) (others : List (List ℕ)) → rule.answers a [] [] a → IsShort line → text ≡ answer → rule.answers a (line ∷ []) answer b → sent < length text →
    StopsAtWrite rule (read_line line others) (record { start = a; written = take sent text; now = b })
only_sent rule a b line text answer sent others none short e h below = record {
  before = [];
  line = line;
  others = others;
  middle = a;
  text = [];
  answer = answer;
  sent = sent;
  split = refl;
  is_complete = inl (omega arith);
  each_short = one_short line short;
  answered = none;
  answered_last = h;
  sent_is_less = rw e at below;
  written_is = ap (take sent) e;
}

-- ---- a whole run

pub at_read : {A : Type 0} (rule : Rule A) (input : Input) (run : Run A) (part : List ℕ) (progress : Progress) → IsUnderWay rule input.bytes run part progress →
    (input.has_failed ≡ true) ⊎ (input.calls ≡ 2 ^ 40) → StopsAtRead rule input run
at_read rule input run part progress p cause = record { answered = rw (whole_from_start input.bytes) at p.answered; each_short = rw (whole_from_start input.bytes) at p.each_short; cause = cause }

pub done : {A : Type 0} (rule : Rule A) → Joins rule → (a b c : A) (bytes written part line text : List ℕ) (progress : Progress) (lines size : ℕ) → IsUnderWay rule bytes (record { start = a; written = written; now = b }) part progress → size ≡ length bytes → line ≡ part →
    rule.answers b (last_line line) text c → lines ≡ progress.lines + length (last_line line) → AreAllAnswered rule bytes (record { start = a; written = written ++ text; now = c }) (record { lines = lines; bytes = size })
done rule more a b c bytes written part line text progress lines size p same e h l =
    let all : lines_of bytes ≡ whole_from [] bytes ++ last_line line = lines_end bytes line (e ∙ p.part_is) in
    record {
      answered = rw all (more a b c (whole_from [] bytes) (last_line line) written text p.answered h);
      each_short = rw all (All-append IsShort (whole_from [] bytes) (last_line line) p.each_short (last_short line (rw e p.short)));
      lines_is = rw all (omega (arith, l, p.lines_are, length-append (whole_from [] bytes) (last_line line)));
      bytes_is = same;
    }

fault_of : {A : Type 0} (rule : Rule A) (input : Input) (run : Run A) (fault : ScriptFault) → Stops rule (lines_read input) 0 0 fault run → IsFault rule input run fault
fault_of rule input run Read h = absurd h
fault_of rule input run (Write count) h = (omega (arith, h.0), h.1)
fault_of rule input run NoMemory h = h
fault_of rule input run (LineTooLong number) h =
    let place : h.0 ≡ number = omega (arith, h.1) in rw place at h.2

-- more bytes stop
pub fault_in : {A : Type 0} (rule : Rule A) → Joins rule → (a b c : A) (input : Input) (bytes more_bytes part text written : List ℕ) (progress : Progress) (fault : ScriptFault) → input.bytes ≡ bytes ++ more_bytes →
    IsUnderWay rule bytes (record { start = a; written = text; now = b }) part progress →
    Stops rule (read_from part more_bytes) progress.lines progress.written fault (record { start = b; written = written; now = c }) → IsFault rule input (record { start = a; written = text ++ written; now = c }) fault
fault_in {A = A} rule more a b c input bytes more_bytes part text written progress fault cut p h =
    let run : Run A = record { start = a; written = text ++ written; now = c } in
    let size : length (whole_from [] input.bytes) ≡ length (whole_lines input.bytes) = ap length (whole_from_start input.bytes) in
    fault_of rule input run fault
    (stops_in rule (read_from [] input.bytes) (lines_read input) 0 0 fault run (sym (lines_from_start input.bytes))
    (λ place. complete_weaker place (length (whole_from [] input.bytes)) place (length (whole_lines input.bytes)) ⊥ input.at_end (λ k. omega (arith, k, size)) (λ k. absurd k))
    (stops_after rule more a b c [] input.bytes bytes more_bytes part 0 progress.lines 0 progress.written fault text written cut p.answered p.each_short p.part_is (omega (arith, p.lines_are)) (omega (arith, p.written_is)) h))

-- the last line stops
pub fault_at_last : {A : Type 0} (rule : Rule A) → Joins rule → (a b c : A) (input : Input) (part line text written : List ℕ) (progress : Progress) (fault : ScriptFault) → input.at_end →
    IsUnderWay rule input.bytes (record { start = a; written = text; now = b }) part progress → line ≡ part →
    Stops rule (read_last line) progress.lines progress.written fault (record { start = b; written = written; now = c }) → IsFault rule input (record { start = a; written = text ++ written; now = c }) fault
fault_at_last {A = A} rule more a b c input part line text written progress fault ended p e h =
    let run : Run A = record { start = a; written = text ++ written; now = c } in
    let whole = whole_from [] input.bytes in
    let l : progress.lines ≡ 0 + length whole = omega (arith, p.lines_are) in
    let t : progress.written ≡ 0 + length text = omega (arith, p.written_is) in
    let later : Stops rule (read_last line) (0 + length whole) (0 + length text) fault (record { start = b; written = written; now = c }) = rw (← l, ← t) h in
    fault_of rule input run fault
    (stops_in rule (read_behind whole (read_last line)) (lines_read input) 0 0 fault run (lines_end input.bytes line (e ∙ p.part_is))
    (λ place k. inr ended)
    (stops_later rule more a b c whole (read_last line) 0 0 fault text written p.answered p.each_short later))

-- no line is answered
pub looked : {A : Type 0} (rule : Rule A) → Joins rule → (a b c : A) (bytes part text : List ℕ) (progress : Progress) → IsUnderWay rule bytes (record { start = a; written = text; now = b }) part progress →
    rule.answers b [] [] c → IsUnderWay rule bytes (record { start = a; written = text; now = c }) part progress
looked rule more a b c bytes part text progress p h = record {
  answered = rw (append-nil (whole_from [] bytes), append-nil text) at (more a b c (whole_from [] bytes) [] text [] p.answered h);
  part_is = p.part_is;
  short = p.short;
  each_short = p.each_short;
  lines_are = p.lines_are;
  written_is = p.written_is;
}

-- more bytes are answered
pub further : {A : Type 0} (rule : Rule A) → Joins rule → (a b c : A) (bytes more_bytes part part' text written : List ℕ) (progress progress' : Progress) → IsUnderWay rule bytes (record { start = a; written = text; now = b }) part progress →
    rule.answers b (whole_from part more_bytes) written c → part' ≡ rest_from part more_bytes → IsShort part' → All IsShort (whole_from part more_bytes) →
    progress'.lines ≡ progress.lines + length (whole_from part more_bytes) → progress'.written ≡ progress.written + length written →
    IsUnderWay rule (bytes ++ more_bytes) (record { start = a; written = text ++ written; now = c }) part' progress'
further rule more a b c bytes more_bytes part part' text written progress progress' p h f s each l t = record {
  answered = rw (whole_step [] bytes more_bytes part p.part_is) (more a b c (whole_from [] bytes) (whole_from part more_bytes) text written p.answered h);
  part_is = f ∙ sym (rest_step [] bytes more_bytes part p.part_is);
  short = s;
  each_short = each_step [] bytes more_bytes part p.part_is p.each_short each;
  lines_are = omega (arith, l, p.lines_are, length_step [] bytes more_bytes part p.part_is);
  written_is = omega (arith, t, p.written_is, length-append text written);
}
