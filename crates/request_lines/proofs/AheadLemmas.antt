-- How a run ends whose answers are written together.
use Rattle.std.proofs.Common.{◌≡◌, ℕ, ◌+◌, inl, inr, List, [], ◌∷◌, ◌++◌, length, take, ap, sym, ◌∙◌, append_assoc, arith, length-append, All, Result, OnOk, IfErr}
use Rattle.std.proofs.lemmas.List.Elements.{All-append}
use Rattle.request_lines.specs.declared.progress.Progress.{Progress}
use Rattle.request_lines.specs.declared.faults.ScriptFault.{ScriptFault}
use Rattle.request_lines.specs.declared.faults.ScriptFault.TheVariants.{Read, Write, NoMemory, LineTooLong}
use Rattle.request_lines.specs.Lines.{whole_lines, IsShort}
use Rattle.request_lines.specs.declared.faults.Count.{Count}
use Rattle.request_lines.specs.Streams.{Reading, Writing}
use Rattle.request_lines.specs.Answering.{Rule, Run, Input, LinesRead, IsComplete, lines_read, IsFault}
use Rattle.request_lines.specs.Together.{HasRunTogether, LastCall, StopsAhead, IsFaultAhead}
use Rattle.request_lines.specs.Inner.Ahead.{StopsTogether}
use Rattle.request_lines.specs.Inner.Progress.{IsUnderWay, lines_from, whole_from, read_from, read_last}
use Rattle.request_lines.proofs.LinesLemmas.{whole_from_start, lines_from_start, lines_end}
use Rattle.request_lines.proofs.RunLemmas.{Joins, complete_weaker, fault_at_last, fault_in, length_step, lines_step}

-- lines that stop do so behind earlier lines too
ahead_later : {A : Type 0} (rule : Rule A) → Joins rule → (a b left now : A) (xs : List (List ℕ)) (old new : LinesRead) (least : ℕ) (text written : List ℕ) → rule.answers a xs text b → All IsShort xs → new.lines ≡ xs ++ old.lines →
    ((place place' : ℕ) → place' ≡ length xs + place → IsComplete old place → IsComplete new place') → least ≡ length xs → StopsAhead rule old 0 (record { start = b; written = written; now = left }) now →
    StopsAhead rule new least (record { start = a; written = text ++ written; now = left }) now
ahead_later rule more a b left now xs old new least text written first short lines complete e h =
    let s = h.stopped in
    let size = length-append xs s.before in record {
      stopped = record {
        before = xs ++ s.before;
        line = s.line;
        others = s.others;
        middle = s.middle;
        text = text ++ s.text;
        answer = s.answer;
        sent = s.sent;
        split = lines ∙ ap (λ (ls : List (List ℕ)). xs ++ ls) s.split ∙ sym (append_assoc xs s.before (s.line ∷ s.others));
        is_complete = complete (length s.before) (length (xs ++ s.before)) size s.is_complete;
        each_short = rw (append_assoc xs s.before (s.line ∷ [])) (All-append IsShort xs (s.before ++ s.line ∷ []) short s.each_short);
        answered = more a b s.middle xs s.before text s.text first s.answered;
        answered_last = s.answered_last;
        sent_is_less = s.sent_is_less;
        written_is = ap (λ (t : List ℕ). text ++ t) s.written_is ∙ sym (append_assoc text s.text (take s.sent s.answer));
      };
      further = h.further;
      others = h.others;
      middle = h.middle;
      unwritten = h.unwritten;
      is_behind = omega (arith, size, e);
      split = h.split;
      further_complete = complete (length s.before + length h.further) (length (xs ++ s.before) + length h.further) (omega (arith, size)) h.further_complete;
      each_short = h.each_short;
      answered = h.answered;
      left = elim h.left [
        | inl k ↦ inl k
        | inr k ↦ inr (complete (length s.before + length h.further + 1) (length (xs ++ s.before) + length h.further + 1) (omega (arith, size)) k.0, k.1)
      ];
    }

-- more bytes stop
pub ahead_in : {A R : Type 0} (rule : Rule A) → Joins rule → (reading : Reading R) (reader reader' : R) (a b left now : A) (input : Input) (bytes more_bytes part text written : List ℕ) (progress : Progress) (fault : ScriptFault) →
    input.bytes ≡ bytes ++ more_bytes → IsUnderWay rule bytes (record { start = a; written = text; now = b }) part progress → (call : LastCall reading reader input reader') → call.earlier ≡ bytes →
    StopsTogether rule (read_from part more_bytes) progress.lines progress.written fault (record { start = b; written = written; now = left }) now →
    IsFaultAhead rule reading reader reader' input (record { start = a; written = text ++ written; now = left }) now fault
ahead_in rule more reading reader reader' a b left now input bytes more_bytes part text written progress Read cut p call e h = absurd h
ahead_in rule more reading reader reader' a b left now input bytes more_bytes part text written progress (Write count) cut p call e h =
    let xs = whole_from [] bytes in
    let size : length (whole_lines input.bytes) ≡ length xs + length (whole_from part more_bytes) =
    ap length (sym (whole_from_start input.bytes)) ∙ ap (λ (bs : List ℕ). length (whole_from [] bs)) cut ∙ length_step [] bytes more_bytes part p.part_is in (
      omega (arith, h.0, p.written_is, length-append text written),
      call,
      ahead_later rule more a b left now xs (read_from part more_bytes) (lines_read input) (length (whole_lines call.earlier)) text written p.answered p.each_short
          (sym (lines_from_start input.bytes) ∙ ap (lines_from []) cut ∙ lines_step [] bytes more_bytes part p.part_is)
          (λ place place' same. complete_weaker place (length (whole_from part more_bytes)) place' (length (whole_lines input.bytes)) ⊥ input.at_end (λ k. omega (arith, k, same, size)) (λ k. absurd k))
          (ap (λ (bs : List ℕ). length (whole_lines bs)) e ∙ ap length (sym (whole_from_start bytes))) h.1,
    )
ahead_in rule more reading reader reader' a b left now input bytes more_bytes part text written progress NoMemory cut p call e h =
    (h.0, fault_in rule more a b left input bytes more_bytes part text written progress NoMemory cut p h.1)
ahead_in rule more reading reader reader' a b left now input bytes more_bytes part text written progress (LineTooLong number) cut p call e h =
    (h.0, fault_in rule more a b left input bytes more_bytes part text written progress (LineTooLong number) cut p h.1)

-- the last line stops
pub ahead_at_last : {A R : Type 0} (rule : Rule A) → Joins rule → (reading : Reading R) (reader reader' : R) (a b left now : A) (input : Input) (part line text written : List ℕ) (progress : Progress) (fault : ScriptFault) →
    input.at_end → IsUnderWay rule input.bytes (record { start = a; written = text; now = b }) part progress → line ≡ part → (call : LastCall reading reader input reader') → call.earlier ≡ input.bytes →
    StopsTogether rule (read_last line) progress.lines progress.written fault (record { start = b; written = written; now = left }) now →
    IsFaultAhead rule reading reader reader' input (record { start = a; written = text ++ written; now = left }) now fault
ahead_at_last rule more reading reader reader' a b left now input part line text written progress Read ended p same call e h = absurd h
ahead_at_last rule more reading reader reader' a b left now input part line text written progress (Write count) ended p same call e h = (
  omega (arith, h.0, p.written_is, length-append text written),
  call,
  ahead_later rule more a b left now (whole_from [] input.bytes) (read_last line) (lines_read input) (length (whole_lines call.earlier)) text written p.answered p.each_short (lines_end input.bytes line (same ∙ p.part_is))
      (λ place place' f k. inr ended) (ap (λ (bs : List ℕ). length (whole_lines bs)) e ∙ ap length (sym (whole_from_start input.bytes))) h.1,
)
ahead_at_last rule more reading reader reader' a b left now input part line text written progress NoMemory ended p same call e h =
    (h.0, fault_at_last rule more a b left input part line text written progress NoMemory ended p same h.1)
ahead_at_last rule more reading reader reader' a b left now input part line text written progress (LineTooLong number) ended p same call e h =
    (h.0, fault_at_last rule more a b left input part line text written progress (LineTooLong number) ended p same h.1)

-- the run stopped, up to the state where the last answer is written
pub fault_up_to : {A R : Type 0} (rule : Rule A) (reading : Reading R) (reader reader' : R) (input : Input) (run : Run A) (now : A) (fault : ScriptFault) → IsFaultAhead rule reading reader reader' input run now fault → IsFault rule input run fault
fault_up_to rule reading reader reader' input run now Read h = h.1
fault_up_to rule reading reader reader' input run now (Write count) h = (h.0, h.2.stopped)
fault_up_to rule reading reader reader' input run now NoMemory h = h.1
fault_up_to rule reading reader reader' input run now (LineTooLong number) h = h.1

-- states and writers that are equal end alike
pub run_at : {A R W : Type 0} (rule : Rule A) (reading : Reading R) (writing : Writing W) (start now now' : A) (reader reader' : R) (writer writer' ended : W) (result : Result Count ScriptFault) →
    HasRunTogether rule reading writing start now reader reader' writer writer' result → now' ≡ now → ended ≡ writer' → HasRunTogether rule reading writing start now' reader reader' writer ended result
run_at rule reading writing start now now' reader reader' writer writer' ended result h e f = rw (e, f) h

pub ok_at : {W : Type 0} {T E : Type 0} (r : Result T E) (P : W → Type 0) (writer writer' : W) → OnOk r (P writer) → writer' ≡ writer → OnOk r (P writer')
ok_at r P writer writer' h e = rw e h

pub err_at : {W : Type 0} {T E : Type 0} (r : Result T E) (P : W → E → Type 0) (writer writer' : W) → IfErr r (P writer) → writer' ≡ writer → IfErr r (P writer')
err_at r P writer writer' h e = rw e h
