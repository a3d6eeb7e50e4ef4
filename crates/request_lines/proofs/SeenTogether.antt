-- A run whose answers are written together, by one rule, seen as a run by another.
use Rattle.std.proofs.Common.{◌≡◌, [], ◌∷◌, ap, ◌∙◌, Result, Ok, Err}
use Rattle.request_lines.specs.declared.faults.Count.{Count}
use Rattle.request_lines.specs.declared.faults.ScriptFault.{ScriptFault}
use Rattle.request_lines.specs.declared.faults.ScriptFault.TheVariants.{Read, Write, NoMemory, LineTooLong}
use Rattle.request_lines.specs.Answering.{Rule, Run, Input}
use Rattle.request_lines.specs.Streams.{Reading, Writing}
use Rattle.request_lines.specs.Together.{HasRunTogether, IsFaultAhead}
use Rattle.request_lines.proofs.SeenRuns.{Shows, done_seen, fault_seen, left_seen, seen_run}

ahead_seen : {A B R : Type 0} (rule : Rule A) (shown : Rule B) (seen : A → B) (Stays : A → Type 0) → Shows rule shown seen Stays → (reading : Reading R) (reader reader' : R) (input : Input) (run : Run A) (now : A) (fault : ScriptFault) → Stays run.start →
    IsFaultAhead rule reading reader reader' input run now fault → Stays now × IsFaultAhead shown reading reader reader' input (seen_run seen run) (seen now) fault
ahead_seen rule shown seen Stays shows reading reader reader' input run now Read s h =
    let k = fault_seen rule shown seen Stays shows input run Read s h.1 in (rw h.0 k.0, (ap seen h.0, k.1))
ahead_seen rule shown seen Stays shows reading reader reader' input run now (Write count) s h =
    let a = h.2 in
    let w = a.stopped in
    let first = shows.answers run.start w.middle w.before w.text s w.answered in
    let last = shows.answers w.middle run.now (w.line ∷ []) w.answer first.0 w.answered_last in
    let further = shows.answers run.now a.middle a.further a.unwritten last.0 a.answered in
    let left = left_seen rule shown seen Stays shows a.middle now a.others _ further.0 a.left in (
      left.0,
      (
        h.0,
        h.1,
        record {
          stopped = record {
            before = w.before;
            line = w.line;
            others = w.others;
            middle = seen w.middle;
            text = w.text;
            answer = w.answer;
            sent = w.sent;
            split = w.split;
            is_complete = w.is_complete;
            each_short = w.each_short;
            answered = first.1;
            answered_last = last.1;
            sent_is_less = w.sent_is_less;
            written_is = w.written_is;
          };
          further = a.further;
          others = a.others;
          middle = seen a.middle;
          unwritten = a.unwritten;
          is_behind = a.is_behind;
          split = a.split;
          further_complete = a.further_complete;
          each_short = a.each_short;
          answered = further.1;
          left = left.1;
        },
      ),
    )
ahead_seen rule shown seen Stays shows reading reader reader' input run now NoMemory s h =
    let k = fault_seen rule shown seen Stays shows input run NoMemory s h.1 in (rw h.0 k.0, (ap seen h.0, k.1))
ahead_seen rule shown seen Stays shows reading reader reader' input run now (LineTooLong number) s h =
    let k = fault_seen rule shown seen Stays shows input run (LineTooLong number) s h.1 in (rw h.0 k.0, (ap seen h.0, k.1))

pub seen_together : {A B R W : Type 0} (rule : Rule A) (shown : Rule B) (seen : A → B) (Stays : A → A → Type 0) → ((s : A) → Shows rule shown seen (Stays s)) → (reading : Reading R) (writing : Writing W) (start now : A) (reader reader' : R) (writer writer' : W) (result : Result Count ScriptFault) →
    HasRunTogether rule reading writing start now reader reader' writer writer' result → Stays start start →
    Stays start now × ((left : B) → left ≡ seen now → HasRunTogether shown reading writing (seen start) left reader reader' writer writer' result)
seen_together rule shown seen Stays shows reading writing start now reader reader' writer writer' (Ok count) h s =
    let k = done_seen rule shown seen (Stays start) (shows start) h.bytes (record { start = start; written = h.written; now = h.left }) count s h.ended.1 in (
      rw h.ended.0 k.0,
      λ left e. record {
        calls = h.calls;
        bytes = h.bytes;
        written = h.written;
        left = seen h.left;
        few = h.few;
        gave = h.gave;
        took = h.took;
        ended = (e ∙ ap seen h.ended.0, k.1);
      },
    )
seen_together rule shown seen Stays shows reading writing start now reader reader' writer writer' (Err fault) h s =
    let k = ahead_seen rule shown seen (Stays start) (shows start) reading reader reader'
    (record { calls = h.calls; bytes = h.bytes; has_failed = reading.failed reader'; at_end = reading.at_end reader' }) (record { start = start; written = h.written; now = h.left }) now fault s h.ended in (
      k.0,
      λ left e. record {
        calls = h.calls;
        bytes = h.bytes;
        written = h.written;
        left = seen h.left;
        few = h.few;
        gave = h.gave;
        took = h.took;
        ended = rw e k.1;
      },
    )
