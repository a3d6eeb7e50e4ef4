-- How the lines of a read call are answered or stop, once their answers are written together.
use Rattle.std.proofs.Common.{◌≡◌, ℕ, ◌+◌, ◌-◌, ◌<◌, true, false, List, [], length, take, ap, sym, ◌∙◌, arith}
use Rattle.std.proofs.lemmas.Bool.{true≢false}
use Rattle.request_lines.specs.declared.progress.Progress.{Progress}
use Rattle.request_lines.specs.declared.faults.ScriptFault.{ScriptFault}
use Rattle.request_lines.specs.declared.faults.ScriptFault.TheVariants.{Write}
use Rattle.request_lines.specs.Answering.{Rule, LinesRead, is_write_fault}
use Rattle.request_lines.specs.Streams.{Writing}
use Rattle.request_lines.specs.Together.{StopsAhead}
use Rattle.request_lines.specs.Inner.Ahead.{HasStoppedTogether}
use Rattle.request_lines.specs.Inner.Chain.{Chain, chain_rule}
use Rattle.request_lines.specs.Inner.Gathered.{Gathers}
use Rattle.request_lines.specs.Inner.Progress.{HasAnswered, Stops, state}
use Rattle.request_lines.proofs.ChainLemmas.{Begins, joined}
use Rattle.request_lines.proofs.GatheredLemmas.{all_given, first_given, length_parted, parted}
use Rattle.request_lines.proofs.RunLemmas.{Joins}
use Rattle.request_lines.proofs.TogetherLemmas.{stops_together, write_ahead}

-- all answers are written
pub answered_together : {A W : Type 0} (rule : Rule A) → Joins rule → Begins rule → (writing : Writing W) (a b : A) (w w' : W) (p p' : Progress) (lines : List (List ℕ)) (text us vs : List ℕ) → Chain rule a lines text b →
    p'.written ≡ p.written + length text → p'.lines ≡ p.lines + length lines → Gathers writing w us text w' vs → us ≡ [] → vs ≡ [] → writing.failed w' ≡ writing.failed w → HasAnswered rule writing lines (state a w p) (state b w' p')
answered_together rule more none writing a b w w' p p' lines text us vs h size count g e f unfailed =
    let same : text ≡ g.given = all_given writing w w' us vs text g e f in
    let same_length : length text ≡ length g.given = ap length same in record {
      text = g.given;
      taken = g.taken;
      answered = rw same at (joined rule more none a b lines text h);
      written_is = omega (arith, size, same_length);
      lines_are = count;
      unfailed = unfailed;
    }

-- lines stop, and all answers before that are written
pub stopped_with_all : {A W : Type 0} (rule : Rule A) → Joins rule → Begins rule → (writing : Writing W) (read : LinesRead) (a b : A) (w w' : W) (p p' : Progress) (fault : ScriptFault) (text us vs : List ℕ) → is_write_fault fault ≡ false →
    Stops (chain_rule rule) read p.lines p.written fault (record { start = a; written = text; now = b }) → Gathers writing w us text w' vs → us ≡ [] → vs ≡ [] → writing.failed w' ≡ writing.failed w →
    HasStoppedTogether rule writing read (state a w p) (state b w' p') fault
stopped_with_all rule more none writing read a b w w' p p' fault text us vs fine h g e f unfailed =
    let same : text ≡ g.given = all_given writing w w' us vs text g e f in record {
      text = g.given;
      left = b;
      taken = g.taken;
      stops = stops_together rule more none read p.lines p.written fault (record { start = a; written = g.given; now = b }) fine (rw same at h);
      has_failed = λ yes. absurd (true≢false (sym yes ∙ fine));
      unfailed = λ _. unfailed;
    }

-- the writer failed while the bytes that waited were written
pub stopped_at_send : {A W : Type 0} (rule : Rule A) (writing : Writing W) (read : LinesRead) (a b : A) (w w' : W) (p p' : Progress) (fault : ScriptFault) (text us vs : List ℕ) →
    ((sent : ℕ) → sent < length text → (left : A) × StopsAhead rule read 0 (record { start = a; written = take sent text; now = left }) b) → p'.written ≡ p.written + length text → Gathers writing w us text w' vs → us ≡ [] →
    fault ≡ Write (p'.written - length vs) → 0 < length vs → writing.failed w' ≡ true → HasStoppedTogether rule writing read (state a w p) (state b w' p') fault
stopped_at_send rule writing read a b w w' p p' fault text us vs ahead size g e is some failed =
    let cut = parted writing w w' us vs text g e in
    let sum = length_parted text g.given vs cut in
    let stop = ahead (length g.given) (omega (arith, sum, some)) in
    rw is (record {
      text = g.given;
      left = stop.0;
      taken = g.taken;
      stops = (omega (arith, sum, size), rw (first_given text g.given vs cut) at stop.1);
      has_failed = λ _. failed;
      unfailed = λ fine. absurd (true≢false fine);
    })

-- the writer failed while it took bytes that were to be written together
pub stopped_at_write : {A W : Type 0} (rule : Rule A) → Joins rule → Begins rule → (writing : Writing W) (read : LinesRead) (a b : A) (w w' : W) (p p' : Progress) (fault : ScriptFault) (count : ℕ) (text us vs : List ℕ) →
    Stops (chain_rule rule) read p.lines p.written (Write count) (record { start = a; written = text; now = b }) → Gathers writing w us text w' vs → us ≡ [] → fault ≡ Write (count - length vs) → writing.failed w' ≡ true →
    HasStoppedTogether rule writing read (state a w p) (state b w' p') fault
stopped_at_write rule more none writing read a b w w' p p' fault count text us vs h g e is failed =
    let cut = parted writing w w' us vs text g e in
    let sum = length_parted text g.given vs cut in
    let stop = write_ahead rule more none read (record { start = a; written = text; now = b }) g.given vs h.1 cut in
    rw is (record {
      text = g.given;
      left = stop.0;
      taken = g.taken;
      stops = (omega (arith, sum, h.0), stop.1);
      has_failed = λ _. failed;
      unfailed = λ fine. absurd (true≢false fine);
    })
