-- New lines that are kept and answered.
use Rattle.std.proofs.Common.{◌≡◌, ◌≢◌, ◌⊎◌, inl, inr, ⊎_elim, ℕ, ◌+◌, ◌-◌, ◌<◌, ◌≤◌, List, [], ◌∷◌, ◌++◌, length, map, take, drop, Option, None, Some, Result, Ok, Err, refl, sym, ◌∙◌, ap, subst, arith, append_assoc, length-append}
use Rattle.std.specs.List.{All, flat_map}
use Rattle.std.specs.Prelude.{IfErr, IsErr, IsErrAnd, IsErrOf, IsTrue, MatchResult, OnOk}
use Rattle.std.proofs.lemmas.List.{append-nil, drop_all, drop_at, flat_map_more, map-append, take_all, take_at}
use Rattle.std.proofs.lemmas.Grind.{flat_map-append}
use Rattle.std.proofs.lemmas.List.Elements.{All-append, All-cons, All-head, All-nil, All-tail}
use Rattle.std.proofs.lemmas.Bool.{cases_eq}
use Rattle.std.proofs.Math.Seq.{take-append-add, take-length}
use Rattle.sqlite_disk.specs.Disk.{Only}
use Rattle.sqlite_disk.specs.declared.Disk.{Ghosts}
use Rattle.request_lines.specs.Answering.{Rule}
use Rattle.request_lines.specs.Lines.{AreLines, HasNoNewline, with_newline}
use Rattle.kept_batches.specs.File.{IsBeforeOrAfter, Keeps}
use Rattle.kept_batches.specs.Verdict.{Verdict, VerdictIsRight, accepted, damage_in, damaged_at, kept_in, readable, verdict}
use Rattle.kept_batches.specs.Verdict.Verdict.{accepts, damage}
use Rattle.kept_batches.specs.Reading.{OnlyReads}
use Rattle.kept_batches.specs.declared.error.KeepError.{KeepError}
use Rattle.kept_batches.specs.declared.error.KeepError.TheVariants as error
use Rattle.kept_answers.specs.declared.fault.KeepFault.{KeepFault}
use Rattle.kept_answers.specs.Faults.{IsOtherCount, TellsOf, of_disk}
use Rattle.kept_answers.specs.Inner.UnderWay.{IsUnderWay}
use Rattle.kept_answers.specs.Keeping.{FitsKept, IsStoreAnswered, IsStoreSent, answers_had, greeting}
use Rattle.kept_answers.specs.Kept.{AreAnswered, AreKept, AreResent, Begins, HasResent, HasSent}

-- one more line of a text
pub one_more_line : (text rest line others : List ℕ) (whole : List (List ℕ)) → text ≡ flat_map with_newline whole ++ rest → rest ≡ with_newline line ++ others
    → text ≡ flat_map with_newline (whole ++ line ∷ []) ++ others
one_more_line text rest line others whole is split =
    is ∙ ap (λ (l : List ℕ). flat_map with_newline whole ++ l) split
    ∙ sym (append_assoc (flat_map with_newline whole) (with_newline line) others)
    ∙ ap (λ (l : List ℕ). l ++ others) (flat_map_more with_newline [] whole line)

-- one more size of a line
pub one_more_size : (start sizes more : List ℕ) (size : ℕ) (whole : List (List ℕ)) (line : List ℕ) → sizes ≡ start ++ map length whole → more ≡ sizes ++ size ∷ [] → size ≡ length line
    → more ≡ start ++ map length (whole ++ line ∷ [])
one_more_size start sizes more size whole line is added size_is =
    added ∙ ap (λ (l : List ℕ). l ++ size ∷ []) is ∙ append_assoc start (map length whole) (size ∷ [])
    ∙ ap (λ (n : ℕ). start ++ (map length whole ++ n ∷ [])) size_is
    ∙ ap (λ (l : List ℕ). start ++ l) (sym (map-append length whole (line ∷ [])))

-- the next line, by its size
pub record Next (lines : List (List ℕ)) (size : ℕ) (later : List ℕ) : Type 0 where
  pub line : List ℕ
  pub others : List (List ℕ)
  pub is : lines ≡ line ∷ others
  pub size_is : length line ≡ size
  pub later_is : later ≡ map length others

pub next_of : (lines : List (List ℕ)) (size : ℕ) (later : List ℕ) → size ∷ later ≡ map length lines → Next lines size later
next_of [] size later e = absurd (cc)
next_of (line ∷ others) size later e = record { line = line; others = others; is = refl; size_is = (cc); later_is = (cc) }

pub none_left : (lines : List (List ℕ)) (sizes : List ℕ) → sizes ≡ map length lines → length sizes ≡ 0 → lines ≡ []
none_left [] sizes are none = refl
none_left (line ∷ others) sizes are none = absurd (omega (arith, ap length are, none))

-- the bytes that begin with it
begins_with : (rest part line : List ℕ) (lines others : List (List ℕ)) → rest ≡ flat_map with_newline lines ++ part → lines ≡ line ∷ others
    → rest ≡ with_newline line ++ (flat_map with_newline others ++ part)
begins_with rest part line lines others is split =
    is ∙ ap (λ (l : List (List ℕ)). flat_map with_newline l ++ part) split ∙ append_assoc (with_newline line) (flat_map with_newline others) part

size_with_newline : (line : List ℕ) (size : ℕ) → length line ≡ size → length (with_newline line) ≡ size + 1
size_with_newline line size is = omega (arith, is, length-append line (10 ∷ []))

pub next_fits : (rest part : List ℕ) (lines : List (List ℕ)) (size : ℕ) (later : List ℕ) → rest ≡ flat_map with_newline lines ++ part → Next lines size later → size < length rest
next_fits rest part lines size later is next =
    let whole = begins_with rest part next.line lines next.others is next.is in
    let after : List ℕ = flat_map with_newline next.others ++ part in
    omega (arith, ap length whole, size_with_newline next.line size next.size_is, length-append (with_newline next.line) after)

pub next_line_is : (rest part : List ℕ) (lines : List (List ℕ)) (size : ℕ) (later : List ℕ) → rest ≡ flat_map with_newline lines ++ part → (next : Next lines size later) → take size rest ≡ next.line
next_line_is rest part lines size later is next =
    let after : List ℕ = flat_map with_newline next.others ++ part in
    ap (λ (l : List ℕ). take size l) (begins_with rest part next.line lines next.others is next.is ∙ append_assoc next.line (10 ∷ []) after)
    ∙ take_at next.line ((10 ∷ []) ++ after) size next.size_is

pub rest_after : (rest part : List ℕ) (lines : List (List ℕ)) (size : ℕ) (later : List ℕ) → rest ≡ flat_map with_newline lines ++ part → (next : Next lines size later)
    → drop (size + 1) rest ≡ flat_map with_newline next.others ++ part
rest_after rest part lines size later is next =
    ap (λ (l : List ℕ). drop (size + 1) l) (begins_with rest part next.line lines next.others is next.is)
    ∙ drop_at (with_newline next.line) (flat_map with_newline next.others ++ part) (size + 1) (size_with_newline next.line size next.size_is)

-- what is behind the whole lines
pub rest_is : (text rest : List ℕ) (whole : List (List ℕ)) → text ≡ flat_map with_newline whole ++ rest → drop (length text - length rest) text ≡ rest
rest_is text rest whole is =
    let size : length (flat_map with_newline whole) ≡ length text - length rest = omega (arith, ap length is, length-append (flat_map with_newline whole) rest) in
    ap (λ (l : List ℕ). drop (length text - length rest) l) is ∙ drop_at (flat_map with_newline whole) rest (length text - length rest) size

pub lines_and_part : (text rest : List ℕ) (whole : List (List ℕ)) → text ≡ flat_map with_newline whole ++ rest → All HasNoNewline whole → HasNoNewline rest → AreLines text whole rest
lines_and_part text rest whole is are none = record { joined = is; whole_have_none = are; last_has_none = none }

-- ---- what a crash leaves

-- the lines from before, where all of the file is on the disk
pub none_lost : (seen : List ℕ) (may_leave : List ℕ → Type 0) (new : List (List ℕ)) → Only seen may_leave → AreKept may_leave (kept_in seen) new 0
none_lost seen may_leave new only file left = (0, omega arith, omega arith, ap kept_in (only file left) ∙ sym (append-nil (kept_in seen)))

-- the lines that a file keeps are those that it is found to keep
kept_as : VerdictIsRight → (file : List ℕ) (lines : List (List ℕ)) → Keeps file lines → kept_in file ≡ lines
kept_as right file lines keeps = ap accepted ((right file lines).1 keeps)

-- all of the batch or none
pub whole_or_none : VerdictIsRight → (before new : List (List ℕ)) (file : List ℕ) → IsBeforeOrAfter before new file → (count : ℕ) × (0 ≤ count) × (count ≤ length new) × (kept_in file ≡ before ++ take count new)
whole_or_none right before new file left = ⊎_elim
    (λ none. (0, omega arith, omega arith, kept_as right file before none ∙ sym (append-nil before)))
    (λ all. (length new, omega arith, omega arith, kept_as right file (before ++ new) all ∙ ap (λ (l : List (List ℕ)). before ++ l) (sym (take-length new))))
    left

-- all of it
pub all_kept : (seen : List ℕ) (may_leave : List ℕ → Type 0) (before new : List (List ℕ)) (count : ℕ) → Only seen may_leave → kept_in seen ≡ before ++ new → count ≤ length new → AreKept may_leave before new count
all_kept seen may_leave before new count only is few file left =
    (length new, few, omega arith, ap kept_in (only file left) ∙ is ∙ ap (λ (l : List (List ℕ)). before ++ l) (sym (take-length new)))

-- ---- lines that a store keeps

all_read : (found : Verdict) → damaged_at found ≡ None → readable found ≡ accepted found
all_read (accepts lines) whole = refl
all_read (damage place before) whole = absurd (cc)

-- all lines that can be read of a file that is not damaged are kept
pub all_readable : (file : List ℕ) → damage_in file ≡ None → readable (verdict file) ≡ kept_in file
all_readable file whole = all_read (verdict file) whole

-- the first of the lines that are done, and the others
pub first_done : (count : ℕ) (lines done left : List (List ℕ)) → lines ≡ done ++ left → length done ≡ count → (take count lines ≡ done) × (drop count lines ≡ left)
first_done count lines done left is size =
    (ap (λ (l : List (List ℕ)). take count l) is ∙ take_at done left count size, ap (λ (l : List (List ℕ)). drop count l) is ∙ drop_at done left count size)

pub all_done : (count : ℕ) (lines done left : List (List ℕ)) → lines ≡ done ++ left → left ≡ [] → length done ≤ count → (take count lines ≡ done) × (drop count lines ≡ [])
all_done count lines done left is none few =
    let whole : lines ≡ done = is ∙ ap (λ (l : List (List ℕ)). done ++ l) none ∙ append-nil done in
    (ap (λ (l : List (List ℕ)). take count l) whole ∙ take_all count done few, ap (λ (l : List (List ℕ)). drop count l) whole ∙ drop_all count done few)

-- calls that only read, and more of them
pub reads_on : {D : Type 0} (g : Ghosts D) (first second third : D) → OnlyReads g first second → OnlyReads g second third → OnlyReads g first third
reads_on g first second third before after = record {
  seen = after.seen ∙ before.seen;
  crash = λ c left. before.crash c (after.crash c left);
  usable = after.usable;
  clean = λ clean. before.clean (after.clean clean);
}

pub reads_nothing : {D : Type 0} (g : Ghosts D) (disk : D) → IsTrue (g.is_usable disk) → OnlyReads g disk disk
reads_nothing g disk usable = record { seen = refl; crash = λ c left. left; usable = usable; clean = λ clean. clean }

-- ---- what was sent

-- what is so at an error, and what is so of each result
pub at_err : {T E Q : Type 0} (P : T → Type 0) (result : Result T E) → IsErr result → Q → MatchResult result P (λ _. Q)
at_err P (Ok x) is holds = absurd (cc)
at_err P (Err e) is holds = holds

pub either : {T E R P Q : Type 0} (result : Result T E) → OnOk result R → (R → P) → Q → MatchResult result (λ _. P) (λ _. Q)
either (Ok x) so then holds = then so
either (Err e) so then holds = holds

pub ok_as : {T E P P' : Type 0} (Q : Type 0) (result : Result T E) → (P → P') → MatchResult result (λ _. P) (λ _. Q) → MatchResult result (λ _. P') (λ _. Q)
ok_as Q (Ok x) then holds = then holds
ok_as Q (Err e) then holds = holds

pub both_ok : {T E P S R : Type 0} (Q : Type 0) (result : Result T E) → (P → S → R) → MatchResult result (λ _. P) (λ _. Q) → OnOk result S → MatchResult result (λ _. R) (λ _. Q)
both_ok Q (Ok x) then first second = then first second
both_ok Q (Err e) then first second = first

pub no_ok : {T E : Type 0} (P : Type 0) (result : Result T E) → IsErr result → OnOk result P
no_ok P (Ok x) is = absurd (cc)
no_ok P (Err e) is = tt

pub part_sent : {T E : Type 0} (Q : Type 0) (result : Result T E) (sent text : List ℕ) → MatchResult result (λ _. (sent ≡ text) × Q) (λ _. Begins sent text) → Begins sent text
part_sent Q (Ok x) sent text told = ([], sym told.0 ∙ sym (append-nil sent))
part_sent Q (Err e) sent text told = told

pub all_sent : {T E : Type 0} (P Q R : Type 0) (result : Result T E) → MatchResult result (λ _. P × Q) (λ _. R) → OnOk result P
all_sent P Q R (Ok x) told = told.0
all_sent P Q R (Err e) told = tt

-- what two facts say of an error
pub if_err_both : {T E : Type 0} {P Q R : E → Type 0} (result : Result T E) → IfErr result P → IfErr result Q → ((e : E) → P e → Q e → R e) → IfErr result R
if_err_both (Ok x) one other then = tt
if_err_both (Err e) one other then = then e one other

-- no error of the log is of the number of lines
pub never_other : (e : KeepError) → IsOtherCount (of_disk e) → ⊥
never_other error.Memory other = other
never_other (error.Disk cause) other = other
never_other error.Full other = other
never_other (error.Damaged at) other = other

-- what an error of the log tells of the file
error_tells : (file : List ℕ) (e : KeepError) → ((at : ℕ) → e ≡ error.Damaged at → damage_in file ≡ Some at) → TellsOf file (of_disk e)
error_tells file error.Memory damaged = record { damaged = λ at is. absurd (cc); no_line = λ is. absurd (cc) }
error_tells file (error.Disk cause) damaged = record { damaged = λ at is. absurd (cc); no_line = λ is. absurd (cc) }
error_tells file error.Full damaged = record { damaged = λ at is. absurd (cc); no_line = λ is. absurd (cc) }
error_tells file (error.Damaged place) damaged = record { damaged = λ at is. damaged at (cc); no_line = λ is. absurd (cc) }

-- and what the fault of a `?` tells, after calls that only read
pub read_tells : {D T U : Type 0} (g : Ghosts D) (start old new : D) (e : KeepError) (failed : Result U KeepError) (result : Result T KeepFault) → IsErrAnd result (λ f. f ≡ of_disk e) → failed ≡ Err e → OnlyReads g start old
    → ((at : ℕ) → IsErrOf failed (error.Damaged at) → IsTrue (g.is_clean new) → damage_in (g.seen old) ≡ Some at) → IfErr result (λ f. IsTrue (g.is_clean new) → TellsOf (g.seen start) f)
read_tells g start old new e failed (Ok x) is same reads damaged = tt
read_tells g start old new e failed (Err f) is same reads damaged = λ clean.
    subst (TellsOf (g.seen start)) (sym is) (error_tells (g.seen start) e (λ at h. ap damage_in (sym reads.seen) ∙ damaged at (subst (λ (x : KeepError). failed ≡ Err x) h same) clean))

pub on_ok_then : {T E P Q : Type 0} (result : Result T E) → OnOk result P → (P → Q) → OnOk result Q
on_ok_then (Ok x) holds then = then holds
on_ok_then (Err e) holds then = tt

-- what was sent begins the answers to lines that are done
pub sent_so_far : {A : Type 0} (rule : Rule A) (start end : A) (lines done left : List (List ℕ)) (text sent rest : List ℕ)
    → lines ≡ done ++ left → rule.answers start done text end → text ≡ sent ++ rest → HasSent rule start lines sent
sent_so_far rule start end lines done left text sent rest is answers split = record {
  answered = length done;
  text = text;
  end = end;
  within = omega (arith, ap length is, length-append done left);
  answers = subst (λ (l : List (List ℕ)). rule.answers start l text end) (sym (first_done (length done) lines done left is refl).0) answers;
  written = (rest, split);
}

pub nothing_sent : {A : Type 0} (rule : Rule A) (start : A) (may_leave : List ℕ → Type 0) (is_clean : Type 0) (before new : List (List ℕ))
    → rule.answers start [] [] start → (is_clean → AreKept may_leave before new 0) → AreAnswered rule start may_leave is_clean before new []
nothing_sent rule start may_leave is_clean before new none kept =
    record { answered = 0; text = []; end = start; within = omega arith; answers = none; written = ([], refl); kept = kept }

pub answers_sent : {A : Type 0} (rule : Rule A) (start end : A) (may_leave : List ℕ → Type 0) (is_clean : Type 0) (before new : List (List ℕ)) (text sent rest : List ℕ)
    → rule.answers start new text end → text ≡ sent ++ rest → (is_clean → AreKept may_leave before new (length new)) → AreAnswered rule start may_leave is_clean before new sent
answers_sent rule start end may_leave is_clean before new text sent rest told split kept = record {
  answered = length new;
  text = text;
  end = end;
  within = omega arith;
  answers = subst (λ (l : List (List ℕ)). rule.answers start l text end) (sym (take-length new)) told;
  written = (rest, split);
  kept = kept;
}

-- ---- bytes that come in parts

-- bytes are lines and a part
pub record Split (bytes : List ℕ) : Type 0 where
  pub whole : List (List ℕ)
  pub part : List ℕ
  pub are : AreLines bytes whole part

pub no_lines : AreLines [] [] []
no_lines = record { joined = refl; whole_have_none = All-nil HasNoNewline; last_has_none = All-nil (λ b. b ≢ 10) }

at_newline : (byte : ℕ) (bytes : List ℕ) → byte ≡ 10 → Split bytes → Split (byte ∷ bytes)
at_newline byte bytes is rest = record {
  whole = [] ∷ rest.whole;
  part = rest.part;
  are = record {
    joined = ap (λ (b : ℕ). b ∷ bytes) is ∙ ap (λ (l : List ℕ). 10 ∷ l) rest.are.joined;
    whole_have_none = All-cons HasNoNewline [] rest.whole (All-nil (λ b. b ≢ 10)) rest.are.whole_have_none;
    last_has_none = rest.are.last_has_none;
  };
}

within : (byte : ℕ) (bytes : List ℕ) (whole : List (List ℕ)) (part : List ℕ) → byte ≢ 10 → AreLines bytes whole part → Split (byte ∷ bytes)
within byte bytes [] part other are = record {
  whole = [];
  part = byte ∷ part;
  are = record {
    joined = ap (λ (l : List ℕ). byte ∷ l) are.joined;
    whole_have_none = All-nil HasNoNewline;
    last_has_none = All-cons (λ b. b ≢ 10) byte part other are.last_has_none;
  };
}
within byte bytes (line ∷ lines) part other are = record {
  whole = (byte ∷ line) ∷ lines;
  part = part;
  are = record {
    joined = ap (λ (l : List ℕ). byte ∷ l) are.joined;
    whole_have_none = All-cons HasNoNewline (byte ∷ line) lines (All-cons (λ b. b ≢ 10) byte line other (All-head HasNoNewline line lines are.whole_have_none)) (All-tail HasNoNewline line lines are.whole_have_none);
    last_has_none = are.last_has_none;
  };
}

pub split : (bytes : List ℕ) → Split bytes
split [] = record { whole = []; part = []; are = record { joined = refl; whole_have_none = All-nil HasNoNewline; last_has_none = All-nil (λ b. b ≢ 10) } }
split (byte ∷ bytes) =
    let rest = split bytes in
    ⊎_elim (λ is. at_newline byte bytes is rest) (λ other. within byte bytes rest.whole rest.part other rest.are) (cases_eq byte 10)

pub next_part : (read part chunk last : List ℕ) (whole more : List (List ℕ)) → AreLines read whole part → AreLines (part ++ chunk) more last → AreLines (read ++ chunk) (whole ++ more) last
next_part read part chunk last whole more first second = record {
  joined =
      ap (λ (l : List ℕ). l ++ chunk) first.joined
      ∙ append_assoc (flat_map with_newline whole) part chunk
      ∙ ap (λ (l : List ℕ). flat_map with_newline whole ++ l) second.joined
      ∙ sym (append_assoc (flat_map with_newline whole) (flat_map with_newline more) last)
      ∙ ap (λ (l : List ℕ). l ++ last) (sym (flat_map-append with_newline whole more));
  whole_have_none = All-append HasNoNewline whole more first.whole_have_none second.whole_have_none;
  last_has_none = second.last_has_none;
}

-- after lines that are answered and kept, more are
pub further : {A : Type 0} (rule : Rule A) → ((a b c : A) (ls ms : List (List ℕ)) (t u : List ℕ) → rule.answers a ls t b → rule.answers b ms u c → rule.answers a (ls ++ ms) (t ++ u) c)
    → (start middle : A) (may_leave : List ℕ → Type 0) (is_clean : Type 0) (before whole new now : List (List ℕ)) (text sent : List ℕ)
    → rule.answers start whole text middle → (is_clean → now ≡ before ++ whole) → AreAnswered rule middle may_leave is_clean now new sent → AreAnswered rule start may_leave is_clean before (whole ++ new) (text ++ sent)
further rule more start middle may_leave is_clean before whole new now text sent told is then = record {
  answered = length whole + then.answered;
  text = text ++ then.text;
  end = then.end;
  within = omega (arith, then.within, length-append whole new);
  answers = subst (λ (l : List (List ℕ)). rule.answers start l (text ++ then.text) then.end) (sym (take-append-add whole new then.answered)) (more _ _ _ _ _ _ _ told then.answers);
  written = (then.written.0, ap (λ (l : List ℕ). text ++ l) then.written.1 ∙ sym (append_assoc text sent then.written.0));
  kept = λ clean file left.
      let kept = then.kept clean file left in (
        length whole + kept.0,
        omega (arith, kept.1),
        omega (arith, kept.2, length-append whole new),
        kept.3 ∙ ap (λ (l : List (List ℕ)). l ++ take kept.0 new) (is clean) ∙ append_assoc before whole (take kept.0 new) ∙ ap (λ (l : List (List ℕ)). before ++ l) (sym (take-append-add whole new kept.0)),
      );
}

-- what comes to an end after lines that are answered and kept
pub at_stop : {A : Type 0} (rule : Rule A) → ((a b c : A) (ls ms : List (List ℕ)) (t u : List ℕ) → rule.answers a ls t b → rule.answers b ms u c → rule.answers a (ls ++ ms) (t ++ u) c)
    → (start now : A) (file : List ℕ) (may_leave : List ℕ → Type 0) (was_clean is_clean : Type 0) (before new : List (List ℕ)) (read written pending sent : List ℕ)
    → (under_way : IsUnderWay rule start now file was_clean before read written pending) → (is_clean → was_clean) → AreAnswered rule now may_leave is_clean (kept_in file) new sent
    → AreAnswered rule start may_leave is_clean before (under_way.whole ++ new) (written ++ sent)
at_stop rule more start now file may_leave was_clean is_clean before new read written pending sent under_way back then =
    further rule more start now may_leave is_clean before under_way.whole new (kept_in file) written sent under_way.answers (λ clean. under_way.kept (back clean)) then

-- more lines are answered and kept
pub gone_on : {A : Type 0} (rule : Rule A) → ((a b c : A) (ls ms : List (List ℕ)) (t u : List ℕ) → rule.answers a ls t b → rule.answers b ms u c → rule.answers a (ls ++ ms) (t ++ u) c)
    → (start middle now : A) (old_file file : List ℕ) (was_clean is_clean : Type 0) (before new : List (List ℕ)) (read written pending chunk part sent : List ℕ)
    → IsUnderWay rule start middle old_file was_clean before read written pending → (is_clean → was_clean) → AreLines (pending ++ chunk) new part → rule.answers middle new sent now
    → (is_clean → kept_in file ≡ kept_in old_file ++ new) → IsUnderWay rule start now file is_clean before (read ++ chunk) (written ++ sent) part
gone_on rule more start middle now old_file file was_clean is_clean before new read written pending chunk part sent under_way back lines told kept = record {
  whole = under_way.whole ++ new;
  lines = next_part read pending chunk part under_way.whole new under_way.lines lines;
  answers = more _ _ _ _ _ _ _ under_way.answers told;
  kept = λ clean. kept clean ∙ ap (λ (l : List (List ℕ)). l ++ new) (under_way.kept (back clean)) ∙ append_assoc before under_way.whole new;
}

-- and nothing more
pub at_rest : {A : Type 0} (rule : Rule A) → ((a b c : A) (ls ms : List (List ℕ)) (t u : List ℕ) → rule.answers a ls t b → rule.answers b ms u c → rule.answers a (ls ++ ms) (t ++ u) c) → ((a : A) → rule.answers a [] [] a)
    → (start now : A) (file : List ℕ) (may_leave : List ℕ → Type 0) (is_clean : Type 0) (before : List (List ℕ)) (read written pending : List ℕ)
    → (under_way : IsUnderWay rule start now file is_clean before read written pending) → Only file may_leave
    → AreAnswered rule start may_leave is_clean before under_way.whole written
at_rest rule more none start now file may_leave is_clean before read written pending under_way only =
    subst (λ (l : List (List ℕ)). AreAnswered rule start may_leave is_clean before l written) (append-nil under_way.whole)
    (subst (λ (l : List ℕ). AreAnswered rule start may_leave is_clean before (under_way.whole ++ []) l) (append-nil written)
    (at_stop rule more start now file may_leave is_clean is_clean before [] read written pending [] under_way (λ clean. clean) (nothing_sent rule now may_leave is_clean (kept_in file) [] (none now) (λ clean. none_lost file may_leave [] only))))

-- ---- a store that is sent

pub nothing_of_store : {A : Type 0} (rule : Rule A) (start : A) (lines : List (List ℕ)) (from : Option ℕ) → IsStoreSent rule start lines from []
nothing_of_store rule start [] from = refl
nothing_of_store rule start (first ∷ lines) from = inl refl

pub greeting_begun : {A : Type 0} (rule : Rule A) (start : A) (file : List (List ℕ)) (first : List ℕ) (lines : List (List ℕ)) (from : Option ℕ) (kept : ℕ) (sent : List ℕ)
    → file ≡ first ∷ lines → kept ≡ length lines → FitsKept from kept → Begins sent (greeting first lines) → IsStoreSent rule start file from sent
greeting_begun rule start file first lines from kept sent is size few begins =
    subst (λ (l : List (List ℕ)). IsStoreSent rule start l from sent) (sym is) (inr (subst (FitsKept from) size few, inl begins))

pub answers_begun : {A : Type 0} (rule : Rule A) (start : A) (file : List (List ℕ)) (first : List ℕ) (lines : List (List ℕ)) (from : Option ℕ) (had kept : ℕ) (greeted after : List ℕ)
    → file ≡ first ∷ lines → kept ≡ length lines → had ≡ answers_had from → FitsKept from kept → greeted ≡ greeting first lines → (after ≡ []) ⊎ HasResent rule start lines had after → IsStoreSent rule start file from (greeted ++ after)
answers_begun rule start file first lines from had kept greeted after is size had_is few greets then =
    subst (λ (l : List (List ℕ)). IsStoreSent rule start l from (greeted ++ after)) (sym is) (inr (
      subst (FitsKept from) size few,
      ⊎_elim
          (λ none. inl ([], sym greets ∙ sym (append-nil greeted) ∙ ap (λ (l : List ℕ). greeted ++ l) (sym none) ∙ sym (append-nil (greeted ++ after))))
          (λ sent. inr (after, ap (λ (l : List ℕ). l ++ after) greets, subst (λ (n : ℕ). HasResent rule start lines n after) had_is sent))
          then,
    ))

pub store_answered : {A : Type 0} (rule : Rule A) (start end : A) (file : List (List ℕ)) (first : List ℕ) (lines : List (List ℕ)) (from : Option ℕ) (had kept : ℕ) (greeted after : List ℕ)
    → file ≡ first ∷ lines → kept ≡ length lines → had ≡ answers_had from → FitsKept from kept → greeted ≡ greeting first lines → AreResent rule start lines had after end → IsStoreAnswered rule start file from (greeted ++ after) end
store_answered rule start end file first lines from had kept greeted after is size had_is few greets then =
    subst (λ (l : List (List ℕ)). IsStoreAnswered rule start l from (greeted ++ after) end) (sym is)
    (subst (FitsKept from) size few, (after, ap (λ (l : List ℕ). l ++ after) greets, subst (λ (n : ℕ). AreResent rule start lines n after end) had_is then))
