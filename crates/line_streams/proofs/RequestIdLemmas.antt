-- Lines that come again under their request ids.
use Rattle.std.proofs.Common.{◌≡◌, ◌≢◌, ◌⊎◌, inl, inr, ◌&&◌, ◌||◌, ℕ, List, [], ◌∷◌, ◌++◌, Bool, true, false, not, cond, if◌then◌else◌, refl, ap, ap₂, sym, subst, ◌∙◌, Option, None, Some, Result, Ok, Err}
use Rattle.std.proofs.lemmas.List.{append-nil, map-append}
use Rattle.std.specs.List.{list_any}
use Rattle.std.specs.Prelude.{is_some, option_map}
use Rattle.std.specs.Map.{lookup}
use Rattle.std.specs.Str.{bytes_eq}
use Rattle.std.specs.Cmp.Lexicographic.{bytes_decides}
use Rattle.sha2.specs.Sha256.{sha256}
use Rattle.ocpi_json.specs.Folded.{folded, same_folded}
use Rattle.ocpi_types.specs.declared.config.Config.{Config}
use Rattle.ocpi_types.specs.declared.refusal.Refusal.{Refusal}
use Rattle.line_streams.specs.Asked.{asked_of}
use Rattle.line_streams.specs.Change.{StreamHouse, used_text}
use Rattle.line_streams.specs.DoneLines.{Arrival, ArriveInTurn, done_lines, is_done, is_free, lines_of, taken_as, taken_if, taken_in, taken_under}
use Rattle.line_streams.specs.Law.{AreDone, HasId, IsCollision, IsDoneAs, IsToldApart, RepeatsAddNothing, RepeatsAreAnsweredAlike, UsedIdsTellLinesApart, id_key}
use Rattle.line_streams.specs.State.{Remembered, RememberedLines, RequestKey, StreamState, remembered_text, same_request}
use Rattle.line_streams.specs.Stream.{AreAnswered, IsAnswered, IsAnsweredAs, IsDoneOnce, again_text, asking, found_under, is_allowed, key_of, remembered_if, remembered_under}
use Rattle.line_streams.specs.Inner.Allowed.{IsAllowedDone, IsFirstDone}
use Rattle.line_streams.specs.declared.allowed.Allowed.{Allowed}
use Rattle.line_streams.specs.declared.asked.Asked.{Asked}
use Rattle.line_streams.specs.declared.asked.AskedLine.{AskedLine}
use Rattle.line_streams.proofs.AnsweredLemmas.{both_true, same_text, some_is_none}

-- ---- what is found

-- what is found among the first lines is found among all
before_if : (b : Bool) (first : Remembered) (some all : Option Remembered) (found : Remembered) → (some ≡ Some found → all ≡ Some found)
    → cond b (Some first) some ≡ Some found → cond b (Some first) all ≡ Some found
before_if true first some all found later h = h
before_if false first some all found later h = later h

found_before : (test : RequestKey → Bool) (lines more : RememberedLines) (found : Remembered) → lookup test lines ≡ Some found → lookup test (lines ++ more) ≡ Some found
found_before test [] more found h = absurd (some_is_none found (sym h))
found_before test (line ∷ lines) more found h =
    before_if (test line.0) line.1 (lookup test lines) (lookup test (lines ++ more)) found (found_before test lines more found) h

-- a line that is added last is found if none was found before
last_if : (b : Bool) (first : Remembered) (some all : Option Remembered) (found : Remembered) → (some ≡ None → all ≡ Some found)
    → cond b (Some first) some ≡ None → cond b (Some first) all ≡ Some found
last_if true first some all found later h = absurd (some_is_none first h)
last_if false first some all found later h = later h

found_last : (test : RequestKey → Bool) (lines : RememberedLines) (key : RequestKey) (found : Remembered) → test key ≡ true → lookup test lines ≡ None
    → lookup test (lines ++ (key, found) ∷ []) ≡ Some found
found_last test [] key found is none = ap (λ (b : Bool). cond b (Some found) None) is
found_last test (line ∷ lines) key found is none =
    last_if (test line.0) line.1 (lookup test lines) (lookup test (lines ++ (key, found) ∷ [])) found (found_last test lines key found is) none

same_itself : (key : RequestKey) → same_request key key ≡ true
same_itself key = both_true (same_folded key.platform key.platform) (bytes_eq key.id key.id) (same_text (folded key.platform)) (same_text key.id)

-- ---- one line

-- the line of a request id is answered by what is found under it
by_key : (state now : StreamState) (line text : List ℕ) (has : HasId line) → IsAnswered state line text now
    → IsDoneOnce state (Some (id_key has)) has.asks.asked (lookup (same_request (id_key has)) state.remembered) line text now
by_key state now line text has answered =
    let keyed : key_of has.asks ≡ Some (id_key has) =
    ap (λ (o : Option (List ℕ)). option_map (λ id. record { platform = asking has.asks.asked; id = id }) o) has.has_id in
    subst (λ (k : Option RequestKey). IsDoneOnce state k has.asks.asked (found_under state.remembered k) line text now) keyed
    (subst (λ (m : Result AskedLine Refusal). IsAnsweredAs state m line text now) has.reads answered)

-- what is found under the request id answers the line alike
record Answers (key : RequestKey) (lines : RememberedLines) (line text : List ℕ) : Type 0 where
  found : Remembered
  is_found : lookup (same_request key) lines ≡ Some found
  alike : again_text found line ≡ text

answers_first : (state now : StreamState) (key : RequestKey) (asks : Asked) (line text : List ℕ) (found : Option Remembered) → lookup (same_request key) state.remembered ≡ found
    → is_allowed state.house.config asks ≡ true → IsDoneOnce state (Some key) asks found line text now → Answers key now.remembered line text
answers_first state now key asks line text None none allowed done =
    let kept : Remembered = record { digest = sha256 line; config = state.house.config; answer = text } in
    record {
      found = kept;
      is_found = ap (lookup (same_request key)) (done.remembered_is ∙ ap (λ (b : Bool). state.remembered ++ remembered_if b key kept) allowed)
          ∙ found_last (same_request key) state.remembered key kept (same_itself key) none;
      alike = ap (λ (b : Bool). cond b text used_text) (same_text (sha256 line));
    }
answers_first state now key asks line text (Some found) is allowed done =
    record { found = found; is_found = ap (λ (s : StreamState). lookup (same_request key) s.remembered) done.1 ∙ is; alike = sym done.0 }

-- ---- many lines

-- nothing that is remembered is forgotten
record Keeps (state now : StreamState) : Type 0 where
  more : RememberedLines
  remembered_is : now.remembered ≡ state.remembered ++ more

keeps_none : (state now : StreamState) → now ≡ state → Keeps state now
keeps_none state now same = record { more = []; remembered_is = ap (λ (s : StreamState). s.remembered) same ∙ sym (append-nil state.remembered) }

keeps_once : (state now : StreamState) (key : Option RequestKey) (asks : Asked) (found : Option Remembered) (line text : List ℕ) → IsDoneOnce state key asks found line text now → Keeps state now
keeps_once state now key asks None line text done = record { more = _; remembered_is = done.remembered_is }
keeps_once state now key asks (Some found) line text done = keeps_none state now done.1

keeps_one : (state now : StreamState) (m : Result AskedLine Refusal) (line text : List ℕ) → IsAnsweredAs state m line text now → Keeps state now
keeps_one state now (Err why) line text answered = keeps_none state now answered.1
keeps_one state now (Ok asks) line text answered = keeps_once state now (key_of asks) asks.asked (found_under state.remembered (key_of asks)) line text answered

found_later : (key : RequestKey) (found : Remembered) (state now : StreamState) (lines : List (List ℕ)) (text : List ℕ) → AreAnswered state lines text now
    → lookup (same_request key) state.remembered ≡ Some found → lookup (same_request key) now.remembered ≡ Some found
found_later key found state now [] text answered is = ap (λ (s : StreamState). lookup (same_request key) s.remembered) answered.1 ∙ is
found_later key found state now (line ∷ lines) text answered is =
    let kept = keeps_one state answered.middle (asked_of line) line answered.one answered.first in
    found_later key found answered.middle now lines answered.others answered.rest
    (ap (lookup (same_request key)) kept.remembered_is ∙ found_before (same_request key) state.remembered kept.more found is)

pub alike : RepeatsAreAnsweredAlike
alike state middle later now line between text texts again is first others repeated =
    let key = id_key is.has in
    let it = answers_first state middle key is.has.asks.asked line text (lookup (same_request key) state.remembered) refl is.allowed
    (by_key state middle line text is.has first) in
    let still = found_later key it.found middle later between texts others it.is_found in
    let done : IsDoneOnce later (Some key) is.has.asks.asked (Some it.found) line again now =
    subst (λ (found : Option Remembered). IsDoneOnce later (Some key) is.has.asks.asked found line again now) still (by_key later now line again is.has repeated) in
    (done.0 ∙ it.alike, done.1)

-- ---- other lines under a used request id

-- the same id finds the same
same_as : (one other : List ℕ) → bytes_eq one other ≡ true → one ≡ other
same_as one other same = (bytes_decides one other).0 same

left_true : (one other : Bool) → (one && other) ≡ true → one ≡ true
left_true true other both = refl
left_true false other both = both

right_true : (one other : Bool) → (one && other) ≡ true → other ≡ true
right_true true other both = both
right_true false other both = absurd (cc)

found_alike : (one other : RequestKey) (lines : RememberedLines) → same_request one other ≡ true → lookup (same_request one) lines ≡ lookup (same_request other) lines
found_alike one other lines same =
    let platforms = same_as (folded one.platform) (folded other.platform) (left_true (same_folded one.platform other.platform) (bytes_eq one.id other.id) same) in
    let ids = same_as one.id other.id (right_true (same_folded one.platform other.platform) (bytes_eq one.id other.id) same) in
    ap₂ (λ (platform id : List ℕ). lookup (λ (key : RequestKey). bytes_eq platform (folded key.platform) && bytes_eq id key.id) lines) platforms ids

different_texts : (one other : List ℕ) → bytes_eq one other ≡ false → one ≢ other
different_texts one other differ same = let alike = (bytes_decides one other).1 same in absurd (cc)

-- two texts with one digest are one, or a collision
one_or_collision : (same : Bool) (one other : List ℕ) → bytes_eq one other ≡ same → sha256 one ≡ sha256 other → (one ≡ other) ⊎ IsCollision one other
one_or_collision true one other is digests = inl (same_as one other is)
one_or_collision false one other is digests = inr (record { different = different_texts one other is; same = digests })

told_apart : (same : Bool) (first text line again : List ℕ) → bytes_eq (sha256 first) (sha256 line) ≡ same → again ≡ cond same text used_text → IsToldApart first text line again
told_apart true first text line again is answer =
    inl (answer, one_or_collision (bytes_eq line first) line first refl (sym (same_as (sha256 first) (sha256 line) is)))
told_apart false first text line again is answer =
    inr (answer, λ same. different_texts (sha256 first) (sha256 line) is (ap sha256 (sym same)))

-- what is found under the request id that a line took
taken_first : (state now : StreamState) (key : RequestKey) (asks : Asked) (line text : List ℕ) → lookup (same_request key) state.remembered ≡ None
    → is_allowed state.house.config asks ≡ true → IsDoneOnce state (Some key) asks (lookup (same_request key) state.remembered) line text now
    → lookup (same_request key) now.remembered ≡ Some (record { digest = sha256 line; config = state.house.config; answer = text })
taken_first state now key asks line text none allowed done =
    let first : IsDoneOnce state (Some key) asks None line text now = subst (λ (found : Option Remembered). IsDoneOnce state (Some key) asks found line text now) none done in
    ap (lookup (same_request key)) (first.remembered_is ∙ ap (λ (b : Bool). state.remembered ++ remembered_if b key (record { digest = sha256 line; config = state.house.config; answer = text })) allowed)
    ∙ found_last (same_request key) state.remembered key (record { digest = sha256 line; config = state.house.config; answer = text }) (same_itself key) none

pub apart : UsedIdsTellLinesApart
apart state middle later now first line between text texts again is none done others has same answered =
    let key = id_key is.has in
    let kept : Remembered = record { digest = sha256 first; config = state.house.config; answer = text } in
    let took = taken_first state middle key is.has.asks.asked first text none is.allowed (by_key state middle first text is.has done) in
    let found = sym (found_alike key (id_key has) later.remembered same) ∙ found_later key kept middle later between texts others took in
    let once : IsDoneOnce later (Some (id_key has)) has.asks.asked (Some kept) line again now =
    subst (λ (it : Option Remembered). IsDoneOnce later (Some (id_key has)) has.asks.asked it line again now) found (by_key later now line again has answered) in
    (told_apart (bytes_eq (sha256 first) (sha256 line)) first text line again refl once.0, once.1)

-- ---- what is done

-- a request id is taken if a line is remembered under it
is_taken : (key : RequestKey) (lines : RememberedLines) → list_any (same_request key) (taken_in lines) ≡ is_some (lookup (same_request key) lines)
is_taken key [] = refl
is_taken key (line ∷ lines) = by (same_request key line.0) (is_taken key lines)
  where
    by : (b : Bool) → list_any (same_request key) (taken_in lines) ≡ is_some (lookup (same_request key) lines)
        → (b || list_any (same_request key) (taken_in lines)) ≡ is_some (cond b (Some line.1) (lookup (same_request key) lines))
    by true rest = refl
    by false rest = rest

abbrev is_absent : Option Remembered → Bool
is_absent None = true
is_absent (Some found) = false

free_if_absent : (key : Option RequestKey) (lines : RememberedLines) → is_free (taken_in lines) key ≡ is_absent (found_under lines key)
free_if_absent None lines = refl
free_if_absent (Some key) lines = ap not (is_taken key lines) ∙ by (lookup (same_request key) lines)
  where
    by : (found : Option Remembered) → not (is_some found) ≡ is_absent found
    by None = refl
    by (Some found) = refl

-- a line that is done takes its request id
taken_more : (config : Config) (key : Option RequestKey) (asks : Asked) (line text : List ℕ) (lines : RememberedLines)
    → taken_in (lines ++ remembered_under config key asks line text) ≡ taken_in lines ++ taken_under config key asks
taken_more config key asks line text lines =
    map-append (λ (entry : RequestKey × Remembered). entry.0) lines (remembered_under config key asks line text) ∙ ap (λ (more : List RequestKey). taken_in lines ++ more) (by key)
  where
    by_if : (b : Bool) (key : RequestKey) → taken_in (remembered_if b key (record { digest = sha256 line; config = config; answer = text })) ≡ taken_if b key
    by_if true key = refl
    by_if false key = refl

    by : (key : Option RequestKey) → taken_in (remembered_under config key asks line text) ≡ taken_under config key asks
    by None = refl
    by (Some key) = by_if (is_allowed config asks) key

-- those of the later lines that are done lead from this state to the last house
abbrev LaterDone : StreamState → List Arrival → StreamHouse → Type 0
LaterDone state later last = (texts : List ℕ) × AreDone state.house (done_lines (taken_in state.remembered) later) texts last

-- so do this line, if it is done, and those of the later ones
abbrev AllDone : StreamState → List ℕ → List RequestKey → List Arrival → StreamHouse → Bool → Type 0
AllDone state line more later last done =
    (texts : List ℕ)
    × AreDone state.house
    (if done then line ∷ done_lines (taken_in state.remembered ++ more) later else done_lines (taken_in state.remembered) later) texts last

passed_over : (state middle : StreamState) (line : List ℕ) (more : List RequestKey) (later : List Arrival) (last : StreamHouse) → middle ≡ state
    → LaterDone middle later last → AllDone state line more later last false
passed_over state middle line more later last same rest = subst (λ (s : StreamState). LaterDone s later last) same rest

done_by_key : (state middle : StreamState) (line text : List ℕ) (asks : AskedLine) (key : Option RequestKey) (found : Option Remembered) (later : List Arrival) (last : StreamHouse)
    → asked_of line ≡ Ok asks → IsDoneOnce state key asks.asked found line text middle → LaterDone middle later last
    → AllDone state line (taken_under state.house.config key asks.asked) later last (is_absent found)
done_by_key state middle line text asks key None later last reads done rest = (
  text ++ rest.0,
  record {
    one = text;
    others = rest.0;
    middle = middle.house;
    text_is = refl;
    first = subst (λ (m : Result AskedLine Refusal). IsDoneAs state.house m text middle.house) (sym reads) done.done;
    rest = subst (λ (taken : List RequestKey). AreDone middle.house (done_lines taken later) rest.0 last)
        (ap taken_in done.remembered_is ∙ taken_more state.house.config key asks.asked line text state.remembered) rest.1;
  },
)
done_by_key state middle line text asks key (Some found) later last reads done rest =
    passed_over state middle line (taken_under state.house.config key asks.asked) later last done.1 rest

done_one : (state middle : StreamState) (line text : List ℕ) (m : Result AskedLine Refusal) (later : List Arrival) (last : StreamHouse) → asked_of line ≡ m
    → IsAnsweredAs state m line text middle → LaterDone middle later last
    → AllDone state line (taken_as state.house.config m) later last (is_done (taken_in state.remembered) m)
done_one state middle line text (Err why) later last reads answered rest = passed_over state middle line [] later last answered.1 rest
done_one state middle line text (Ok asks) later last reads answered rest =
    subst (AllDone state line (taken_under state.house.config (key_of asks) asks.asked) later last) (sym (free_if_absent (key_of asks) state.remembered))
    (done_by_key state middle line text asks (key_of asks) (found_under state.remembered (key_of asks)) later last reads answered rest)

record AreDoneOf (state : StreamState) (lines : List (List ℕ)) (text : List ℕ) (now : StreamState) : Type 0 where
  arrivals : List Arrival
  lines_are : lines_of arrivals ≡ lines
  arrive : ArriveInTurn state arrivals text now
  done : LaterDone state arrivals now.house

done_of : (state now : StreamState) (lines : List (List ℕ)) (text : List ℕ) → AreAnswered state lines text now → AreDoneOf state lines text now
done_of state now [] text answered =
    record { arrivals = []; lines_are = refl; arrive = answered; done = ([], (refl, ap (λ (s : StreamState). s.house) answered.1)) }
done_of state now (line ∷ lines) text answered =
    let later = done_of answered.middle now lines answered.others answered.rest in
    record {
      arrivals = record { config = state.house.config; line = line } ∷ later.arrivals;
      lines_are = ap (λ (ls : List (List ℕ)). line ∷ ls) later.lines_are;
      arrive = (
        refl,
        record {
          one = answered.one;
          others = answered.others;
          middle = answered.middle;
          text_is = answered.text_is;
          first = answered.first;
          rest = later.arrive;
        },
      );
      done = done_one state answered.middle line answered.one (asked_of line) later.arrivals now.house refl answered.first later.done;
    }

pub add_nothing : RepeatsAddNothing
add_nothing state lines text now answered = let of = done_of state now lines text answered in (of.arrivals, of.lines_are, of.arrive, of.done)

-- ---- the bodies

-- a line that is done and remembered last
pub first_done : (state now : StreamState) (key : RequestKey) (allowed : Allowed) (line : List ℕ) (kept : Remembered) → lookup (same_request key) state.remembered ≡ None
    → kept.digest ≡ sha256 line → kept.config ≡ state.house.config → IsAllowedDone state.house allowed kept.answer now.house
    → now.remembered ≡ state.remembered ++ (key, kept) ∷ []
    → IsFirstDone state key allowed line (remembered_text (lookup (same_request key) now.remembered)) now
first_done state now key allowed line kept absent digest config done remembered =
    let text : List ℕ = remembered_text (lookup (same_request key) now.remembered) in
    let is : text ≡ kept.answer =
    ap remembered_text (ap (lookup (same_request key)) remembered ∙ found_last (same_request key) state.remembered key kept (same_itself key) absent) in
    let same : kept ≡ record { digest = sha256 line; config = state.house.config; answer = text } =
    ap₂ (λ (d a : List ℕ). record { digest = d; config = kept.config; answer = a }) digest (sym is)
    ∙ ap (λ (g : Config). record { digest = sha256 line; config = g; answer = text }) config in
    record {
      done = subst (λ (t : List ℕ). IsAllowedDone state.house allowed t now.house) (sym is) done;
      remembered_is = remembered ∙ ap (λ (r : Remembered). state.remembered ++ (key, r) ∷ []) same;
    }
