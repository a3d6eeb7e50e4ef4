-- Lines of a stream, one after another.
use Rattle.std.proofs.Common.{◌≡◌, ⊎_elim, ℕ, List, [], ◌∷◌, ◌++◌, Bool, true, false, cond, refl, ap, ap₂, sym, subst, ◌∙◌, Option, None, Some, Result, Ok, Err, length, ◌<◌, ◌+◌, suc, arith, length-append}
use Rattle.std.proofs.lemmas.List.{append-nil}
use Rattle.std.specs.Prelude.{slice_get, unwrap_or}
use Rattle.json.specs.Json.{Json as Data}
use Rattle.ocpi_json.specs.Members.{◌>>=◌}
use Rattle.ocpi_json.specs.Reading.{data_of}
use Rattle.ocpi_json.specs.declared.member_fault.MemberFault.{MemberFault}
use Rattle.ocpi_types.specs.declared.config.Config.{Config}
use Rattle.ocpi_types.specs.declared.refusal.Refusal.{Refusal}
use Rattle.ocpi_types.specs.Config.{is_hub}
use Rattle.cdr_checks.specs.Admission.{IsAdmitted, admission}
use Rattle.cdr_checks.specs.declared.request.Command.{Command}
use Rattle.cdr_checks.specs.declared.request.Request.{Request}
use Rattle.plain_house.specs.declared.event.Event.{Event}
use Rattle.plain_house.specs.Legal.{CommandsKeepListsLegal, IsLegal}
use Rattle.plain_house.specs.House.{events_after, verdict}
use Rattle.plain_house.specs.Known.{known}
use Rattle.plain_house.specs.Replies.{with_event}
use Rattle.period_order.specs.Judging.{ConfigurationsJudgeForThemselves}
use Rattle.new_configuration.specs.Loosened.{LoosenedJudgesWider, loosened}
use Rattle.house_statements.specs.Order.{event_name}
use Rattle.request_lines.specs.AnswerText.{answer_text}
use Rattle.request_lines.specs.RequestText.{request_at, request_in, request_of}
use Rattle.request_lines.specs.RequestText as lines
use Rattle.request_lines.specs.Script.{admitted, after, answer_of, command_in, list_after, list_with, reply_in, reply_to}
use Rattle.new_configuration.specs.TakenOver.{FirstOtherwiseIsUnique, IsFirstOtherwise, TakenOverIsWhole}
use Rattle.line_streams.specs.Asked.{asked_at, asked_of, changes_at, is_change_in, line_in, or_field, requests_at}
use Rattle.line_streams.specs.Change.{ByHub, IsChanged, IsConfigured, IsDone, IsKeptAsItIs, IsLowered, StreamHouse, lowered_text, otherwise_text}
use Rattle.line_streams.specs.Law.{HasNoRequestId, IsOfScript, IsSound, StreamsAreDetermined, StreamsStaySound, UnchangedIsAScript}
use Rattle.line_streams.specs.State.{Remembered, RememberedLines, RequestKey, StreamState}
use Rattle.line_streams.specs.Stream.{AreAnswered, IsAnswered, IsAnsweredAs, IsDoneOnce, found_under, key_of, remembered_under}
use Rattle.line_streams.specs.declared.asked.Asked.{Asked}
use Rattle.line_streams.specs.declared.asked.Asked.TheVariants as asked
use Rattle.line_streams.specs.declared.asked.AskedLine.{AskedLine}

-- ---- states

pub same_stream : (a b : StreamState) → a.house ≡ b.house → a.remembered ≡ b.remembered → a ≡ b
same_stream a b houses lines = ap₂ (λ (h : StreamHouse) (l : RememberedLines). record { house = h; remembered = l }) houses lines

-- ---- lines of a script

abbrev as_line : Result Request Refusal → Result AskedLine Refusal
as_line (Ok request) = Ok (record { id = None; asked = asked.Request request })
as_line (Err why) = Err why

abbrev as_asked : Option (List ℕ) → Result Request MemberFault → Result AskedLine MemberFault
as_asked id found = found >>= (λ request. Ok (asked.Request request)) >>= (λ asked. Ok (record { id = id; asked = asked }))

or_same : (found : Result Request MemberFault) → or_field (as_asked None found) ≡ as_line (lines.or_field found)
or_same (Ok request) = refl
or_same (Err fault) = refl

asks_in : (d : Option Data) → is_change_in d ≡ false → HasNoRequestId d → line_in d ≡ as_line (request_in d)
asks_in None none no_id = refl
asks_in (Some node) none no_id =
    ap (λ (m : Result (Option (List ℕ)) MemberFault). or_field (m >>= (λ id. asked_at node >>= (λ asked. Ok (record { id = id; asked = asked }))))) no_id
    ∙ ap (λ (b : Bool). or_field (cond b (changes_at node) (requests_at node) >>= (λ asked. Ok (record { id = None; asked = asked })))) none
    ∙ or_same (request_at node)

asks_request : (line : List ℕ) → IsOfScript line → asked_of line ≡ as_line (request_of line)
unfolding asked_of request_of
asks_request line of = asks_in (data_of line) of.0 of.1

abbrev HouseAfter : StreamState → List Event → StreamState
HouseAfter state events = record { house = record { base = state.house.base; config = state.house.config; events = events }; remembered = state.remembered }

as_script : (state now : StreamState) (line text : List ℕ) (m : Result Request Refusal) → IsAnsweredAs state (as_line m) line text now
    → (text ≡ answer_text state.house.config (reply_to state.house.config state.house.events (admitted state.house.config m)))
    × (now ≡ HouseAfter state (list_with state.house.config state.house.events (admitted state.house.config m)))
as_script state now line text (Ok request) answered =
    (answered.done.text_is, same_stream now (HouseAfter state _) answered.done.now_is (answered.remembered_is ∙ append-nil state.remembered))
as_script state now line text (Err why) answered = (answered.0, answered.1)

one_as_script : (state now : StreamState) (line text : List ℕ) → IsOfScript line → IsAnsweredAs state (asked_of line) line text now
    → (text ≡ answer_of state.house.config state.house.events line) × (now ≡ HouseAfter state (after state.house.config state.house.events line))
unfolding answer_of after reply_in command_in
one_as_script state now line text of answered =
    as_script state now line text (request_of line) (subst (λ (m : Result AskedLine Refusal). IsAnsweredAs state m line text now) (asks_request line of) answered)

pub script : UnchangedIsAScript
script state [] text now none answered = (answered.0, answered.1)
script state (line ∷ lines) text now none answered =
    let first = one_as_script state answered.middle line answered.one none.0 answered.first in
    let then : StreamState = HouseAfter state (after state.house.config state.house.events line) in
    let rest = script then lines answered.others now none.1 (subst (λ (s : StreamState). AreAnswered s lines answered.others now) first.1 answered.rest) in
    (answered.text_is ∙ ap₂ (λ (a b : List ℕ). a ++ b) first.0 rest.0, rest.1)

-- ---- legal lists

pub is_admitted : (config : Config) (request : Request) (told : Command) → admission config request ≡ Ok told → IsAdmitted config told
unfolding IsAdmitted
is_admitted config request told admits = (request, admits)

-- what a command adds under the configuration in force is legal under the base
legal_after : CommandsKeepListsLegal → (house : StreamHouse) (told : Command) → IsSound house → IsAdmitted house.config told → IsLegal house.base (events_after house.config house.events told)
legal_after law house told sound admitted = go (verdict house.config (known house.events) told).event refl
  where
    go : (added : Option Event) → (verdict house.config (known house.events) told).event ≡ added → IsLegal house.base (events_after house.config house.events told)
    go None is = subst (λ (o : Option Event). IsLegal house.base (with_event house.events o)) (sym is) sound.legal
    go (Some event) is =
        let given = sound.judges.adds (known house.events) event (told, admitted, is) in
        subst (λ (o : Option Event). IsLegal house.base (with_event house.events o)) (given.2 ∙ sym is) (law house.base house.events given.0 sound.legal given.1)

legal_with : CommandsKeepListsLegal → (house : StreamHouse) (request : Request) (m : Result Command Refusal) → admission house.config request ≡ m
    → IsSound house → IsLegal house.base (list_with house.config house.events m)
legal_with law house request (Ok told) admits sound = legal_after law house told sound (is_admitted house.config request told admits)
legal_with law house request (Err why) admits sound = sound.legal

module _ (law : CommandsKeepListsLegal) (itself : ConfigurationsJudgeForThemselves) (wider : LoosenedJudgesWider) where
  sound_changed : (house now : StreamHouse) (config : Config) (text : List ℕ) → IsChanged house config text now → IsSound house → IsSound now
  sound_changed house now config text changed sound = ⊎_elim
      (λ configured. subst IsSound (sym configured.now_is) (record { legal = configured.legal; judges = itself config }))
      (⊎_elim
      (λ lowered. subst IsSound (sym lowered.now_is) (record { legal = lowered.legal; judges = wider config }))
      (λ kept. subst IsSound (sym kept.now_is) sound))
      changed

  sound_by : (hub : Bool) (house now : StreamHouse) (config : Config) (text : List ℕ) → ByHub hub house config text now → IsSound house → IsSound now
  sound_by true house now config text by sound = sound_changed house now config text by sound
  sound_by false house now config text by sound = subst IsSound (sym by.1) sound

  sound_done : (house now : StreamHouse) (asks : Asked) (text : List ℕ) → IsDone house asks text now → IsSound house → IsSound now
  sound_done house now (asked.Request request) text done sound =
      subst IsSound (sym done.now_is) (record { legal = legal_with law house request (admission house.config request) refl sound; judges = sound.judges })
  sound_done house now (asked.Change change) text done sound = sound_by (is_hub house.config change.platform) house now change.config text done sound

  sound_once : (state now : StreamState) (key : Option RequestKey) (asks : Asked) (found : Option Remembered) (line text : List ℕ)
      → IsDoneOnce state key asks found line text now → IsSound state.house → IsSound now.house
  sound_once state now key asks None line text done sound = sound_done state.house now.house asks text done.done sound
  sound_once state now key asks (Some found) line text done sound = subst (λ (s : StreamState). IsSound s.house) (sym done.1) sound

  sound_one : (state now : StreamState) (m : Result AskedLine Refusal) (line text : List ℕ) → IsAnsweredAs state m line text now → IsSound state.house → IsSound now.house
  sound_one state now (Err why) line text answered sound = subst (λ (s : StreamState). IsSound s.house) (sym answered.1) sound
  sound_one state now (Ok asks) line text answered sound = sound_once state now (key_of asks) asks.asked (found_under state.remembered (key_of asks)) line text answered sound

  pub stays_sound : StreamsStaySound
  stays_sound state [] text now sound answered = subst (λ (s : StreamState). IsSound s.house) (sym answered.1) sound
  stays_sound state (line ∷ lines) text now sound answered =
      stays_sound answered.middle lines answered.others now (sound_one state answered.middle (asked_of line) line answered.one answered.first sound) answered.rest

-- ---- one way

abbrev AreOne : {A : Type 0} → List ℕ → List ℕ → A → A → Type 0
AreOne one other now then = (one ≡ other) × (now ≡ then)

-- the event of a number is the one after the events before it
pub at_split : (before : List Event) (event : Event) (later : List Event) → slice_get (before ++ event ∷ later) (length before) ≡ Some event
at_split [] event later = refl
at_split (first ∷ before) event later = at_split before event later

pub event_at : (events : List Event) (config : Config) (number : ℕ) (first : IsFirstOtherwise config events number) → slice_get events number ≡ Some first.event
event_at events config number first =
    ap₂ (λ (l : List Event) (n : ℕ). slice_get l n) first.split first.number_is ∙ at_split first.before first.event first.later

unwrapped : (one other : Event) → Some one ≡ Some other → one ≡ other
unwrapped one other same = ap (λ (o : Option Event). unwrap_or o one) same

-- a text that names the first event that would come out otherwise
same_naming : FirstOtherwiseIsUnique → (text : ℕ → List ℕ → List ℕ) (config : Config) (events : List Event) (one other : ℕ)
    (first : IsFirstOtherwise config events one) (second : IsFirstOtherwise config events other) → text one (event_name first.event) ≡ text other (event_name second.event)
same_naming unique text config events one other first second =
    let number : one ≡ other = unique config events one other first second in
    let event : first.event ≡ second.event =
    unwrapped first.event second.event (sym (event_at events config one first) ∙ ap (λ (n : ℕ). slice_get events n) number ∙ event_at events config other second) in
    ap₂ (λ (n : ℕ) (e : Event). text n (event_name e)) number event

-- what is legal under a configuration is legal under the loosened one
loosely_legal : LoosenedJudgesWider → (config : Config) (events : List Event) → IsLegal config events → IsLegal (loosened config) events
unfolding IsLegal
loosely_legal wider config events legal = λ before event later split. (wider config).adds (known before) event (legal before event later split)

module _ (wider : LoosenedJudgesWider) (whole : TakenOverIsWhole) (unique : FirstOtherwiseIsUnique) where
  one_configured : (house now then : StreamHouse) (config : Config) (one other : List ℕ) → IsConfigured house config one now → IsChanged house config other then → AreOne one other now then
  one_configured house now then config one other first second = ⊎_elim
      (λ again. (first.text_is ∙ sym again.text_is, first.now_is ∙ sym again.now_is))
      (⊎_elim
      (λ lowered. absurd (whole config house.events lowered.number first.legal lowered.first))
      (λ kept. absurd (whole (loosened config) house.events kept.number (loosely_legal wider config house.events first.legal) kept.first)))
      second

  one_lowered : (house now then : StreamHouse) (config : Config) (one other : List ℕ) → IsLowered house config one now → IsChanged house config other then → AreOne one other now then
  one_lowered house now then config one other first second = ⊎_elim
      (λ configured. absurd (whole config house.events first.number configured.legal first.first))
      (⊎_elim
      (λ again. (
        first.text_is ∙ same_naming unique (lowered_text (length house.events)) config house.events first.number again.number first.first again.first ∙ sym again.text_is,
        first.now_is ∙ sym again.now_is,
      ))
      (λ kept. absurd (whole (loosened config) house.events kept.number first.legal kept.first)))
      second

  one_kept : (house now then : StreamHouse) (config : Config) (one other : List ℕ) → IsKeptAsItIs house config one now → IsChanged house config other then → AreOne one other now then
  one_kept house now then config one other first second = ⊎_elim
      (λ configured. absurd (whole (loosened config) house.events first.number (loosely_legal wider config house.events configured.legal) first.first))
      (⊎_elim
      (λ lowered. absurd (whole (loosened config) house.events first.number lowered.legal first.first))
      (λ again. (
        first.text_is ∙ same_naming unique (otherwise_text (length house.events)) (loosened config) house.events first.number again.number first.first again.first ∙ sym again.text_is,
        first.now_is ∙ sym again.now_is,
      )))
      second

  one_change : (house now then : StreamHouse) (config : Config) (one other : List ℕ) → IsChanged house config one now → IsChanged house config other then → AreOne one other now then
  one_change house now then config one other first second = ⊎_elim
      (λ configured. one_configured house now then config one other configured second)
      (⊎_elim (λ lowered. one_lowered house now then config one other lowered second) (λ kept. one_kept house now then config one other kept second))
      first

  one_by : (hub : Bool) (house now then : StreamHouse) (config : Config) (one other : List ℕ) → ByHub hub house config one now → ByHub hub house config other then → AreOne one other now then
  one_by true house now then config one other first second = one_change house now then config one other first second
  one_by false house now then config one other first second = (first.0 ∙ sym second.0, first.1 ∙ sym second.1)

  one_done : (house now then : StreamHouse) (asks : Asked) (one other : List ℕ) → IsDone house asks one now → IsDone house asks other then → AreOne one other now then
  one_done house now then (asked.Request request) one other first second = (first.text_is ∙ sym second.text_is, first.now_is ∙ sym second.now_is)
  one_done house now then (asked.Change change) one other first second = one_by (is_hub house.config change.platform) house now then change.config one other first second

  one_once : (state now then : StreamState) (key : Option RequestKey) (asks : Asked) (found : Option Remembered) (line one other : List ℕ)
      → IsDoneOnce state key asks found line one now → IsDoneOnce state key asks found line other then → AreOne one other now then
  one_once state now then key asks None line one other first second =
      let done = one_done state.house now.house then.house asks one other first.done second.done in (
        done.0,
        same_stream now then done.1
            (first.remembered_is ∙ ap (λ (text : List ℕ). state.remembered ++ remembered_under state.house.config key asks line text) done.0 ∙ sym second.remembered_is),
      )
  one_once state now then key asks (Some found) line one other first second = (first.0 ∙ sym second.0, first.1 ∙ sym second.1)

  one_line : (state now then : StreamState) (m : Result AskedLine Refusal) (line one other : List ℕ) → IsAnsweredAs state m line one now → IsAnsweredAs state m line other then → AreOne one other now then
  one_line state now then (Err why) line one other first second = (first.0 ∙ sym second.0, first.1 ∙ sym second.1)
  one_line state now then (Ok asks) line one other first second =
      one_once state now then (key_of asks) asks.asked (found_under state.remembered (key_of asks)) line one other first second

  pub determined : StreamsAreDetermined
  determined state [] one other now then first second = (first.0 ∙ sym second.0, first.1 ∙ sym second.1)
  determined state (line ∷ lines) one other now then first second =
      let same = one_line state first.middle second.middle (asked_of line) line first.one second.one first.first second.first in
      let rest = determined second.middle lines first.others second.others now then (subst (λ (s : StreamState). AreAnswered s lines first.others now) same.1 first.rest) second.rest in
      (first.text_is ∙ ap₂ (λ (a b : List ℕ). a ++ b) same.0 rest.0 ∙ sym second.text_is, rest.1)

-- ---- the bodies

pub within : (events : List Event) (config : Config) (number : ℕ) → IsFirstOtherwise config events number → number < length events
within events config number first =
    let size : length events ≡ length first.before + suc (length first.later) = ap length first.split ∙ length-append first.before (first.event ∷ first.later) in
    omega (arith, size, first.number_is)

-- the first event of one list and configuration is that of equal ones
pub first_at : (events events' : List Event) (config config' : Config) (number : ℕ) → events ≡ events' → config ≡ config' → IsFirstOtherwise config events number → IsFirstOtherwise config' events' number
first_at events events' config config' number same same' first =
    subst (λ (c : Config). IsFirstOtherwise c events' number) same' (subst (λ (l : List Event). IsFirstOtherwise config l number) same first)

-- one line alone
pub one_answer : (state now : StreamState) (line text : List ℕ) → IsAnswered state line text now → AreAnswered state (line ∷ []) text now
one_answer state now line text answered = record { one = text; others = []; middle = now; text_is = sym (append-nil text); first = answered; rest = (refl, refl) }
