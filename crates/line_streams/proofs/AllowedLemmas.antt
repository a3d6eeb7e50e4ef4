-- What is allowed and done, and what is refused.
use Rattle.std.proofs.Common.{◌≡◌, ℕ, List, ◌++◌, Bool, true, false, refl, sym, ap, subst, ◌∙◌, Option, None, Some, Result, Ok, Err}
use Rattle.std.proofs.lemmas.List.{append-nil}
use Rattle.std.specs.Prelude.{is_ok}
use Rattle.ocpi_types.specs.Config.{is_hub}
use Rattle.ocpi_types.specs.declared.config.Config.{Config}
use Rattle.ocpi_types.specs.declared.refusal.Refusal.{Refusal}
use Rattle.cdr_checks.specs.Admission.{admission}
use Rattle.cdr_checks.specs.declared.request.Command.{Command}
use Rattle.plain_house.specs.declared.event.Event.{Event}
use Rattle.request_lines.specs.AnswerText.{answer_text}
use Rattle.request_lines.specs.Script.{list_with, reply_to}
use Rattle.line_streams.specs.Change.{ByHub, IsDone, StreamHouse, refused_text}
use Rattle.line_streams.specs.Given.{IsDoneNow, IsGivenOnce, IsReplyByHub, IsReplyTo, done_in}
use Rattle.line_streams.specs.State.{Remembered, RememberedLines, RequestKey, StreamState, line_text}
use Rattle.sha2.specs.Sha256.{sha256}
use Rattle.line_streams.specs.Stream.{IsDoneLine, IsDoneOnce, is_allowed, remembered_if}
use Rattle.line_streams.specs.Inner.Allowed.{IsAllowedDone, IsAllowedNow, IsDoneIf, IsFirstDone, IsReplyIf, IsReplyToAllowed, allow, of_change, of_command}
use Rattle.line_streams.specs.declared.allowed.Allowed.{Allowed}
use Rattle.line_streams.specs.declared.answered.AnsweredLines.{AnsweredLines}
use Rattle.line_streams.specs.declared.asked.Asked.{Asked}
use Rattle.line_streams.specs.declared.asked.Asked.TheVariants as asked
use Rattle.line_streams.specs.declared.reply.LineReply.{LineReply}
use Rattle.line_streams.specs.declared.reply.LineReply.TheVariants as given
use Rattle.line_streams.specs.declared.reply.StreamReply.{StreamReply}
use Rattle.line_streams.specs.declared.reply.StreamReply.TheVariants as reply

-- ---- what is done

abbrev HouseWith : StreamHouse → List Event → StreamHouse
HouseWith house events = record { base = house.base; config = house.config; events = events }

done_request : (house now : StreamHouse) (m : Result Command Refusal) (text : List ℕ) → IsDoneIf house (of_command m) text now
    → (text ≡ answer_text house.config (reply_to house.config house.events m)) × (now ≡ HouseWith house (list_with house.config house.events m))
done_request house now (Ok command) text done = (done.text_is, done.now_is)
done_request house now (Err why) text done = (done.0, done.1)

done_change : (hub : Bool) (house now : StreamHouse) (config : Config) (text : List ℕ) → IsDoneIf house (of_change hub config) text now → ByHub hub house config text now
done_change true house now config text done = done
done_change false house now config text done = done

pub done_if : (house now : StreamHouse) (asks : Asked) (text : List ℕ) → IsDoneIf house (allow house.config asks) text now → IsDone house asks text now
done_if house now (asked.Request request) text done =
    let it = done_request house now (admission house.config request) text done in
    record { text_is = it.0; now_is = it.1 }
done_if house now (asked.Change change) text done = done_change (is_hub house.config change.platform) house now change.config text done

-- ---- the reply to it

reply_request : (house : StreamHouse) (m : Result Command Refusal) (answer : StreamReply) → IsReplyIf house (of_command m) answer
    → answer ≡ reply.House (reply_to house.config house.events m)
reply_request house (Ok command) answer is = is
reply_request house (Err why) answer is = is

reply_change : (hub : Bool) (house : StreamHouse) (config : Config) (answer : StreamReply) → IsReplyIf house (of_change hub config) answer → IsReplyByHub hub house config answer
reply_change true house config answer is = is
reply_change false house config answer is = is

pub reply_if : (house : StreamHouse) (asks : Asked) (answer : StreamReply) → IsReplyIf house (allow house.config asks) answer → IsReplyTo house asks answer
reply_if house (asked.Request request) answer is = reply_request house (admission house.config request) answer is
reply_if house (asked.Change change) answer is = reply_change (is_hub house.config change.platform) house change.config answer is

-- ---- whether it is allowed

command_allowed : (m : Result Command Refusal) → is_ok m ≡ is_ok (of_command m)
command_allowed (Ok command) = refl
command_allowed (Err why) = refl

change_allowed : (hub : Bool) (config : Config) → hub ≡ is_ok (of_change hub config)
change_allowed true config = refl
change_allowed false config = refl

pub allowed_is : (config : Config) (asks : Asked) → is_allowed config asks ≡ is_ok (allow config asks)
allowed_is config (asked.Request request) = command_allowed (admission config request)
allowed_is config (asked.Change change) = change_allowed (is_hub config change.platform) change.config

-- ---- the bodies

pub done_allowed : (house now : StreamHouse) (asks : Asked) (allowed : Allowed) (text : List ℕ) → allow house.config asks ≡ Ok allowed → IsAllowedDone house allowed text now
    → IsDone house asks text now
done_allowed house now asks allowed text is done = done_if house now asks text (subst (λ (m : Result Allowed Refusal). IsDoneIf house m text now) (sym is) done)

pub done_refused : (house : StreamHouse) (asks : Asked) (why : Refusal) (text : List ℕ) → allow house.config asks ≡ Err why → text ≡ refused_text house.config why
    → IsDone house asks text house
done_refused house asks why text is text_is = done_if house house asks text (subst (λ (m : Result Allowed Refusal). IsDoneIf house m text house) (sym is) (text_is, refl))

pub reply_allowed : (house : StreamHouse) (asks : Asked) (allowed : Allowed) (answer : StreamReply) → allow house.config asks ≡ Ok allowed → IsReplyToAllowed house allowed answer
    → IsReplyTo house asks answer
reply_allowed house asks allowed answer is replied = reply_if house asks answer (subst (λ (m : Result Allowed Refusal). IsReplyIf house m answer) (sym is) replied)

pub reply_refused : (house : StreamHouse) (asks : Asked) (why : Refusal) (answer : StreamReply) → allow house.config asks ≡ Err why
    → answer ≡ reply.House (Err (record { at = None; refusal = why })) → IsReplyTo house asks answer
reply_refused house asks why answer is replied = reply_if house asks answer (subst (λ (m : Result Allowed Refusal). IsReplyIf house m answer) (sym is) replied)

pub first_line : (state now : StreamState) (key : RequestKey) (asks : Asked) (allowed : Allowed) (line text : List ℕ) → allow state.house.config asks ≡ Ok allowed
    → IsFirstDone state key allowed line text now → IsDoneLine state (Some key) asks line text now
first_line state now key asks allowed line text is first = record {
  done = done_allowed state.house now.house asks allowed text is first.done;
  remembered_is = first.remembered_is
      ∙ sym (ap (λ (b : Bool). state.remembered ++ remembered_if b key (record { digest = sha256 line; config = state.house.config; answer = text })) (allowed_is state.house.config asks ∙ ap is_ok is));
}

pub refused_line : (state : StreamState) (key : RequestKey) (asks : Asked) (why : Refusal) (line text : List ℕ) → allow state.house.config asks ≡ Err why
    → text ≡ refused_text state.house.config why → IsDoneLine state (Some key) asks line text state
refused_line state key asks why line text is text_is = record {
  done = done_refused state.house asks why text is text_is;
  remembered_is = sym (ap (λ (b : Bool). state.remembered ++ remembered_if b key (record { digest = sha256 line; config = state.house.config; answer = text })) (allowed_is state.house.config asks ∙ ap is_ok is) ∙ append-nil state.remembered);
}

pub first_reply : (house : StreamHouse) (asks : Asked) (allowed : Allowed) (did : Option StreamReply) → allow house.config asks ≡ Ok allowed → IsAllowedNow house allowed did
    → IsDoneNow house asks did
first_reply house asks allowed did is now = record { answer = now.answer; done_is = now.done_is; replied = reply_allowed house asks allowed now.answer is now.replied }

pub refused_reply : (house : StreamHouse) (asks : Asked) (why : Refusal) (did : Option StreamReply) → allow house.config asks ≡ Err why
    → did ≡ Some (reply.House (Err (record { at = None; refusal = why }))) → IsDoneNow house asks did
refused_reply house asks why did is done =
    record { answer = reply.House (Err (record { at = None; refusal = why })); done_is = done; replied = reply_refused house asks why _ is refl }

-- a line that is refused, under a request id under which no line was done
pub once_refused : (state : StreamState) (key : RequestKey) (asks : Asked) (why : Refusal) (line : List ℕ) (found : Option Remembered) (answer : LineReply) → found ≡ None
    → allow state.house.config asks ≡ Err why → answer ≡ given.Done (reply.House (Err (record { at = None; refusal = why })))
    → IsDoneOnce state (Some key) asks found line (line_text state.house.config state.remembered answer) state
once_refused state key asks why line found answer none is answer_is =
    subst (λ (it : Option Remembered). IsDoneOnce state (Some key) asks it line (line_text state.house.config state.remembered answer) state) (sym none)
    (refused_line state key asks why line _ is (ap (line_text state.house.config state.remembered) answer_is))

pub given_refused : (house : StreamHouse) (remembered : RememberedLines) (asks : Asked) (why : Refusal) (line : List ℕ) (found : Option Remembered) (lines : AnsweredLines) (answer : LineReply) → found ≡ None
    → allow house.config asks ≡ Err why → answer ≡ given.Done (reply.House (Err (record { at = None; refusal = why })))
    → IsGivenOnce house remembered asks found line (done_in lines answer) answer
given_refused house remembered asks why line found lines answer none is answer_is =
    subst (λ (it : Option Remembered). IsGivenOnce house remembered asks it line (done_in lines answer) answer) (sym none)
    (refused_reply house asks why (done_in lines answer) is (ap (done_in lines) answer_is))

-- and one that is allowed
pub given_first : (house : StreamHouse) (remembered : RememberedLines) (asks : Asked) (allowed : Allowed) (line : List ℕ) (found : Option Remembered) (did : Option StreamReply) (answer : LineReply)
    → found ≡ None → allow house.config asks ≡ Ok allowed → IsAllowedNow house allowed did → IsGivenOnce house remembered asks found line did answer
given_first house remembered asks allowed line found did answer none is now =
    subst (λ (it : Option Remembered). IsGivenOnce house remembered asks it line did answer) (sym none) (first_reply house asks allowed did is now)
