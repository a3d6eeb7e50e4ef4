-- What a stream replies to a line, before the reply is written.
use Rattle.std.specs.Prelude.{◌≡◌, ℕ, Bool, true, false, List, Option, Some, None, Result, Ok, Err, length, option_map}
use Rattle.std.specs.Map.{lookup}
use Rattle.ocpi_types.specs.declared.config.Config.{Config}
use Rattle.ocpi_types.specs.declared.refusal.Refusal.{Refusal}
use Rattle.ocpi_types.specs.declared.refusal.Refusal.TheVariants as refusal
use Rattle.ocpi_types.specs.Config.{is_hub}
use Rattle.cdr_checks.specs.Admission.{admission}
use Rattle.plain_house.specs.Legal.{IsLegal}
use Rattle.plain_house.specs.declared.event.Event.{Event}
use Rattle.house_statements.specs.Order.{event_name}
use Rattle.request_lines.specs.Script.{reply_to}
use Rattle.new_configuration.specs.Loosened.{loosened}
use Rattle.new_configuration.specs.TakenOver.{IsFirstOtherwise}
use Rattle.line_streams.specs.Asked.{asked_of}
use Rattle.line_streams.specs.Change.{StreamHouse}
use Rattle.line_streams.specs.State.{Remembered, RememberedLines, StreamState, is_same_line, same_key, same_request, shown_key}
use Rattle.line_streams.specs.Stream.{found_under, key_of}
use Rattle.line_streams.specs.declared.answered.AnsweredLines.{AnsweredLines}
use Rattle.line_streams.specs.declared.asked.Asked.{Asked}
use Rattle.line_streams.specs.declared.asked.Asked.TheVariants as asked
use Rattle.line_streams.specs.declared.asked.AskedLine.{AskedLine}
use Rattle.line_streams.specs.declared.request_id.IdKey.{IdKey}
use Rattle.line_streams.specs.declared.reply.LineReply.{LineReply}
use Rattle.line_streams.specs.declared.reply.LineReply.TheVariants as given
use Rattle.line_streams.specs.declared.reply.StreamReply.{StreamReply}
use Rattle.line_streams.specs.declared.reply.StreamReply.TheVariants as reply
use Rattle.line_streams.specs.declared.stream.Stream.{Stream}

-- ---- what is done

-- the first event that would come out otherwise under the configuration, by its number and its kind
abbrev pub IsNamedOtherwise : Config → List Event → ℕ → List ℕ → Type 0
IsNamedOtherwise config events number kind = (first : IsFirstOtherwise config events number) × (kind ≡ event_name first.event)

-- a change is made if all events come out again under it or once it is loosened, and refused if one would not however loose it is
abbrev pub IsReplyToChange : StreamHouse → Config → StreamReply → Type 0
IsReplyToChange house config (reply.House answer) = ⊥
IsReplyToChange house config (reply.Configured at) = (at ≡ length house.events) × IsLegal config house.events
IsReplyToChange house config (reply.Lowered at event kind) =
    (at ≡ length house.events) × IsNamedOtherwise config house.events event kind.now × IsLegal (loosened config) house.events
IsReplyToChange house config (reply.Otherwise at event kind) =
    (at ≡ length house.events) × IsNamedOtherwise (loosened config) house.events event kind.now

-- by whether a hub asks for the change
abbrev pub IsReplyByHub : Bool → StreamHouse → Config → StreamReply → Type 0
IsReplyByHub true house config answer = IsReplyToChange house config answer
IsReplyByHub false house config answer = answer ≡ reply.House (Err (record { at = None; refusal = refusal.NotYours }))

-- the reply to what is asked for, in a house
abbrev pub IsReplyTo : StreamHouse → Asked → StreamReply → Type 0
IsReplyTo house (asked.Request request) answer =
    answer ≡ reply.House (reply_to house.config house.events (admission house.config request))
IsReplyTo house (asked.Change change) answer = IsReplyByHub (is_hub house.config change.platform) house change.config answer

-- ---- what a line is replied

-- the reply to what a line asks for: none if nothing was done for the line
abbrev pub done_in : AnsweredLines → LineReply → Option StreamReply
done_in answered (given.Done answer) = Some answer
done_in answered (given.Remembered key) = option_map (λ one. one.reply) (lookup (same_key key) answered.lines.entries)
done_in answered (given.Repeated key) = None
done_in answered given.IdUsed = None

-- a line under whose request id a line was done: it is repeated, or its id is used
abbrev pub IsGivenAgain : Bool → RememberedLines → Remembered → LineReply → Type 0
IsGivenAgain true remembered found line =
    (key : IdKey) × (line ≡ given.Repeated key) × (lookup (same_request (shown_key key)) remembered ≡ Some found)
IsGivenAgain false remembered found line = line ≡ given.IdUsed

-- the reply to what is asked for, which is done now
pub record IsDoneNow (house : StreamHouse) (asks : Asked) (done : Option StreamReply) : Type 0 where
  pub answer : StreamReply
  pub done_is : done ≡ Some answer
  pub replied : IsReplyTo house asks answer

abbrev pub IsGivenOnce : StreamHouse → RememberedLines → Asked → Option Remembered → List ℕ → Option StreamReply → LineReply → Type 0
IsGivenOnce house remembered asks None text did line = IsDoneNow house asks did
IsGivenOnce house remembered asks (Some found) text did line = IsGivenAgain (is_same_line found text) remembered found line

abbrev pub IsGivenAs : StreamState → Result AskedLine Refusal → List ℕ → Option StreamReply → LineReply → Type 0
IsGivenAs state (Err why) text did line = line ≡ given.Done (reply.House (Err (record { at = None; refusal = why })))
IsGivenAs state (Ok asks) text did line =
    IsGivenOnce state.house state.remembered asks.asked (found_under state.remembered (key_of asks)) text did line

-- the reply to a line in a state, and the reply to what is done for it
abbrev pub IsGiven : StreamState → List ℕ → Option StreamReply → LineReply → Type 0
IsGiven state text did line = IsGivenAs state (asked_of text) text did line

abbrev pub done_by : Stream → LineReply → Option StreamReply
done_by stream line = done_in stream.answered line
