-- A stream's reply to a line names the line's refusal.
use Rattle.std.proofs.Common.{◌≡◌, ℕ, List, Bool, true, false, ap, Option, Some, None, Result, Ok, Err}
use Rattle.ocpi_types.specs.declared.refusal.Refusal.{Refusal}
use Rattle.line_streams.specs.Asked.{asked_of}
use Rattle.line_streams.specs.Change.{StreamHouse}
use Rattle.line_streams.specs.Given.{IsGiven, IsGivenAgain, IsGivenAs, IsGivenOnce, done_by}
use Rattle.line_streams.specs.State.{Remembered, RememberedLines, StreamState, is_same_line}
use Rattle.line_streams.specs.Stream.{found_under, key_of}
use Rattle.line_streams.specs.declared.asked.Asked.{Asked}
use Rattle.line_streams.specs.declared.asked.AskedLine.{AskedLine}
use Rattle.line_streams.specs.declared.reply.LineReply.{LineReply}
use Rattle.line_streams.specs.declared.reply.StreamReply.{StreamReply}
use Rattle.line_streams.specs.declared.stream.Stream.{Stream}
use Rattle.line_causes.specs.Laws.{RepliesNameRefusals}
use Rattle.line_causes.specs.RefusalNames.{refused_in}
use Rattle.line_causes.specs.Refused.{IsRefusedAs, IsRefusedOnce, refused_again}

module _ (stream : Stream) (reply : LineReply) where
  abbrev name_in : LineReply → Option (List ℕ)
  name_in line = refused_in (done_by stream line) line

  named_again : (lines : RememberedLines) (found : Remembered) (same : Bool) → IsGivenAgain same lines found reply → (done_by stream reply ≡ None) × (name_in reply ≡ refused_again same)
  named_again lines found true given = (ap (done_by stream) given.1, ap name_in given.1)
  named_again lines found false given = (ap (done_by stream) given, ap name_in given)

  named_once : (house : StreamHouse) (lines : RememberedLines) (asks : Asked) (found : Option Remembered) (text : List ℕ) → IsGivenOnce house lines asks found text (done_by stream reply) reply
      → IsRefusedOnce house asks found text (done_by stream reply) (name_in reply)
  named_once house lines asks None text given = record {
    answer = given.answer;
    done_is = given.done_is;
    replied = given.replied;
    name_is = ap (λ (done : Option StreamReply). refused_in done reply) given.done_is;
  }
  named_once house lines asks (Some found) text given = named_again lines found (is_same_line found text) given

  named_as : (state : StreamState) (asked : Result AskedLine Refusal) (text : List ℕ) → IsGivenAs state asked text (done_by stream reply) reply
      → IsRefusedAs state asked text (done_by stream reply) (name_in reply)
  named_as state (Err why) text given = (ap (done_by stream) given, ap name_in given)
  named_as state (Ok asks) text given = named_once state.house state.remembered asks.asked (found_under state.remembered (key_of asks)) text given

pub replies_name : RepliesNameRefusals
replies_name state line stream reply given = named_as stream reply state (asked_of line) line given
