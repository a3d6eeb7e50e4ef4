-- What holds of the causes of lines.
use Rattle.std.specs.Prelude.{◌≡◌, ℕ, true, List, Option, Some, is_some}
use Rattle.ocpi_types.specs.declared.config.Config.{Config}
use Rattle.plain_house.specs.declared.event.Event.{Event}
use Rattle.request_lines.specs.Script.{reply_in}
use Rattle.line_streams.specs.Given.{IsGiven, done_by}
use Rattle.line_streams.specs.State.{StreamState}
use Rattle.line_streams.specs.declared.reply.LineReply.{LineReply}
use Rattle.line_streams.specs.declared.reply.StreamReply.{StreamReply}
use Rattle.line_streams.specs.declared.stream.Stream.{Stream}
use Rattle.line_causes.specs.LineCauses.{IsCauseOfLine}
use Rattle.line_causes.specs.RefusalNames.{refused_in, refused_by_reply}
use Rattle.line_causes.specs.Refused.{IsRefused}
use Rattle.line_causes.specs.StreamCauses.{IsCauseOfStreamLine}
use Rattle.line_causes.specs.declared.line_cause.LineCause.TheVariants.{Unknown}

-- no line of a script that a house refuses, or answers BLOCKED or NO_CREDIT, is without a cause
abbrev pub RefusedLinesHaveCauses : Type 0
RefusedLinesHaveCauses =
    (config : Config) (events : List Event) (line : List ℕ) → is_some (refused_by_reply (reply_in config events line)) ≡ true
    → IsCauseOfLine config events (reply_in config events line) line Unknown → ⊥

-- and no line that a stream refuses
abbrev pub RefusedStreamLinesHaveCauses : Type 0
RefusedStreamLinesHaveCauses =
    (state : StreamState) (line : List ℕ) (done : Option StreamReply) (name : List ℕ) → IsRefused state line done (Some name)
    → IsCauseOfStreamLine state.house.config state.house.events done line Unknown → ⊥

-- the name in a stream's reply to a line is that of the line's refusal
abbrev pub RepliesNameRefusals : Type 0
RepliesNameRefusals =
    (state : StreamState) (line : List ℕ) (stream : Stream) (reply : LineReply) → IsGiven state line (done_by stream reply) reply
    → IsRefused state line (done_by stream reply) (refused_in (done_by stream reply) reply)
