-- The state of a house that answers the lines of a stream one at a time.
use Rattle.std.specs.Prelude.{ℕ, List, Option, option_map}
use Rattle.line_streams.specs.State.{StreamState, line_text}
use Rattle.line_streams.specs.declared.reply.LineReply.{LineReply}
use Rattle.line_streams.specs.declared.reply.StreamReply.{StreamReply}
use Rattle.clear_embedded.specs.declared.refused_line.RefusedLine.{RefusedLine}

-- a line that was refused, and the reply to what was done for it; none if its request id was given to another line
pub record Refused : Type 0 where
  pub line : List ℕ
  pub done : Option StreamReply

-- the stream, the answer that the caller has not taken yet, and the last line that was answered, if it was refused
pub record Standing : Type 0 where
  pub stream : StreamState
  pub kept : Option (List ℕ)
  pub refused : Option Refused

-- the answer of a kept reply, as the stream writes it
abbrev pub kept_answer : StreamState → Option LineReply → Option (List ℕ)
kept_answer stream kept = option_map (line_text stream.house.config stream.remembered) kept

abbrev pub shown_refused : RefusedLine → Refused
shown_refused refused = record { line = refused.line.items; done = refused.done }
