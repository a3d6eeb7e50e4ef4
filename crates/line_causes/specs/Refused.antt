-- Whether a line of a stream is refused, and the reply to what is done for it.
use Rattle.std.specs.Prelude.{◌≡◌, ℕ, Bool, true, false, List, Option, Some, None, Result, Ok, Err}
use Rattle.ocpi_types.specs.declared.refusal.Refusal.{Refusal}
use Rattle.ocpi_types.specs.Refusal.{refusal_name}
use Rattle.line_streams.specs.Asked.{asked_of}
use Rattle.line_streams.specs.Change.{StreamHouse}
use Rattle.line_streams.specs.Given.{IsReplyTo}
use Rattle.line_streams.specs.State.{Remembered, StreamState, is_same_line}
use Rattle.line_streams.specs.Stream.{found_under, key_of}
use Rattle.line_streams.specs.declared.asked.Asked.{Asked}
use Rattle.line_streams.specs.declared.asked.AskedLine.{AskedLine}
use Rattle.line_streams.specs.declared.reply.LineReply.TheVariants as given
use Rattle.line_streams.specs.declared.reply.StreamReply.{StreamReply}
use Rattle.line_streams.specs.declared.reply.StreamReply.TheVariants as reply
use Rattle.line_causes.specs.RefusalNames.{refused_by, refused_undone}

-- a line that is done is refused as its reply is
pub record IsRefusedBy (house : StreamHouse) (asks : Asked) (done : Option StreamReply) (name : Option (List ℕ)) : Type 0 where
  pub answer : StreamReply
  pub done_is : done ≡ Some answer
  pub replied : IsReplyTo house asks answer
  pub name_is : name ≡ refused_by answer

-- under the request id of a line that was done, that line is repeated, and another is refused
abbrev pub refused_again : Bool → Option (List ℕ)
refused_again true = None
refused_again false = refused_undone given.IdUsed

abbrev pub IsRefusedOnce : StreamHouse → Asked → Option Remembered → List ℕ → Option StreamReply → Option (List ℕ) → Type 0
IsRefusedOnce house asks None line done name = IsRefusedBy house asks done name
IsRefusedOnce house asks (Some found) line done name = (done ≡ None) × (name ≡ refused_again (is_same_line found line))

-- the reply to a line that cannot be read
abbrev pub unread : Refusal → StreamReply
unread why = reply.House (Err (record { at = None; refusal = why }))

abbrev pub IsRefusedAs : StreamState → Result AskedLine Refusal → List ℕ → Option StreamReply → Option (List ℕ) → Type 0
IsRefusedAs state (Err why) line done name = (done ≡ Some (unread why)) × (name ≡ Some (refusal_name why))
IsRefusedAs state (Ok asks) line done name =
    IsRefusedOnce state.house asks.asked (found_under state.remembered (key_of asks)) line done name

-- The reply to what is done for a line in a state, none if nothing is done, and the name of the line's refusal; none if the line is
-- not refused.
abbrev pub IsRefused : StreamState → List ℕ → Option StreamReply → Option (List ℕ) → Type 0
IsRefused state line done name = IsRefusedAs state (asked_of line) line done name
