-- The events that are kept after a line of a stream.
use Rattle.std.specs.Prelude.{◌-◌, Bool, false, List, Option, Some, None, length, slice_get, if◌then◌else◌}
use Rattle.plain_house.specs.declared.event.Event.{Event}
use Rattle.plain_house.specs.Laws.{adds_event}
use Rattle.plain_house.specs.Replies.{with_event}
use Rattle.line_streams.specs.declared.reply.StreamReply.{StreamReply}
use Rattle.line_streams.specs.declared.reply.StreamReply.TheVariants as reply

-- the reply reports an event that was added
abbrev pub adds_in : StreamReply → Bool
adds_in (reply.House given) = adds_event given
adds_in (reply.Configured at) = false
adds_in (reply.Lowered at event kind) = false
adds_in (reply.Otherwise at event kind) = false

-- the events that were kept, and the last one of the house, if the reply reports one that was added
abbrev pub kept_after : Option StreamReply → List Event → List Event → List Event
kept_after None events kept = kept
kept_after (Some answer) events kept =
    if adds_in answer then with_event kept (slice_get events (length events - 1)) else kept
