-- The events that are kept beside a house, each after the reply that reports it.
use Rattle.std.specs.Prelude.{◌-◌, List, length, slice_get, if◌then◌else◌}
use Rattle.plain_house.specs.declared.event.Event.{Event}
use Rattle.plain_house.specs.Laws.{adds_event}
use Rattle.plain_house.specs.Replies.{Reply, with_event}

-- after a reply: the events that were kept, and the last event of the house if the reply reports one that was added
abbrev pub kept_behind : Reply → List Event → List Event → List Event
kept_behind reply events kept =
    if adds_event reply then with_event kept (slice_get events (length events - 1)) else kept
