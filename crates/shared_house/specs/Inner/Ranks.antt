-- Where a call stands among others.
use Rattle.std.specs.Prelude.{ℕ, ◌+◌, if◌then◌else◌}
use Rattle.plain_house.specs.Laws.{adds_event}
use Rattle.shared_house.specs.declared.call.Call.{Call}
use Rattle.shared_house.specs.Points.{point_of_reply}

-- calls of one point stand together, those that add nothing first
abbrev pub rank_of : Call → ℕ
rank_of call = point_of_reply call.reply + (point_of_reply call.reply + (if adds_event call.reply then 1 else 0))
