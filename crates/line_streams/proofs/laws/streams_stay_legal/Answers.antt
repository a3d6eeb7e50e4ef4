use Rattle.std.proofs.Common.{[]}
use Rattle.line_streams.specs.State.{empty_under}
use Rattle.line_streams.proofs.laws.streams_stay_legal.Goals as goal

pub returns : goal.returns
returns c = λ config lines text now answered.
    (c.streams_stay_sound.ensures (empty_under config) lines text now
    (record { legal = c.empty_lists_are_legal.ensures config; judges = c.configurations_judge_for_themselves.ensures config }) answered).legal
