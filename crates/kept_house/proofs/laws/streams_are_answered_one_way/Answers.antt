use Rattle.std.proofs.Common.{refl}
use Rattle.line_streams.specs.Inner.Turns.{more_lines}
use Rattle.kept_house.proofs.laws.streams_are_answered_one_way.Goals as goal

pub returns : goal.returns
returns c = record {
  one_way = λ start lines text other end last told again. c.streams_are_determined.ensures start lines text other end last told again;
  no_lines = λ start. (refl, refl);
  more_lines = λ start middle end some others text more told then. more_lines start middle end some others text more told then;
}
