use Rattle.std.proofs.Common.{◌≡◌, map, take}
use Rattle.shared_house.specs.Inner.Turns.{AreFit, plain_turn}
use Rattle.shared_house.proofs.certifying.replay.first_break_by.Given as goal

abbrev pub invariant-loop-turn : goal.invariant-loop-turn
invariant-loop-turn l = record {
  config : l.house.config ≡ l.initial.house.config;
  events : l.house.events ≡ take l.count l.events;
  fit : AreFit l.initial.house.config l.events (take l.turn-index (map plain_turn l.turns)) l.count;
}
