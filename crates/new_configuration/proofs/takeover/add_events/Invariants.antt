use Rattle.std.proofs.Common.{◌≡◌, take}
use Rattle.plain_house.specs.Legal.{IsLegal}
use Rattle.new_configuration.specs.Inner.ValidTokens.{HaveValid}
use Rattle.new_configuration.proofs.takeover.add_events.Given as goal

abbrev pub invariant-loop-number : goal.invariant-loop-number
invariant-loop-number l = record {
  config : l.house.config ≡ l.platforms;
  events : l.house.events ≡ take l.number l.events;
  legal : IsLegal l.platforms (take l.number l.events);
  tokens : HaveValid (take l.number l.events) l.valid;
}
