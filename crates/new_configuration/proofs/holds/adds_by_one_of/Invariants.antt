use Rattle.std.proofs.Common.{◌≡◌, vec_len}
use Rattle.new_configuration.specs.Inner.ValidTokens.{HaveValidOf}
use Rattle.new_configuration.proofs.holds.adds_by_one_of.Given as goal

abbrev pub invariant-loop-token : goal.invariant-loop-token
invariant-loop-token l = record {
  config : l.house.config ≡ l.initial.house.config;
  events : l.house.events ≡ l.initial.house.events;
  tokens : HaveValidOf l.initial.house.events l.hold.provider l.tokens.items;
}

abbrev pub decreases-loop-token : goal.decreases-loop-token
decreases-loop-token l = vec_len l.tokens
