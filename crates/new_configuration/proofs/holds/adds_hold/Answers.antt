use Rattle.new_configuration.specs.Inner.ValidTokens.{tokens_of}
use Rattle.new_configuration.proofs.ValidLemmas.{put_back}
use Rattle.new_configuration.proofs.holds.adds_hold.Goals as goal

pub returns-clause-tokens : goal.returns-clause-tokens
returns-clause-tokens c added =
    put_back c.args.house.now.events (tokens_of c.args.valid.now) (tokens_of c.take-tokens.new.self) (tokens_of c.put.new.self) c.args.hold.now.provider
    c.adds_by_one_of.new.tokens.items c.take-tokens.ensures.others c.in_ok-put.ensures (c.in_ok-added.ensures.tokens added) c.requires.tokens
