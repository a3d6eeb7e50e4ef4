use Rattle.std.proofs.lemmas.Result.{on_ok_weaker}
use Rattle.new_configuration.specs.Inner.ValidTokens.{tokens_of}
use Rattle.new_configuration.proofs.ValidLemmas.{keeps_valid}
use Rattle.new_configuration.proofs.valid_tokens.ValidTokens.add.Goals as goal

pub returns : goal.returns
returns c =
    on_ok_weaker c.add_put.result
    (λ kept events have. keeps_valid c.entries_are_dated.ensures events c.args.event.now (tokens_of c.args.self.now) (tokens_of c.add_put.new.self) kept have)
    c.add_put.ensures
