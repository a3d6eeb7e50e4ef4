use Rattle.provider_account.proofs.TokensLemmas.{knows_token}
use Rattle.provider_account.proofs.tokens.Tokens.put_token.Goals as goal

pub returns : goal.returns
returns c =
    knows_token c.args.self.now (record { valid = c.insert.new.self }) c.args.token.now (rw (c.unwrap.ensures, c.key_of.ensures) at c.insert.ensures.updates)
