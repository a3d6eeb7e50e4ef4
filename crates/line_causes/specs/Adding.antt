-- What a function adds to a writer of JSON.
use Rattle.std.specs.Prelude.{◌≡◌, List, ◌++◌, Result, OnOk}
use Rattle.json.specs.Token.{Token}
use Rattle.json.specs.Written.{Written}

-- these tokens, if it succeeds; what the writer held before the first token stays
pub record Adds {E : Type 0} (result : Result (Unit {0}) E) (old new : Written) (tokens : List Token) : Type 0 where
  pub tokens_are : OnOk result (new.tokens ≡ old.tokens ++ tokens)
  pub before_is : new.before ≡ old.before
