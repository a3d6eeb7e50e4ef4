-- What two calls add, one after the other.
use Rattle.std.proofs.Common.{◌≡◌, List, ◌++◌, Result, Ok, Err, append_assoc, ◌∙◌, ap}
use Rattle.json.specs.Token.{Token}
use Rattle.json.specs.Written.{Written}
use Rattle.request_lines.specs.Inner.Adding.{Adds}

pub adds_more : {E : Type 0} (r : Result (Unit {0}) E) (old middle new : Written) (first second : List Token)
    → middle.tokens ≡ old.tokens ++ first → middle.before ≡ old.before → Adds r middle new second → Adds r old new (first ++ second)
adds_more (Ok u) old middle new first second h k more =
    record {
      tokens_are = more.tokens_are ∙ ap (λ (ts : List Token). ts ++ second) h ∙ append_assoc old.tokens first second;
      before_is = more.before_is ∙ k;
    }
adds_more (Err e) old middle new first second h k more = record { tokens_are = tt; before_is = more.before_is ∙ k }
