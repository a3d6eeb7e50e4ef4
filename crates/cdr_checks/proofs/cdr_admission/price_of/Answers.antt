use Rattle.std.proofs.Common.{◌≡◌, ◌≤◌, ◌^◌, ℤ, pos, unsigned_abs}
use Rattle.std.proofs.lemmas.Result.{IfOk-weaker}
use Rattle.cdr_rating.specs.Price.{price}
use Rattle.cdr_checks.proofs.PriceLemmas.{IsWithinLimit, price-within}
use Rattle.cdr_checks.proofs.cdr_admission.price_of.Goals as goal

pub returns-clause-not_negative : goal.returns-clause-not_negative
returns-clause-not_negative c =
    let NotNegative : ℤ → Type 0 = λ amount. amount ≡ pos (unsigned_abs amount) in
    rw c.rate.ensures (IfOk-weaker (price c.args.cdr.now c.args.zone.now) IsWithinLimit NotNegative (λ amount within. within.not_negative) (price-within c.args.cdr.now c.args.zone.now))

pub returns-clause-within_limit : goal.returns-clause-within_limit
returns-clause-within_limit c =
    let WithinLimit : ℤ → Type 0 = λ amount. unsigned_abs amount ≤ 10 ^ 12 in
    rw c.rate.ensures (IfOk-weaker (price c.args.cdr.now c.args.zone.now) IsWithinLimit WithinLimit (λ amount within. within.within_limit) (price-within c.args.cdr.now c.args.zone.now))
