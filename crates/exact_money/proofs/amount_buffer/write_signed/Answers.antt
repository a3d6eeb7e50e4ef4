use Rattle.std.proofs.Common.{◌≡◌, ◌+◌, ◌-◌, ◌∷◌, ap, ◌∙◌, drop, arith, to_z-of_z}
use Rattle.std.proofs.lemmas.List.{drop-set}
use Rattle.std.specs.Int.{is_negative}
use Rattle.std.specs.Prelude.{unsigned_abs}
use Rattle.exact_money.proofs.AmountText.{negative_text, positive_text, IsAscii-amount}
use Rattle.exact_money.proofs.amount_buffer.write_signed.Goals as goal

pub returns-then-amount-lt0-clause-written : goal.returns-then-amount-lt0-clause-written
returns-then-amount-lt0-clause-written c =
    let w = c.write_size-start in
    let back = to_z-of_z c.ranges.amount in
    let next : w.result - 1 + 1 ≡ w.result = omega (arith, w.ensures.room) in
    drop-set w.new.bytes (w.result - 1) 45 (omega (arith, w.ensures.within, w.array_long))
    ∙ ap (λ l. 45 ∷ l) (ap (λ k. drop k w.new.bytes) next ∙ w.ensures.written)
    ∙ negative_text c.args.amount c.unsigned_abs.result (c.unsigned_abs.ensures.value ∙ ap unsigned_abs back) (rw back at c.if-amount-lt0.true)

pub returns-else-amount-lt0-clause-written : goal.returns-else-amount-lt0-clause-written
returns-else-amount-lt0-clause-written c =
    let back = to_z-of_z c.ranges.amount in
    c.write_size-start.ensures.written
    ∙ positive_text c.args.amount c.unsigned_abs.result (c.unsigned_abs.ensures.value ∙ ap unsigned_abs back) (rw back at c.if-amount-lt0.false)

pub returns-then-amount-lt0-clause-ascii : goal.returns-then-amount-lt0-clause-ascii
returns-then-amount-lt0-clause-ascii c =
    IsAscii-amount c.args.amount c.unsigned_abs.result (c.unsigned_abs.ensures.value ∙ ap unsigned_abs (to_z-of_z c.ranges.amount)) c.unsigned_abs.type_inv

pub returns-else-amount-lt0-clause-ascii : goal.returns-else-amount-lt0-clause-ascii
returns-else-amount-lt0-clause-ascii c =
    IsAscii-amount c.args.amount c.unsigned_abs.result (c.unsigned_abs.ensures.value ∙ ap unsigned_abs (to_z-of_z c.ranges.amount)) c.unsigned_abs.type_inv
