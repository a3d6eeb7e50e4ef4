use Rattle.std.proofs.Common.{◌≡◌, ◌%◌, sym, ap, ◌∙◌, w64, to_z, of_z, FitsSigned, rules}
use Rattle.std.proofs.Output.{has_written_of_eq}
use Rattle.std.proofs.lemmas.Int.{to_z-of_z}
use Rattle.std.specs.Fmt.{sign_text, styled_decimal}
use Rattle.std.specs.Int.{is_negative}
use Rattle.std.specs.Prelude.{unsigned_abs}
use Rattle.exact_money.proofs.AmountText.{written}
use Rattle.exact_money.proofs.amount.AmountDisplay.fmt.Goals as goal
use Rattle.exact_money.proofs.amount.AmountDisplay.fmt.Goals.{then-self-lt0, else-self-lt0}

pub returns-clause-writes : goal.returns-clause-writes
returns-clause-writes g c = λ plain ok.
    let fits : FitsSigned w64 c.self.inside.ten_thousandths = search rules in
    let same : to_z w64 (of_z w64 c.self.inside.ten_thousandths) ≡ c.args.self.now = to_z-of_z w64 c.self.inside.ten_thousandths fits ∙ c.self.view_is in
    has_written_of_eq _ _ _ _ _
    (written c.args.self.now c.if-self-lt0.sign.now _ c.unsigned_abs-size.result
    (elim c.if-self-lt0.branch [
      | then-self-lt0 w ↦ ap (λ s. s.now) w.sign-is ∙ sym (ap sign_text (ap is_negative (sym same) ∙ w.if-self-lt0.true))
      | else-self-lt0 w ↦ ap (λ s. s.now) w.sign-is ∙ sym (ap sign_text (ap is_negative (sym same) ∙ w.if-self-lt0.false))
    ])
    (c.unsigned_abs-size.ensures.value ∙ ap unsigned_abs same)
    (ap (λ s. styled_decimal s (c.unsigned_abs-size.result % 10000)) c.laid_out.ensures))
    (c.write.ensures.writes plain ok)
