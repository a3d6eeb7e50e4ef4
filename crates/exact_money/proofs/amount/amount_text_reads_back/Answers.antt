use Rattle.std.proofs.Common.{sym, subst}
use Rattle.exact_money.specs.Amount.{IsTextOf}
use Rattle.exact_money.proofs.AmountText.{only_text, read_back}
use Rattle.exact_money.proofs.amount.amount_text_reads_back.Goals as goal

pub returns : goal.returns
returns c amount text small = (λ e. subst (IsTextOf amount) (sym e) (read_back amount small), only_text amount text small)
