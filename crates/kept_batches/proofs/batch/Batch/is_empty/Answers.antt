use Rattle.std.proofs.Common.{sym, ◌∙◌, ap}
use Rattle.kept_batches.specs.Text.{lines_in, marked}
use Rattle.kept_batches.proofs.batch.Batch.is_empty.Goals as goal

pub returns : goal.returns
returns c = (λ t. ap lines_in (sym c.text.ensures.text ∙ c.is_nothing.ensures.0 t), λ e. c.is_nothing.ensures.1 (c.text.ensures.whole ∙ ap marked e))
