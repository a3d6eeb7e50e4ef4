use Rattle.std.proofs.Common.{◌∙◌}
use Rattle.operator_book.proofs.credited.Credited.has.Goals as goal

pub returns : goal.returns
returns c entries known = c.contains.ensures ∙ known (record { operator = c.args.operator.now; id = c.args.id.now })
