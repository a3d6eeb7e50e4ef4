use Rattle.std.proofs.lemmas.Fn.{always_returns_same}
use Rattle.netting_positions.specs.Inner.StatedRows.{row_key}
use Rattle.netting_positions.specs.StatementKeys.{key_order}
use Rattle.netting_positions.proofs.row.place_of.Goals as goal

pub returns-clause-position : goal.returns-clause-position
returns-clause-position c =
    c.binary_search_by.ensures.position (λ row. key_order (row_key row) c.args.key.now) (always_returns_same _ _ _ (λ a r f' called. (called.met.1, λ j. record { 0 = called.met.0 j })))
