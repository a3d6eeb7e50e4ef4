use Rattle.std.proofs.Common.{◌≡◌, ◌∷◌, map, take}
use Rattle.house_reports.specs.balances.BalanceText.{header, row_fields}
use Rattle.house_reports.specs.balances.Inner.Fields.{texts_of}
use Rattle.house_reports.proofs.balances.fields.lines_of.Given as goal

abbrev pub invariant-loop-row : goal.invariant-loop-row
invariant-loop-row l = map texts_of l.lines.items ≡ header ∷ map row_fields (take l.row-index l.rows)
