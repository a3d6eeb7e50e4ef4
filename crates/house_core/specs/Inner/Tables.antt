-- The tables in which a close or a statement collects.
use Rattle.std.specs.Prelude.{◌≡◌, ℕ, Bool, true, false}
use Rattle.ocpi_types.specs.declared.config.Config.{Config}
use Rattle.cdr_checks.specs.declared.request.Command.{Command}
use Rattle.cdr_checks.specs.declared.request.Command.TheVariants as command
use Rattle.period_order.specs.declared.decided.Outcome.{Outcome}
use Rattle.period_order.specs.declared.decided.Outcome.TheVariants as outcome
use Rattle.house_core.specs.declared.stage.Stage.{Stage}
use Rattle.house_core.specs.declared.stage.Stage.TheVariants as stage
use Rattle.house_core.specs.declared.table.Table.{Table}
use Rattle.house_core.specs.declared.table.Table.TheVariants as table
use Rattle.house_core.specs.Collections.{no_positions, no_statement, of_no_book}

-- the table for a command, with no book in it yet
abbrev pub table_for : Config → Command → Table
table_for config (command.PutTariff tariff) = table.Nothing
table_for config (command.PutToken token) = table.Nothing
table_for config (command.Authorize ask) = table.Nothing
table_for config (command.Release release) = table.Nothing
table_for config (command.Post checked) = table.Nothing
table_for config (command.Close close) = table.NetPositions (of_no_book config (no_positions config))
table_for config (command.Settle settlement) = table.Nothing
table_for config (command.Exposure ask) = table.Nothing
table_for config (command.Find find) = table.Nothing
table_for config (command.Statement ask) = table.Statement (of_no_book config (no_statement config ask.party))

abbrev pub is_for_close : Table → Bool
is_for_close table.Nothing = false
is_for_close (table.NetPositions collection) = true
is_for_close (table.Statement collection) = false

abbrev pub is_for_statement : Table → Bool
is_for_statement table.Nothing = false
is_for_statement (table.NetPositions collection) = false
is_for_statement (table.Statement collection) = true

-- what is left to be collected, can be in that table
abbrev pub IsTableOf : Outcome → Table → Type 0
IsTableOf (outcome.Replied reply event) table = Unit {0}
IsTableOf (outcome.Closed period) table = is_for_close table ≡ true
IsTableOf (outcome.Stated ask) table = is_for_statement table ≡ true

-- the stage behind the order, at that point and period, with that table
abbrev pub stage_with : ℕ → ℕ → Outcome → Table → Stage
stage_with point current (outcome.Replied reply event) table =
    stage.Ordered (record { point = point; period = current; reply = reply; event = event })
stage_with point current (outcome.Closed period) table.Nothing = stage.Ended
stage_with point current (outcome.Closed period) (table.NetPositions collection) =
    stage.Netting (record { point = point; period = period; collection = collection })
stage_with point current (outcome.Closed period) (table.Statement collection) = stage.Ended
stage_with point current (outcome.Stated ask) table.Nothing = stage.Ended
stage_with point current (outcome.Stated ask) (table.NetPositions collection) = stage.Ended
stage_with point current (outcome.Stated ask) (table.Statement collection) =
    stage.Stating (record { point = point; period = ask.period; collection = collection })
