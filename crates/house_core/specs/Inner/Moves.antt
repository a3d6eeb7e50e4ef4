-- What single calls become.
use Rattle.std.specs.Prelude.{◌≡◌, ℕ, Bool, List, true, false, Option, Some, None, is_some, if◌then◌else◌, option_map, option_and_then, slice_get}
use Rattle.cdr_checks.specs.declared.request.Command.{Command}
use Rattle.plain_house.specs.declared.event.Event.{Event}
use Rattle.house_core.specs.declared.running_call.RunningCall.{RunningCall}
use Rattle.house_core.specs.declared.stage.Netting.{Netting}
use Rattle.house_core.specs.declared.stage.Stage.{Stage}
use Rattle.house_core.specs.declared.stage.Stage.TheVariants as stage
use Rattle.house_core.specs.declared.stage.Stating.{Stating}
use Rattle.house_core.specs.Calls.{begun, for_account, for_book, ordered, ready, waiting}
use Rattle.std.specs.Option.{option_map_or}
use Rattle.ocpi_types.specs.declared.config.Config.{Config}
use Rattle.ocpi_types.specs.declared.config.Operator.{Operator}
use Rattle.plain_house.specs.declared.entry.BookEntry.{BookEntry}
use Rattle.house_core.specs.Collections.{nets_with, rows_with, sums}
use Rattle.house_core.specs.Locks.{Lock}
use Rattle.house_core.specs.Steps.{collect_at}
use Rattle.house_core.specs.World.{PlainWorld}

abbrev pub begun_when : ℕ → RunningCall → Option Command → RunningCall
begun_when point call None = call
begun_when point call (Some command) = record call { begin = point; stage = stage.Begun command }

abbrev pub begun_call : ℕ → RunningCall → RunningCall
begun_call point call = begun_when point call (waiting call.stage)

abbrev pub without_command : RunningCall → RunningCall
without_command call = if is_some (begun call.stage) then record call { stage = stage.Ended } else call

abbrev pub carried_event : Stage → Option (Event × ℕ)
carried_event stage = option_and_then (λ carried. option_map (λ event. (event, carried.period)) carried.event) (ordered stage)

abbrev pub without_event : Stage → Stage
without_event (stage.Waiting command) = stage.Waiting command
without_event (stage.Begun command) = stage.Begun command
without_event (stage.Ordered carried) = stage.Ordered (record carried { event = None })
without_event (stage.Netting netting) = stage.Netting netting
without_event (stage.Stating stating) = stage.Stating stating
without_event stage.Ended = stage.Ended

-- the call with what it collects of that operator's book
abbrev pub collected_call : Config → ℕ → Option Operator → Option (Lock BookEntry) → RunningCall → RunningCall
collected_call config number operator lock call = option_map_or (λ change. change.call) (collect_at config number call operator lock) call

-- the call puts into its account next, or into its book
abbrev pub IsPuttingAccount : RunningCall → Type 0
IsPuttingAccount call = is_some (for_account call) ≡ true

abbrev pub IsPuttingBook : RunningCall → Type 0
IsPuttingBook call = is_some (for_book call) ≡ true

-- without its book, and with nothing to put
abbrev pub put_in_its_book : RunningCall → RunningCall
put_in_its_book call = record call { has_book = false; stage = without_event call.stage }

-- the command of the call of that number, where it is ready
abbrev pub ready_at : PlainWorld → ℕ → Option Command
ready_at world number = option_and_then ready (slice_get world.calls number)

-- with what the operator of that number is owed, where its book is still to be collected
abbrev pub netting_with : Config → ℕ → Operator → List BookEntry → Bool → Netting → Netting
netting_with config number operator entries is_unread netting =
    if is_unread then record netting { collection = nets_with number (sums config operator netting.period entries) netting.collection } else netting

abbrev pub stating_with : Config → ℕ → Operator → List BookEntry → Bool → Stating → Stating
stating_with config number operator entries is_unread stating =
    if is_unread then record stating { collection = rows_with number (sums config operator stating.period entries) stating.collection } else stating
