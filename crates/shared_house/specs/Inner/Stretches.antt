-- Stretches of a history, each of which is checked for itself.
use Rattle.std.specs.Prelude.{All, ◌≡◌, ℕ, List, Option, Result, map, take, IfOk, IfSome, Ok}
use Rattle.std.specs.declared.alloc.AllocError.{AllocError}
use Rattle.ocpi_types.specs.declared.config.Config.{Config}
use Rattle.netting_positions.specs.declared.positions.NetPosition.{NetPosition}
use Rattle.netting_positions.specs.declared.row.StatementRow.{StatementRow}
use Rattle.plain_house.specs.declared.answer.Answer.TheVariants as answer
use Rattle.plain_house.specs.declared.event.Event.{Event}
use Rattle.plain_house.specs.Replies.{Reply, stamped}
use Rattle.period_order.specs.declared.decided.Decided.{Decided}
use Rattle.period_order.specs.declared.decided.Outcome.{Outcome}
use Rattle.period_order.specs.declared.decided.Outcome.TheVariants as outcome
use Rattle.shared_house.specs.declared.certifying.stretches.Stretch.{Stretch}
use Rattle.shared_house.specs.declared.certifying.turn.Turn.{Turn}
use Rattle.shared_house.specs.Inner.Tables.{HasRightTable}
use Rattle.shared_house.specs.Inner.Turns.{AreFit, PlainTurn, plain_turn}

-- the reply is what the command came to at its point, but for what is collected
abbrev pub AgreesAt : ℕ → Outcome → Reply → Type 0
AgreesAt point (outcome.Replied told event) reply = reply ≡ stamped point told
AgreesAt point (outcome.Closed period) reply = (told : List NetPosition) × (reply ≡ Ok (record { at = point; answer = answer.Closed period told }))
AgreesAt point (outcome.Stated ask) reply = (told : List StatementRow) × (reply ≡ Ok (record { at = point; answer = answer.Statement told }))

abbrev pub Agrees : Decided → Reply → Type 0
Agrees decided reply = AgreesAt decided.point decided.outcome reply

-- the turns of the stretch are fit where those before it are, and so many events are theirs
abbrev pub IsStretchFit : Config → List Event → List PlainTurn → Stretch → Type 0
IsStretchFit config events turns stretch = AreFit config events (take stretch.start turns) stretch.from → AreFit config events (take stretch.end turns) stretch.until

-- it is fit if all calls were told the net positions and the rows that are right
abbrev pub IsFitByTables : Config → List Event → List Turn → Stretch → Type 0
IsFitByTables config events turns stretch =
    All (λ turn. HasRightTable config events turn.call.now) turns → IsStretchFit config events (map plain_turn turns) stretch

-- all that were found are
abbrev pub AreFitByTables : Config → List Event → List Turn → List (Result (Option Stretch) AllocError) → Type 0
AreFitByTables config events turns found = All (λ stretch. IfOk stretch (λ stretch. IfSome stretch (IsFitByTables config events turns))) found
