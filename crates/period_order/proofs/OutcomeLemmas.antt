-- What a command comes to, with what is collected, is its verdict.
use Rattle.std.proofs.Common.{◌≡◌, ℕ, ◌==◌, List, [], ◌∷◌, Bool, true, false, refl, Option, None, Some, Ok, Err, if◌then◌else◌}
use Rattle.std.specs.Prelude.{nat_lt}
use Rattle.ocpi_types.specs.declared.config.Config.{Config}
use Rattle.ocpi_types.specs.declared.refusal.Refusal.TheVariants as refusal
use Rattle.ocpi_types.specs.declared.refusal.Store.{Store}
use Rattle.ocpi_types.specs.declared.refusal.Store.TheVariants as store
use Rattle.cdr_checks.specs.declared.request.Command.TheVariants as command
use Rattle.netting_positions.specs.Statement.{statement_rows}
use Rattle.plain_house.specs.declared.answer.Answer.TheVariants as answer
use Rattle.plain_house.specs.declared.entry.BookEntry.{BookEntry}
use Rattle.plain_house.specs.declared.event.Event.TheVariants as event
use Rattle.cdr_checks.specs.declared.request.StatementOf.{StatementOf}
use Rattle.plain_house.specs.House.{positions_in}
use Rattle.plain_house.specs.Obligations.{obligations}
use Rattle.plain_house.specs.Full.{are_periods_full, first_full, is_order_full}
use Rattle.plain_house.specs.Verdict.{Verdict, accepts, refused_at, replies, unless}
use Rattle.period_order.specs.Decided.{OutcomesAreVerdicts, closed_by, stated_by, verdict_with}

module _ (config : Config) (entries : List BookEntry) where
  -- a close, by whether its period is current and what is full
  closed_as : (period current : ℕ) (is_current : Bool) (full : Option Store) →
      let judged : Verdict = unless ((if is_current then None else Some (Err (refusal.NotCurrent current))) ∷ refused_at full ∷ [])
      (accepts (answer.Closed period (positions_in config entries period)) (event.Closed period)) in
      verdict_with config entries (closed_by period judged.reply) ≡ judged
  closed_as period current true None = refl
  closed_as period current true (Some what) = refl
  closed_as period current false full = refl

  -- a statement, by whether its period is closed
  stated_as : (ask : StatementOf) (is_closed : Bool) →
      let judged : Verdict = unless ((if is_closed then None else Some (Err refusal.PeriodOpen)) ∷ [])
      (replies (Ok (answer.Statement (statement_rows ask.party (obligations ask.period entries))))) in
      verdict_with config entries (stated_by ask judged.reply) ≡ judged
  stated_as ask true = refl
  stated_as ask false = refl

pub are_verdicts : OutcomesAreVerdicts
are_verdicts config known (command.PutTariff tariff) = refl
are_verdicts config known (command.PutToken token) = refl
are_verdicts config known (command.Authorize ask) = refl
are_verdicts config known (command.Release release) = refl
are_verdicts config known (command.Post checked) = refl
are_verdicts config known (command.Close close) =
    closed_as config known.book close.period known.period (close.period == known.period)
    (first_full ((store.Order, is_order_full config known.point) ∷ (store.Periods, are_periods_full config known.period) ∷ []))
are_verdicts config known (command.Settle settlement) = refl
are_verdicts config known (command.Exposure ask) = refl
are_verdicts config known (command.Find find) = refl
are_verdicts config known (command.Statement ask) = stated_as config known.book ask (nat_lt ask.period known.period)
