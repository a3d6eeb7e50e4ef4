-- What is known of a call stays so with more events.
use Rattle.std.proofs.Common.{◌≡◌, ◌<◌, ℕ, List, ◌++◌, sym, ap, subst, ◌∙◌, cond, length, Ok, option_to_list, append_assoc, length-append, arith}
use Rattle.std.proofs.lemmas.List.Sums.{sum_by-append}
use Rattle.ocpi_types.specs.declared.config.Config.{Config}
use Rattle.cdr_checks.specs.declared.request.Command.{Command}
use Rattle.netting_positions.specs.declared.obligation.Obligation.{Obligation}
use Rattle.netting_positions.specs.Netting.{net_positions, parties}
use Rattle.netting_positions.specs.Statement.{statement_rows}
use Rattle.plain_house.specs.declared.answer.Answer.TheVariants as answer
use Rattle.plain_house.specs.declared.event.Event.{Event}
use Rattle.plain_house.specs.Entries.{is_close, period_of}
use Rattle.plain_house.specs.House.{verdict}
use Rattle.plain_house.specs.Known.{known}
use Rattle.plain_house.specs.Obligations.{ClosedPeriodsStay}
use Rattle.plain_house.specs.Replies.{Reply, stamped}
use Rattle.house_core.specs.declared.running_call.RunningCall.{RunningCall}
use Rattle.house_core.specs.declared.stage.Netting.{Netting}
use Rattle.house_core.specs.declared.stage.Stage.{Stage}
use Rattle.house_core.specs.declared.stage.Stage.TheVariants as stage
use Rattle.house_core.specs.declared.stage.Stating.{Stating}
use Rattle.house_core.specs.Inner.Collecting.{Fits, IsNetting, IsStating, IsWhole, owed_in}
use Rattle.house_core.specs.Inner.Sound.{IsAt, IsRunningCall}
use Rattle.house_core.specs.OneHouse.{IsAnswered}

module _ (stay : ClosedPeriodsStay) (config : Config) (events more : List Event) (command : Command) (begin : ℕ) where
  answered_longer : (point : ℕ) (reply : Reply) → IsAnswered config events command begin (length events) point reply
      → IsAnswered config (events ++ more) command begin (length (events ++ more)) point reply
  answered_longer point reply is =
      let added : List Event = option_to_list (verdict config (known is.before) command).event in
      let within = is.ended in
      record {
        before = is.before;
        later = is.later ++ more;
        split = ap (λ (l : List Event). l ++ more) is.split ∙ append_assoc is.before (added ++ is.later) more ∙ ap (λ (l : List Event). is.before ++ l) (append_assoc added is.later more);
        at = is.at;
        replied = is.replied;
        begun = is.begun;
        ended = omega (arith, within, length-append events more);
      }

  closed_longer : (period : ℕ) → period < period_of events → period < period_of (events ++ more)
  closed_longer period closed = omega (arith, closed, sum_by-append (λ x. cond (is_close x) 1 0) events more)

  -- of a closed period, the same is owed
  same_owed : (period : ℕ) → period < period_of events → owed_in period events ≡ owed_in period (events ++ more)
  same_owed period closed = sym (stay events more period closed)

  netting_longer : (netting : Netting) → IsNetting config events command begin netting → IsNetting config (events ++ more) command begin netting
  netting_longer netting is =
      let same : owed_in netting.period events ≡ owed_in netting.period (events ++ more) = same_owed netting.period is.closed in
      record {
        answered =
            subst (λ (owed : List Obligation). IsAnswered config (events ++ more) command begin (length (events ++ more)) netting.point (stamped netting.point (Ok (answer.Closed netting.period (net_positions (parties config) config.currencies owed))))) same
            (answered_longer netting.point _ is.answered);
        closed = closed_longer netting.period is.closed;
        parties_are = is.parties_are;
        currencies_are = is.currencies_are;
        collected = subst (λ (owed : List Obligation). IsWhole config owed netting.collection.collected netting.collection.table.obligations) same is.collected;
        fits = subst (λ (owed : List Obligation). Fits config owed netting.collection.collected netting.collection.table.obligations) same is.fits;
      }

  stating_longer : (stating : Stating) → IsStating config events command begin stating → IsStating config (events ++ more) command begin stating
  stating_longer stating is =
      let same : owed_in stating.period events ≡ owed_in stating.period (events ++ more) = same_owed stating.period is.closed in
      record {
        answered =
            subst (λ (owed : List Obligation). IsAnswered config (events ++ more) command begin (length (events ++ more)) stating.point (stamped stating.point (Ok (answer.Statement (statement_rows stating.collection.table.party owed))))) same
            (answered_longer stating.point _ is.answered);
        closed = closed_longer stating.period is.closed;
        parties_are = is.parties_are;
        currencies_are = is.currencies_are;
        collected = subst (λ (owed : List Obligation). IsWhole config owed stating.collection.collected stating.collection.table.obligations) same is.collected;
        fits = subst (λ (owed : List Obligation). Fits config owed stating.collection.collected stating.collection.table.obligations) same is.fits;
      }

  at_longer : (s : Stage) → IsAt config events command begin s → IsAt config (events ++ more) command begin s
  at_longer (stage.Waiting own) h = h
  at_longer (stage.Begun own) h = let within = h.1 in (h.0, omega (arith, within, length-append events more))
  at_longer (stage.Ordered carried) h = answered_longer carried.point (stamped carried.point carried.reply) h
  at_longer (stage.Netting netting) h = netting_longer netting h
  at_longer (stage.Stating stating) h = stating_longer stating h
  at_longer stage.Ended h = tt

pub call_longer : ClosedPeriodsStay → (config : Config) (events more : List Event) (command : Command) (call : RunningCall) → IsRunningCall config events command call → IsRunningCall config (events ++ more) command call
call_longer stay config events more command call h = record {
  admitted = h.admitted;
  book = h.book;
  account = h.account;
  bookless = h.bookless;
  accountless = h.accountless;
  at = at_longer stay config events more command call.begin call.stage h.at;
}
