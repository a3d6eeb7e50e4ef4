-- Why a house refuses a command after these events, by what it replies.
use Rattle.std.specs.Prelude.{ℕ, ℤ, Bool, Option, None, Some, List, Result, Ok, Err, option_map}
use Rattle.ocpi_json.specs.declared.name.Name.TheVariants as name
use Rattle.ocpi_types.specs.declared.cdr.Cdr.{Cdr}
use Rattle.ocpi_types.specs.declared.config.Config.{Config}
use Rattle.ocpi_types.specs.declared.refusal.Refusal.{Refusal}
use Rattle.ocpi_types.specs.declared.refusal.Refusal.TheVariants as refusal
use Rattle.cdr_checks.specs.Place.{at}
use Rattle.cdr_checks.specs.declared.request.Authorize.{Authorize}
use Rattle.cdr_checks.specs.declared.request.Command.{Command}
use Rattle.cdr_checks.specs.declared.request.Command.TheVariants as command
use Rattle.cdr_checks.specs.declared.request.Find.{Find}
use Rattle.cdr_checks.specs.declared.request.Release.{Release}
use Rattle.cdr_checks.specs.declared.request.Settlement.{Settlement}
use Rattle.plain_house.specs.declared.answer.Answer.{Answer}
use Rattle.plain_house.specs.declared.answer.Answer.TheVariants as answer
use Rattle.plain_house.specs.declared.event.Event.{Event}
use Rattle.plain_house.specs.declared.over_limit.OverLimit.{OverLimit}
use Rattle.plain_house.specs.Replies.{Reply}
use Rattle.house_causes.specs.First.{◌>>=◌}
use Rattle.house_causes.specs.Bookings.{booking_conflict, no_cdr}
use Rattle.house_causes.specs.Credits.{credit_differs, credited_already, no_original, of_credit, too_late}
use Rattle.house_causes.specs.Holds.{unknown_hold}
use Rattle.house_causes.specs.HouseCause.{cause_at}
use Rattle.house_causes.specs.Periods.{not_closed, not_current, settled_already}
use Rattle.house_causes.specs.Stores.{full}
use Rattle.house_causes.specs.Tokens.{blocked, unknown_token}
use Rattle.house_causes.specs.Versions.{not_registered, version_conflict}
use Rattle.house_causes.specs.declared.house_cause.HouseCause.{HouseCause}
use Rattle.house_causes.specs.declared.house_cause.HouseReason.TheVariants as reason

-- ---- what commands ask for

abbrev pub cdr_in : Command → Option Cdr
cdr_in (command.PutTariff tariff) = None
cdr_in (command.PutToken token) = None
cdr_in (command.Authorize ask) = None
cdr_in (command.Release release) = None
cdr_in (command.Post checked) = Some checked.cdr
cdr_in (command.Close close) = None
cdr_in (command.Settle settlement) = None
cdr_in (command.Exposure ask) = None
cdr_in (command.Find find) = None
cdr_in (command.Statement ask) = None

abbrev pub authorize_in : Command → Option Authorize
authorize_in (command.PutTariff tariff) = None
authorize_in (command.PutToken token) = None
authorize_in (command.Authorize ask) = Some ask
authorize_in (command.Release release) = None
authorize_in (command.Post checked) = None
authorize_in (command.Close close) = None
authorize_in (command.Settle settlement) = None
authorize_in (command.Exposure ask) = None
authorize_in (command.Find find) = None
authorize_in (command.Statement ask) = None

abbrev pub release_in : Command → Option Release
release_in (command.PutTariff tariff) = None
release_in (command.PutToken token) = None
release_in (command.Authorize ask) = None
release_in (command.Release release) = Some release
release_in (command.Post checked) = None
release_in (command.Close close) = None
release_in (command.Settle settlement) = None
release_in (command.Exposure ask) = None
release_in (command.Find find) = None
release_in (command.Statement ask) = None

abbrev pub settlement_in : Command → Option Settlement
settlement_in (command.PutTariff tariff) = None
settlement_in (command.PutToken token) = None
settlement_in (command.Authorize ask) = None
settlement_in (command.Release release) = None
settlement_in (command.Post checked) = None
settlement_in (command.Close close) = None
settlement_in (command.Settle settlement) = Some settlement
settlement_in (command.Exposure ask) = None
settlement_in (command.Find find) = None
settlement_in (command.Statement ask) = None

abbrev pub find_in : Command → Option Find
find_in (command.PutTariff tariff) = None
find_in (command.PutToken token) = None
find_in (command.Authorize ask) = None
find_in (command.Release release) = None
find_in (command.Post checked) = None
find_in (command.Close close) = None
find_in (command.Settle settlement) = None
find_in (command.Exposure ask) = None
find_in (command.Find find) = Some find
find_in (command.Statement ask) = None

-- the period to close, to settle or to state
abbrev pub period_in : Command → Option ℕ
period_in (command.PutTariff tariff) = None
period_in (command.PutToken token) = None
period_in (command.Authorize ask) = None
period_in (command.Release release) = None
period_in (command.Post checked) = None
period_in (command.Close close) = Some close.period
period_in (command.Settle settlement) = Some settlement.period
period_in (command.Exposure ask) = None
period_in (command.Find find) = None
period_in (command.Statement ask) = Some ask.period

-- ---- causes

-- another tariff stands under the version, or another CDR under the id
abbrev pub conflict : List Event → Command → Option HouseCause
conflict events (command.PutTariff tariff) = version_conflict events tariff
conflict events (command.PutToken token) = None
conflict events (command.Authorize ask) = None
conflict events (command.Release release) = None
conflict events (command.Post checked) = booking_conflict events checked.cdr
conflict events (command.Close close) = None
conflict events (command.Settle settlement) = None
conflict events (command.Exposure ask) = None
conflict events (command.Find find) = None
conflict events (command.Statement ask) = None

abbrev pub above_limit : ℤ → ℤ → Bool → HouseCause
above_limit exposure limit pair = cause_at (at name.Cdr) (reason.AboveLimit exposure limit pair)

abbrev pub not_covered : OverLimit → HouseCause
not_covered over = cause_at (at name.Provider) (reason.NotCovered over)

-- why the house refuses a command so; none for a refusal that comes before a house is asked, or if an allocation fails
abbrev pub refused : Config → List Event → Command → Refusal → Option HouseCause
refused config events command refusal.Syntax = None
refused config events command (refusal.Field called) = None
refused config events command refusal.UnknownParty = None
refused config events command refusal.NotYours = None
refused config events command refusal.WrongCurrency = None
refused config events command refusal.BadDates = None
refused config events command refusal.TariffNotGiven = None
refused config events command refusal.UnsupportedRestriction = None
refused config events command refusal.Reservation = None
refused config events command refusal.EnergyMismatch = None
refused config events command refusal.AmountTooLarge = None
refused config events command (refusal.CostMismatch rated) = None
refused config events command refusal.Conflict = conflict events command
refused config events command refusal.TariffNotRegistered = cdr_in command >>= λ cdr. not_registered events cdr
refused config events command refusal.UnknownToken = authorize_in command >>= λ ask. unknown_token events ask
refused config events command refusal.UnknownHold = release_in command >>= λ release. unknown_hold events release
refused config events command refusal.UnknownOriginal = cdr_in command >>= λ credit. no_original credit
refused config events command refusal.CreditOfCredit = cdr_in command >>= λ credit. of_credit events credit
refused config events command refusal.AlreadyCredited = cdr_in command >>= λ credit. credited_already events credit
refused config events command refusal.CreditDiffers = cdr_in command >>= λ credit. credit_differs config events credit
refused config events command (refusal.NotCurrent current) = option_map (λ period. not_current period current) (period_in command)
refused config events command refusal.PeriodOpen = option_map (λ period. not_closed events period) (period_in command)
refused config events command refusal.AlreadySettled =
    option_map (λ settlement. settled_already events settlement) (settlement_in command)
refused config events command refusal.UnknownCdr = option_map (λ find. no_cdr find) (find_in command)
refused config events command (refusal.Full what) = Some (full config command what)
refused config events command (refusal.OverLimit exposure limit pair) = Some (above_limit exposure limit pair)
refused config events command (refusal.TooLate original current) = Some (too_late original current)
refused config events command refusal.NoMemory = None

-- why the house answers BLOCKED or NO_CREDIT
abbrev pub answered : Command → Answer → Option HouseCause
answered command answer.Stored = None
answered command answer.Unchanged = None
answered command (answer.Allowed reference) = None
answered command answer.Blocked = option_map (λ ask. blocked ask) (authorize_in command)
answered command (answer.NoCredit over) = Some (not_covered over)
answered command (answer.Released amount) = None
answered command (answer.Accepted amount period) = None
answered command (answer.Repeated amount period) = None
answered command (answer.Closed period positions) = None
answered command (answer.Settled amount) = None
answered command (answer.Exposure holds debts limit) = None
answered command (answer.Found amount period credited) = None
answered command (answer.Statement rows) = None

abbrev pub cause_of : Config → List Event → Command → Result Answer Refusal → Option HouseCause
cause_of config events command (Ok answer) = answered command answer
cause_of config events command (Err refusal) = refused config events command refusal

-- without the number of events
abbrev pub said_in : Reply → Result Answer Refusal
said_in (Ok replied) = Ok replied.answer
said_in (Err refused) = Err refused.refusal
