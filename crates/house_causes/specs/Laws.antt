-- What holds of every cause.
use Rattle.std.specs.Prelude.{◌≡◌, ◌≢◌, ◌<◌, ◌^◌, ◌⊎◌, ℕ, ◌+◌, List, Option, None, Some, Result, Ok, Err, drop, is_some, length, slice_get, take, true}
use Rattle.std.specs.List.{list_any}
use Rattle.ocpi_json.specs.declared.name.Name.{Name}
use Rattle.ocpi_json.specs.declared.name.Name.TheVariants as name
use Rattle.ocpi_types.specs.Party.{same_party}
use Rattle.ocpi_types.specs.declared.config.Config.{Config}
use Rattle.ocpi_types.specs.declared.refusal.Refusal.{Refusal}
use Rattle.ocpi_types.specs.declared.tariff.Tariff.{Tariff}
use Rattle.ocpi_types.specs.declared.token.Token.{Token}
use Rattle.cdr_checks.specs.Admission.{IsAdmitted}
use Rattle.cdr_checks.specs.Checked.{Checked}
use Rattle.cdr_checks.specs.Place.{in_item, inside}
use Rattle.cdr_checks.specs.declared.request.Authorize.{Authorize}
use Rattle.cdr_checks.specs.declared.request.Close.{Close}
use Rattle.cdr_checks.specs.declared.request.Command.{Command}
use Rattle.cdr_checks.specs.declared.request.Command.TheVariants as command
use Rattle.cdr_checks.specs.declared.request.ExposureOf.{ExposureOf}
use Rattle.cdr_checks.specs.declared.request.Find.{Find}
use Rattle.cdr_checks.specs.declared.request.Release.{Release}
use Rattle.cdr_checks.specs.declared.request.Settlement.{Settlement}
use Rattle.cdr_checks.specs.declared.request.StatementOf.{StatementOf}
use Rattle.plain_house.specs.Happened.{registers}
use Rattle.plain_house.specs.House.{verdict}
use Rattle.plain_house.specs.Known.{known}
use Rattle.plain_house.specs.Legal.{IsLegal}
use Rattle.plain_house.specs.declared.answer.Answer.{Answer}
use Rattle.plain_house.specs.declared.answer.Answer.TheVariants as answer
use Rattle.plain_house.specs.declared.event.Event.{Event}
use Rattle.plain_house.specs.declared.over_limit.OverLimit.{OverLimit}
use Rattle.house_causes.specs.Causes.{cause_of}
use Rattle.house_causes.specs.HouseCause.{cause_at, is_by_event, refusal_by}
use Rattle.house_causes.specs.declared.house_cause.HouseCause.{HouseCause}
use Rattle.house_causes.specs.declared.house_cause.HouseReason.TheVariants as reason

-- the cause of a refusal says that refusal
abbrev pub CausesSayTheirRefusals : Type 0
CausesSayTheirRefusals =
    (config : Config) (events : List Event) (command : Command) (refusal : Refusal) (cause : HouseCause) →
    cause_of config events command (Err refusal) ≡ Some cause → refusal_by cause.reason ≡ Some refusal

-- what the house replies to the command after these events
abbrev pub said_by_house : Config → List Event → Command → Result Answer Refusal
said_by_house config events command = (verdict config (known events) command).reply

-- the cause of that reply
abbrev pub cause_after : Config → List Event → Command → Option HouseCause
cause_after config events command = cause_of config events command (said_by_house config events command)

-- each refusal of a command that is admitted has a cause
abbrev pub EachRefusalHasACause : Type 0
EachRefusalHasACause =
    (config : Config) (events : List Event) (command : Command) (refusal : Refusal) → IsAdmitted config command →
    said_by_house config events command ≡ Err refusal → is_some (cause_of config events command (Err refusal)) ≡ true

-- the cause of a reply names an event if and only if an event gives its reason
abbrev pub CausesHaveEvents : Type 0
CausesHaveEvents =
    (config : Config) (events : List Event) (command : Command) (cause : HouseCause) → IsAdmitted config command →
    cause_after config events command ≡ Some cause → is_some cause.event ≡ is_by_event cause.reason

-- so have the answers that refuse, BLOCKED and NO_CREDIT
pub record RefusingAnswersHaveCauses : Type 0 where
  pub blocked : (config : Config) (events : List Event) (command : Command) →
      said_by_house config events command ≡ Ok answer.Blocked → is_some (cause_of config events command (Ok answer.Blocked)) ≡ true
  pub no_credit : (config : Config) (events : List Event) (command : Command) (over : OverLimit) →
      is_some (cause_of config events command (Ok (answer.NoCredit over))) ≡ true

-- ---- the event of a cause

-- on the events before the one at this place the command is not refused for the reason; with that one it is refused for the cause
pub record IsGivenByEvent (config : Config) (events : List Event) (command : Command) (cause : HouseCause) (at : ℕ) : Type 0 where
  pub before : (other : HouseCause) → cause_after config (take at events) command ≡ Some other → other.reason ≡ cause.reason → ⊥
  pub with_it : cause_after config (take (at + 1) events) command ≡ Some cause

-- the event that the cause of a command names gives it
abbrev pub NamesItsEvent : Config → List Event → Command → Type 0
NamesItsEvent config events command =
    (cause : HouseCause) (at : ℕ) → cause_after config events command ≡ Some cause → cause.event ≡ Some at →
    IsGivenByEvent config events command cause at

-- the cause of a command names no event
abbrev pub NamesNoEvent : Config → List Event → Command → Type 0
NamesNoEvent config events command = (cause : HouseCause) → cause_after config events command ≡ Some cause → cause.event ≡ None

-- ---- the event that stored a tariff of a CDR otherwise

-- on the events as far as the one at this place, the CDR is refused for a tariff before the one of this number: no version of its
-- moment is stored yet, and a later event stores it
pub record LacksEarlier (config : Config) (events : List Event) (checked : Checked) (number at : ℕ) : Type 0 where
  pub earlier : ℕ
  pub tariff : Tariff
  pub less : earlier < number
  pub numbered : slice_get checked.cdr.tariffs earlier ≡ Some tariff
  pub later : list_any (registers checked.cdr.operator tariff) (drop (at + 1) events) ≡ true
  pub refused : cause_after config (take (at + 1) events) (command.Post checked) ≡ Some (cause_at (in_item name.Tariffs earlier name.LastUpdated) (reason.NotRegistered tariff.last_updated))

-- a tariff of the CDR, of its operator, is stored with other content: the event gives the refusal of that tariff where it is put. On the
-- events before it the CDR is not refused for such a tariff. With it the CDR is refused for the cause, or for an earlier tariff that a
-- later event stores
pub record IsGivenByVersion (config : Config) (events : List Event) (checked : Checked) (cause : HouseCause) (at : ℕ) : Type 0 where
  pub number : ℕ
  pub tariff : Tariff
  pub differing : Name
  pub numbered : slice_get checked.cdr.tariffs number ≡ Some tariff
  pub own : same_party tariff.operator checked.cdr.operator ≡ true
  pub in_cdr : cause.place ≡ Some (in_item name.Tariffs number differing)
  pub stored : IsGivenByEvent config events (command.PutTariff tariff) (record { place = Some (inside name.Tariff differing); reason = reason.StoredOtherwise; event = Some at }) at
  pub before : (other : HouseCause) → cause_after config (take at events) (command.Post checked) ≡ Some other → other.reason ≡ cause.reason → ⊥
  pub with_it : (cause_after config (take (at + 1) events) (command.Post checked) ≡ Some cause) ⊎ LacksEarlier config events checked number at

-- ---- of each command, under the configuration in force, after events that are legal under that or another one

pub record CausesNameTheirEvents : Type 0 where
  pub tariff : (config : Config) (events : List Event) (tariff : Tariff) → NamesItsEvent config events (command.PutTariff tariff)
  pub token : (config : Config) (events : List Event) (token : Token) → NamesNoEvent config events (command.PutToken token)
  pub authorisation : (config : Config) (events : List Event) (ask : Authorize) → NamesItsEvent config events (command.Authorize ask)
  pub release : (base config : Config) (events : List Event) (release : Release) → IsLegal base events → length events < 2 ^ 63 → NamesItsEvent config events (command.Release release)
  -- a CDR or a Credit CDR; but see the next for a CDR with a tariff that is stored with other content
  pub post : (base config : Config) (events : List Event) (checked : Checked) → IsLegal base events → (cause : HouseCause) (at : ℕ) → cause_after config events (command.Post checked) ≡ Some cause → cause.event ≡ Some at → cause.reason ≢ reason.RegisteredOtherwise → IsGivenByEvent config events (command.Post checked) cause at
  pub registered_otherwise : (base config : Config) (events : List Event) (checked : Checked) → IsLegal base events → (cause : HouseCause) (at : ℕ) → cause_after config events (command.Post checked) ≡ Some cause → cause.event ≡ Some at → cause.reason ≡ reason.RegisteredOtherwise → IsGivenByVersion config events checked cause at
  pub close : (config : Config) (events : List Event) (close : Close) → NamesNoEvent config events (command.Close close)
  pub settlement : (base config : Config) (events : List Event) (settlement : Settlement) → IsLegal base events → NamesItsEvent config events (command.Settle settlement)
  pub exposure : (config : Config) (events : List Event) (ask : ExposureOf) → NamesNoEvent config events (command.Exposure ask)
  pub find : (config : Config) (events : List Event) (find : Find) → NamesNoEvent config events (command.Find find)
  pub statement : (config : Config) (events : List Event) (ask : StatementOf) → NamesNoEvent config events (command.Statement ask)
