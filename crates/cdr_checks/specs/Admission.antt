-- Which requests are admitted, each kind by its tests in the order of their refusals.
use Rattle.std.specs.Prelude.{◌≡◌, ℕ, List, Result, Ok}
use Rattle.ocpi_json.specs.declared.name.Name.{Name}
use Rattle.ocpi_json.specs.declared.name.Name.TheVariants as name
use Rattle.ocpi_types.specs.declared.cdr.Cdr.{Cdr}
use Rattle.ocpi_types.specs.declared.config.Config.{Config}
use Rattle.ocpi_types.specs.declared.refusal.Refusal.{Refusal}
use Rattle.ocpi_types.specs.declared.tariff.Tariff.{Tariff}
use Rattle.ocpi_types.specs.declared.token.Token.{Token}
use Rattle.tariff_elements.specs.Support.{unsupported}
use Rattle.cdr_checks.specs.declared.cause.Cause.{Cause}
use Rattle.cdr_checks.specs.declared.cause.Reason.TheVariants.{NotSupported}
use Rattle.cdr_checks.specs.declared.request.Ask.{Ask}
use Rattle.cdr_checks.specs.declared.request.Ask.TheVariants as ask
use Rattle.cdr_checks.specs.declared.request.Authorize.{Authorize}
use Rattle.cdr_checks.specs.declared.request.Close.{Close}
use Rattle.cdr_checks.specs.declared.request.Command.{Command}
use Rattle.cdr_checks.specs.declared.request.Command.TheVariants as command
use Rattle.cdr_checks.specs.declared.request.ExposureOf.{ExposureOf}
use Rattle.cdr_checks.specs.declared.request.Find.{Find}
use Rattle.cdr_checks.specs.declared.request.Release.{Release}
use Rattle.cdr_checks.specs.declared.request.Request.{Request}
use Rattle.cdr_checks.specs.declared.request.Settlement.{Settlement}
use Rattle.cdr_checks.specs.declared.request.StatementOf.{StatementOf}
use Rattle.cdr_checks.specs.Asking.{is_a_hub, known_currency, known_operator, known_party, known_provider, may_act}
use Rattle.cdr_checks.specs.Cause.{with_refusal}
use Rattle.cdr_checks.specs.CdrAdmission.{checked_of}
use Rattle.cdr_checks.specs.FirstRefusal.{◌>>=◌, unless}
use Rattle.cdr_checks.specs.Place.{at, inside, restriction_of_tariff}

-- the cause of a bound on current or power, by its element and its name
abbrev pub tariff_with_bound : ℕ × Name → Cause
tariff_with_bound found = record { place = restriction_of_tariff found.0 found.1; reason = NotSupported }

abbrev pub put_tariff_admission : Config → List ℕ → Tariff → Result Command Cause
put_tariff_admission config platform tariff = do
  _ ← known_operator config (at name.Tariff) tariff.operator
  _ ← may_act config platform tariff.operator
  _ ← known_currency config (inside name.Tariff name.Currency) tariff.currency
  _ ← unless (unsupported tariff) tariff_with_bound
  Ok (command.PutTariff tariff)

abbrev pub put_token_admission : Config → List ℕ → Token → Result Command Cause
put_token_admission config platform token = do
  _ ← known_provider config (at name.Token) token.provider
  _ ← may_act config platform token.provider
  Ok (command.PutToken token)

abbrev pub authorize_admission : Config → List ℕ → Authorize → Result Command Cause
authorize_admission config platform authorize = do
  _ ← known_operator config (at name.Operator) authorize.operator
  _ ← known_provider config (at name.Provider) authorize.provider
  _ ← may_act config platform authorize.operator
  _ ← known_currency config (at name.Currency) authorize.currency
  Ok (command.Authorize authorize)

abbrev pub release_admission : Config → List ℕ → Release → Result Command Cause
release_admission config platform release = do
  _ ← known_operator config (at name.Operator) release.operator
  _ ← known_provider config (at name.Provider) release.provider
  _ ← may_act config platform release.operator
  Ok (command.Release release)

abbrev pub exposure_admission : Config → List ℕ → ExposureOf → Result Command Cause
exposure_admission config platform exposure = do
  _ ← known_provider config (at name.Provider) exposure.provider
  _ ← may_act config platform exposure.provider
  _ ← known_currency config (at name.Currency) exposure.currency
  Ok (command.Exposure exposure)

abbrev pub post_admission : Config → List ℕ → Cdr → Result Command Cause
post_admission config platform cdr = do
  checked ← checked_of config platform cdr
  Ok (command.Post checked)

abbrev pub close_admission : Config → List ℕ → Close → Result Command Cause
close_admission config platform close = do
  _ ← is_a_hub config platform
  Ok (command.Close close)

abbrev pub settle_admission : Config → List ℕ → Settlement → Result Command Cause
settle_admission config platform settlement = do
  _ ← known_provider config (at name.Provider) settlement.provider
  _ ← is_a_hub config platform
  _ ← known_currency config (at name.Currency) settlement.currency
  Ok (command.Settle settlement)

abbrev pub find_admission : Config → List ℕ → Find → Result Command Cause
find_admission config platform find = do
  _ ← known_operator config (at name.Operator) find.operator
  _ ← may_act config platform find.operator
  Ok (command.Find find)

abbrev pub statement_admission : Config → List ℕ → StatementOf → Result Command Cause
statement_admission config platform statement = do
  _ ← known_party config (at name.Party) statement.party
  _ ← may_act config platform statement.party
  Ok (command.Statement statement)

abbrev pub ask_admission : Config → List ℕ → Ask → Result Command Cause
ask_admission config platform (ask.PutTariff tariff) = put_tariff_admission config platform tariff
ask_admission config platform (ask.PutToken token) = put_token_admission config platform token
ask_admission config platform (ask.Authorize authorize) = authorize_admission config platform authorize
ask_admission config platform (ask.Release release) = release_admission config platform release
ask_admission config platform (ask.Post cdr) = post_admission config platform cdr
ask_admission config platform (ask.Close close) = close_admission config platform close
ask_admission config platform (ask.Settle settlement) = settle_admission config platform settlement
ask_admission config platform (ask.Exposure exposure) = exposure_admission config platform exposure
ask_admission config platform (ask.Find find) = find_admission config platform find
ask_admission config platform (ask.Statement statement) = statement_admission config platform statement

-- the command of a request, or the cause for which it is refused
unfoldable pub judged : Config → Request → Result Command Cause
judged config request = ask_admission config request.platform request.ask

-- the same with its refusal
unfoldable pub admission : Config → Request → Result Command Refusal
admission config request = with_refusal (judged config request)

-- some request of the command is admitted
unfoldable pub IsAdmitted : Config → Command → Type 0
IsAdmitted config command = (request : Request) × (admission config request ≡ Ok command)
