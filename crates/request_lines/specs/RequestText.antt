-- What a request line says: a platform, a command, and the command's members in order.
use Rattle.std.specs.Prelude.{ℕ, List, Option, Some, None, Result, Ok, Err, unwrap_or}
use Rattle.json.specs.Json.{Json as Data}
use Rattle.ocpi_json.specs.Fields.{ascii, object, optional, required, whole}
use Rattle.ocpi_json.specs.MemberFaults.{name_of}
use Rattle.ocpi_json.specs.Members.{◌>>=◌, inside}
use Rattle.ocpi_json.specs.Reading.{data_of}
use Rattle.ocpi_json.specs.declared.member_fault.MemberFault.{MemberFault}
use Rattle.ocpi_json.specs.declared.name.Name.TheVariants as name
use Rattle.ocpi_types.specs.Cdr.{cdr_at}
use Rattle.ocpi_types.specs.Currency.{a_currency}
use Rattle.ocpi_types.specs.Party.{a_party}
use Rattle.ocpi_types.specs.Tariff.{tariff_at}
use Rattle.ocpi_types.specs.Token.{token_at}
use Rattle.ocpi_types.specs.TokenKind.{a_token_kind}
use Rattle.ocpi_types.specs.declared.refusal.Refusal.{Refusal}
use Rattle.ocpi_types.specs.declared.refusal.Refusal.TheVariants as refusal
use Rattle.ocpi_types.specs.declared.token.TokenKind.{TokenKind}
use Rattle.ocpi_types.specs.declared.token.TokenKind.TheVariants.{Rfid}
use Rattle.cdr_checks.specs.declared.request.Ask.{Ask}
use Rattle.cdr_checks.specs.declared.request.Ask.TheVariants as ask
use Rattle.cdr_checks.specs.declared.request.Request.{Request}
use Rattle.request_lines.specs.CommandName.{a_command}
use Rattle.request_lines.specs.declared.requests.CommandName.{CommandName}
use Rattle.request_lines.specs.declared.requests.CommandName.TheVariants as command

-- a token's type is RFID where none is given
abbrev pub kind_or_rfid : Option TokenKind → TokenKind
kind_or_rfid kind = unwrap_or kind Rfid

unfoldable pub tariff_ask_at : Data → Result Ask MemberFault
tariff_ask_at node = do
  object ← required object name.Tariff node
  tariff ← inside name.Tariff (tariff_at object)
  Ok (ask.PutTariff tariff)

unfoldable pub token_ask_at : Data → Result Ask MemberFault
token_ask_at node = do
  object ← required object name.Token node
  token ← inside name.Token (token_at object)
  Ok (ask.PutToken token)

unfoldable pub authorize_at : Data → Result Ask MemberFault
authorize_at node = do
  operator ← required a_party name.Operator node
  provider ← required a_party name.Provider node
  uid ← required (ascii 36) name.Uid node
  kind ← optional a_token_kind name.«Type» node
  currency ← required a_currency name.Currency node
  Ok (ask.Authorize (record { operator = operator; provider = provider; uid = uid; kind = kind_or_rfid kind; currency = currency }))

unfoldable pub release_at : Data → Result Ask MemberFault
release_at node = do
  operator ← required a_party name.Operator node
  provider ← required a_party name.Provider node
  reference ← required (ascii 36) name.Reference node
  Ok (ask.Release (record { operator = operator; provider = provider; reference = reference }))

unfoldable pub post_at : Data → Result Ask MemberFault
post_at node = do
  object ← required object name.Cdr node
  cdr ← inside name.Cdr (cdr_at object)
  Ok (ask.Post cdr)

-- a period of at most 18 digits
unfoldable pub close_at : Data → Result Ask MemberFault
close_at node = do
  period ← required (whole 0 999_999_999_999_999_999) name.Period node
  Ok (ask.Close (record { period = period }))

unfoldable pub settle_at : Data → Result Ask MemberFault
settle_at node = do
  provider ← required a_party name.Provider node
  currency ← required a_currency name.Currency node
  period ← required (whole 0 999_999_999_999_999_999) name.Period node
  Ok (ask.Settle (record { provider = provider; currency = currency; period = period }))

unfoldable pub exposure_at : Data → Result Ask MemberFault
exposure_at node = do
  provider ← required a_party name.Provider node
  currency ← required a_currency name.Currency node
  Ok (ask.Exposure (record { provider = provider; currency = currency }))

unfoldable pub find_at : Data → Result Ask MemberFault
find_at node = do
  operator ← required a_party name.Operator node
  id ← required (ascii 39) name.Id node
  Ok (ask.Find (record { operator = operator; id = id }))

unfoldable pub statement_at : Data → Result Ask MemberFault
statement_at node = do
  party ← required a_party name.Party node
  period ← required (whole 0 999_999_999_999_999_999) name.Period node
  Ok (ask.Statement (record { party = party; period = period }))

abbrev pub ask_at : CommandName → Data → Result Ask MemberFault
ask_at command.PutTariff node = tariff_ask_at node
ask_at command.PutToken node = token_ask_at node
ask_at command.Authorize node = authorize_at node
ask_at command.Release node = release_at node
ask_at command.Post node = post_at node
ask_at command.Close node = close_at node
ask_at command.Settle node = settle_at node
ask_at command.Exposure node = exposure_at node
ask_at command.Find node = find_at node
ask_at command.Statement node = statement_at node

unfoldable pub request_at : Data → Result Request MemberFault
request_at node = do
  platform ← required (ascii 36) name.Platform node
  command ← required a_command name.Do node
  ask ← ask_at command node
  Ok (record { platform = platform; ask = ask })

-- the refusal names the member at fault
abbrev pub or_field : Result Request MemberFault → Result Request Refusal
or_field (Ok request) = Ok request
or_field (Err fault) = Err (refusal.Field (name_of fault.member))

abbrev pub request_in : Option Data → Result Request Refusal
request_in None = Err refusal.Syntax
request_in (Some node) = or_field (request_at node)

-- the request of a line, or why it is none
unfoldable pub request_of : List ℕ → Result Request Refusal
request_of line = request_in (data_of line)
