-- The values in the columns `found` and `against`.
use Rattle.std.specs.Prelude.{ℕ, List, [], ◌++◌, codes, decimal}
use Rattle.exact_money.specs.Amount.{amount_text}
use Rattle.ocpi_types.specs.Party.{party_text}
use Rattle.ocpi_types.specs.declared.token.TokenKind.{TokenKind}
use Rattle.ocpi_types.specs.declared.token.TokenKind.TheVariants.{AdHocUser, AppUser, Other, Rfid}
use Rattle.line_causes.specs.Decimals.{energy_text, millionths_text}
use Rattle.ocpi_json.specs.ExpectedText.{expected_text}
use Rattle.ocpi_json.specs.declared.expected.Expected.TheVariants as expected
use Rattle.line_causes.specs.MomentText.{moment_text}
use Rattle.line_causes.specs.declared.value.Value.{Value}
use Rattle.line_causes.specs.declared.value.Value.TheVariants as value

-- the type of a token (OCPI 2.2.1, TokenType enum)
abbrev pub kind_text : TokenKind → List ℕ
kind_text AdHocUser = codes "AD_HOC_USER"
kind_text AppUser = codes "APP_USER"
kind_text Other = codes "OTHER"
kind_text Rfid = codes "RFID"

-- the commands of a script, and that of a change
abbrev pub stream_commands : List ℕ
stream_commands = expected_text expected.Command ++ (codes " " ++ expected_text expected.Change)

unfoldable pub value_text : Value → List ℕ
value_text value.Nothing = []
value_text value.Absent = codes "nothing"
value_text (value.Id id) = id
value_text (value.Reference reference) = reference
value_text (value.Party party) = party_text party
value_text (value.Currency currency) = currency
value_text (value.Kind kind) = kind_text kind
value_text (value.Moment moment) = moment_text moment
value_text (value.Number number) = decimal number
value_text (value.Amount amount) = amount_text amount
value_text (value.Decimal millionths) = millionths_text millionths
value_text (value.Energy millionths) = energy_text millionths
value_text (value.Written text) = text
value_text (value.Expected expected) = expected_text expected
value_text value.StreamCommand = stream_commands
