-- The token of a session (OCPI 2.2.1, CdrToken object).
use Rattle.std.specs.Prelude.{ℕ, List, Bool, true, false, Option, Some, None, codes, Result, Ok, if◌then◌else◌}
use Rattle.std.specs.Str.{bytes_eq}
use Rattle.json.specs.Json.{Json as Data}
use Rattle.ocpi_json.specs.Fields.{Kind, ascii, parsed, required}
use Rattle.ocpi_json.specs.Members.{◌>>=◌}
use Rattle.ocpi_json.specs.declared.expected.Expected.TheVariants as expected
use Rattle.ocpi_json.specs.declared.member_fault.MemberFault.{MemberFault}
use Rattle.ocpi_json.specs.declared.name.Name.TheVariants as name
use Rattle.ocpi_types.specs.Party.{party_at}
use Rattle.ocpi_types.specs.TokenKind.{a_token_kind}
use Rattle.ocpi_types.specs.declared.cdr_token.AuthMethod.{AuthMethod}
use Rattle.ocpi_types.specs.declared.cdr_token.AuthMethod.TheVariants.{AuthRequest, Command, Whitelist}
use Rattle.ocpi_types.specs.declared.cdr_token.CdrToken.{CdrToken}

-- the method that a text names (OCPI 2.2.1, AuthMethod enum)
abbrev pub method_of : List ℕ → Option AuthMethod
method_of text =
    if bytes_eq text (codes "AUTH_REQUEST") then Some AuthRequest
    else (if bytes_eq text (codes "COMMAND") then Some Command
    else (if bytes_eq text (codes "WHITELIST") then Some Whitelist else None))

abbrev pub an_auth_method : Kind AuthMethod
an_auth_method = parsed expected.AuthMethod method_of

abbrev pub same_method : AuthMethod → AuthMethod → Bool
same_method AuthRequest AuthRequest = true
same_method Command Command = true
same_method Whitelist Whitelist = true
same_method a b = false

unfoldable pub cdr_token_at : Data → Result CdrToken MemberFault
cdr_token_at node = do
  provider ← party_at node
  uid ← required (ascii 36) name.Uid node
  kind ← required a_token_kind name.«Type» node
  contract_id ← required (ascii 36) name.ContractId node
  Ok (record { provider = provider; uid = uid; kind = kind; contract_id = contract_id })
