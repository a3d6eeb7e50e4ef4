-- A token in a node (OCPI 2.2.1, Token object). Its `whitelist` has to be a text, and is not kept.
use Rattle.std.specs.Prelude.{Result, Ok}
use Rattle.json.specs.Json.{Json as Data}
use Rattle.ocpi_json.specs.Fields.{ascii, flag, moment, required, text}
use Rattle.ocpi_json.specs.Members.{◌>>=◌}
use Rattle.ocpi_json.specs.declared.member_fault.MemberFault.{MemberFault}
use Rattle.ocpi_json.specs.declared.name.Name.TheVariants as name
use Rattle.ocpi_types.specs.Party.{party_at}
use Rattle.ocpi_types.specs.TokenKind.{a_token_kind}
use Rattle.ocpi_types.specs.declared.token.Token.{Token}

unfoldable pub token_at : Data → Result Token MemberFault
token_at node = do
  provider ← party_at node
  uid ← required (ascii 36) name.Uid node
  kind ← required a_token_kind name.«Type» node
  contract_id ← required (ascii 36) name.ContractId node
  valid ← required flag name.Valid node
  _ ← required text name.Whitelist node
  last_updated ← required moment name.LastUpdated node
  Ok (record {
    provider = provider;
    uid = uid;
    kind = kind;
    contract_id = contract_id;
    valid = valid;
    last_updated = last_updated;
  })
