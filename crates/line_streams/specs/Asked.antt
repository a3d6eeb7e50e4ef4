-- What a line of a stream asks for: a request, as a line of a script does, or another configuration; and its request id.
use Rattle.std.specs.Prelude.{ℕ, Bool, false, ◌&&◌, List, length, nat_le, Option, Some, None, Result, Ok, Err, codes, is_ok, if◌then◌else◌}
use Rattle.std.specs.List.{list_any}
use Rattle.std.specs.Str.{bytes_eq}
use Rattle.json.specs.Json.{Json as Data}
use Rattle.ocpi_json.specs.Fields.{Kind, ascii, object, optional, parsed, required}
use Rattle.ocpi_json.specs.MemberFaults.{fault_at, member_of, name_of, seen_from}
use Rattle.ocpi_json.specs.Members.{◌>>=◌, inside}
use Rattle.ocpi_json.specs.Reading.{data_of}
use Rattle.ocpi_json.specs.declared.expected.Expected.TheVariants as expected
use Rattle.ocpi_json.specs.declared.member_fault.MemberFault.{MemberFault}
use Rattle.ocpi_json.specs.declared.name.Name.TheVariants as name
use Rattle.ocpi_types.specs.ConfigText.{config_at}
use Rattle.ocpi_types.specs.declared.config.Config.{Config}
use Rattle.ocpi_types.specs.declared.refusal.Refusal.{Refusal}
use Rattle.ocpi_types.specs.declared.refusal.Refusal.TheVariants as refusal
use Rattle.request_lines.specs.RequestText.{request_at}
use Rattle.line_streams.specs.declared.asked.Asked.{Asked}
use Rattle.line_streams.specs.declared.asked.Asked.TheVariants as asked
use Rattle.line_streams.specs.declared.asked.AskedLine.{AskedLine}
use Rattle.line_streams.specs.declared.asked.Change.{Change}
use Rattle.line_streams.specs.declared.asked.ChangeName.{ChangeName}
use Rattle.line_streams.specs.declared.asked.ChangeName.TheVariants.{Configure}

-- the command of a change, as the member `do` names it
abbrev pub change_named : List ℕ → Option ChangeName
change_named text = if bytes_eq text (codes "configure") then Some Configure else None

abbrev pub a_change : Kind ChangeName
a_change = parsed expected.Change change_named

-- the line asks for a change
abbrev pub is_change : Data → Bool
is_change node = is_ok (required a_change name.Do node)

abbrev pub is_change_in : Option Data → Bool
is_change_in None = false
is_change_in (Some node) = is_change node

abbrev pub is_change_line : List ℕ → Bool
is_change_line line = is_change_in (data_of line)

-- the configuration has a hub: without one nobody could change it again
abbrev pub has_hub : Config → Bool
has_hub config = list_any (λ platform. platform.hub) config.platforms

-- the fault of a configuration without a hub
abbrev pub without_hub : MemberFault
without_hub = seen_from (member_of name.Configuration) (fault_at (member_of name.Platforms) expected.Hub)

-- who asks, and for which configuration
unfoldable pub change_at : Data → Result Change MemberFault
change_at node = do
  platform ← required (ascii 36) name.Platform node
  object ← required object name.Configuration node
  config ← inside name.Configuration (config_at object)
  if has_hub config then Ok (record { platform = platform; config = config }) else Err without_hub

abbrev pub changes_at : Data → Result Asked MemberFault
changes_at node = do
  change ← change_at node
  Ok (asked.Change change)

abbrev pub requests_at : Data → Result Asked MemberFault
requests_at node = do
  request ← request_at node
  Ok (asked.Request request)

abbrev pub asked_at : Data → Result Asked MemberFault
asked_at node = if is_change node then changes_at node else requests_at node

-- ---- request ids

-- a request id: a text of 1 to 64 bytes
abbrev pub request_id_of : List ℕ → Option (List ℕ)
request_id_of text = if nat_le 1 (length text) && nat_le (length text) 64 then Some text else None

abbrev pub a_request_id : Kind (List ℕ)
a_request_id = parsed expected.RequestId request_id_of

abbrev pub request_id_at : Data → Result (Option (List ℕ)) MemberFault
request_id_at node = optional a_request_id name.RequestId node

-- ---- lines

abbrev pub line_at : Data → Result AskedLine MemberFault
line_at node = do
  id ← request_id_at node
  asked ← asked_at node
  Ok (record { id = id; asked = asked })

abbrev pub or_field : Result AskedLine MemberFault → Result AskedLine Refusal
or_field (Ok found) = Ok found
or_field (Err fault) = Err (refusal.Field (name_of fault.member))

abbrev pub line_in : Option Data → Result AskedLine Refusal
line_in None = Err refusal.Syntax
line_in (Some node) = or_field (line_at node)

-- what a line asks for, or why it asks for nothing
unfoldable pub asked_of : List ℕ → Result AskedLine Refusal
asked_of line = line_in (data_of line)
