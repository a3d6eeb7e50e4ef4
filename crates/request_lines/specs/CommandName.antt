-- The commands by the word of the member `do`.
use Rattle.std.specs.Prelude.{ℕ, List, Option, Some, None, codes, if◌then◌else◌}
use Rattle.std.specs.Str.{bytes_eq}
use Rattle.ocpi_json.specs.Fields.{Kind, parsed}
use Rattle.ocpi_json.specs.declared.expected.Expected.TheVariants as expected
use Rattle.request_lines.specs.declared.requests.CommandName.TheVariants.{PutTariff, PutToken, Authorize, Release, Post, Close, Settle, Exposure, Find, Statement}
use Rattle.request_lines.specs.declared.requests.CommandName.{CommandName}

abbrev pub command_named : List ℕ → Option CommandName
command_named text =
    if bytes_eq text (codes "put_tariff") then Some PutTariff
    else (if bytes_eq text (codes "put_token") then Some PutToken
    else (if bytes_eq text (codes "authorize") then Some Authorize
    else (if bytes_eq text (codes "release") then Some Release
    else (if bytes_eq text (codes "post") then Some Post
    else (if bytes_eq text (codes "close") then Some Close
    else (if bytes_eq text (codes "settle") then Some Settle
    else (if bytes_eq text (codes "exposure") then Some Exposure
    else (if bytes_eq text (codes "find") then Some Find
    else (if bytes_eq text (codes "statement") then Some Statement else None)))))))))

abbrev pub a_command : Kind CommandName
a_command = parsed expected.Command command_named
