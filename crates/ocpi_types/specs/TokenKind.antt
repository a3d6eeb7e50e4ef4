-- The type of a token (OCPI 2.2.1, TokenType enum).
use Rattle.std.specs.Prelude.{ℕ, List, Bool, true, false, codes, Option, Some, None, if◌then◌else◌}
use Rattle.std.specs.Str.{bytes_eq}
use Rattle.ocpi_json.specs.Fields.{Kind, parsed}
use Rattle.ocpi_json.specs.declared.expected.Expected.TheVariants as expected
use Rattle.ocpi_types.specs.declared.token.TokenKind.{TokenKind}
use Rattle.ocpi_types.specs.declared.token.TokenKind.TheVariants.{AdHocUser, AppUser, Other, Rfid}

abbrev pub same_token_kind : TokenKind → TokenKind → Bool
same_token_kind AdHocUser AdHocUser = true
same_token_kind AppUser AppUser = true
same_token_kind Other Other = true
same_token_kind Rfid Rfid = true
same_token_kind a b = false

-- the type that a text names
abbrev pub token_kind_of : List ℕ → Option TokenKind
token_kind_of text =
    if bytes_eq text (codes "AD_HOC_USER") then Some AdHocUser
    else (if bytes_eq text (codes "APP_USER") then Some AppUser
    else (if bytes_eq text (codes "OTHER") then Some Other
    else (if bytes_eq text (codes "RFID") then Some Rfid else None)))

abbrev pub a_token_kind : Kind TokenKind
a_token_kind = parsed expected.TokenKind token_kind_of
