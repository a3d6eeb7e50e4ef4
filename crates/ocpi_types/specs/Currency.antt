-- A currency: the three letters A to Z of ISO 4217 (OCPI 2.2.1, CDR object).
use Rattle.std.specs.Prelude.{ℕ, ◌==◌, ◌&&◌, List, length, Bool, Option, Some, None, if◌then◌else◌}
use Rattle.std.specs.Char.{is_ascii_uppercase}
use Rattle.std.specs.List.{list_all}
use Rattle.std.specs.Str.{bytes_eq}
use Rattle.ocpi_json.specs.Fields.{Kind, parsed}
use Rattle.ocpi_json.specs.declared.expected.Expected.TheVariants as expected

abbrev pub is_currency : List ℕ → Bool
is_currency text = (length text == 3) && list_all is_ascii_uppercase text

-- the currency that a text names
abbrev pub currency_of : List ℕ → Option (List ℕ)
currency_of text = if is_currency text then Some text else None

abbrev pub a_currency : Kind (List ℕ)
a_currency = parsed expected.Currency currency_of

-- the same currency
abbrev pub same_currency : List ℕ → List ℕ → Bool
same_currency a b = bytes_eq a b
