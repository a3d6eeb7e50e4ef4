-- Capital letters are UTF-8.
use Rattle.std.proofs.Common.{◌≡◌, ◌<◌, ℕ, List, [], ◌∷◌, true, arith}
use Rattle.std.specs.Char.{is_ascii_uppercase}
use Rattle.std.specs.List.{list_all}
use Rattle.std.specs.Str.{IsAscii, IsUtf8}
use Rattle.std.proofs.lemmas.Bool.Decides.{nat_tests}
use Rattle.std.proofs.lemmas.Str.{IsUtf8-from_ascii}
use Rattle.std.proofs.lemmas.Str.Ascii.{IsAscii-nil, IsAscii-cons}
use Rattle.ocpi_types.specs.Currency.{is_currency}

below_128 : (byte : ℕ) (rest : List ℕ) → list_all is_ascii_uppercase (byte ∷ rest) ≡ true → byte < 128
below_128 byte rest h = grind (arith, nat_tests)

others : (byte : ℕ) (rest : List ℕ) → list_all is_ascii_uppercase (byte ∷ rest) ≡ true → list_all is_ascii_uppercase rest ≡ true
others byte rest h = grind (arith, nat_tests)

ascii : (text : List ℕ) → list_all is_ascii_uppercase text ≡ true → IsAscii text
ascii [] h = IsAscii-nil
ascii (byte ∷ rest) h = IsAscii-cons byte rest (below_128 byte rest h) (ascii rest (others byte rest h))

letters : (text : List ℕ) → is_currency text ≡ true → list_all is_ascii_uppercase text ≡ true
letters text h = grind (arith, nat_tests)

pub currency_utf8 : (text : List ℕ) → is_currency text ≡ true → IsUtf8 text
currency_utf8 text h = IsUtf8-from_ascii text (ascii text (letters text h))
