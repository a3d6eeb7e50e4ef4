-- What std's parse gives of up to 18 digits.
use Rattle.std.proofs.Common.{◌≡◌, ℕ, ◌^◌, ◌<◌, ◌≤◌, List, length, Result, Ok, Err, true, arith, rules}
use Rattle.std.specs.Char.{is_ascii_digit}
use Rattle.std.specs.List.{list_all}
use Rattle.std.specs.Result.{result_ok}
use Rattle.std.specs.Str.Parse.{ParsesUnsigned, digits_value}
use Rattle.std.proofs.lemmas.Bool.Decides.{nat_tests}
use Rattle.std.proofs.lemmas.Str.Parse.{IsNumeralModel, IsDigitsTest, numerals_by_value, digits_value_short, parse_digits}
use Rattle.ocpi_json.specs.Fields.{whole_value}

tells_digits : IsDigitsTest (λ ds. list_all is_ascii_digit ds ≡ true)
tells_digits = search rules

digits : IsNumeralModel (λ ds. list_all is_ascii_digit ds ≡ true) (digits_value 10)
digits = numerals_by_value _ tells_digits

pub whole_value-parsed : {E : Type 0} (bs : List ℕ) (r : Result ℕ E) → ParsesUnsigned 64 10 bs r → length bs ≤ 18 → list_all is_ascii_digit bs ≡ true → result_ok r ≡ whole_value bs
whole_value-parsed {E} bs (Ok x) h short all =
    let parsed = parse_digits digits {E = E} 64 bs (Ok x) h all in
    let some = parsed.0.0 in
    let is = parsed.1 in
    grind (arith, nat_tests)
whole_value-parsed {E} bs (Err e) h short all =
    let failed = parse_digits digits {E = E} 64 bs (Err e) h all in
    let small : digits_value 10 bs < 10 ^ 18 = digits_value_short digits bs 18 all short in
    let empty : length bs ≤ 0 = grind (arith, nat_tests) in
    grind (arith, nat_tests)
