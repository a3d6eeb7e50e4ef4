-- The numeral that a text spells, and its value, computed: `MillionthsOfIsValue` says that they are those of `IsMillionthsOf`.
use Rattle.std.specs.Prelude.{ℕ, ◌+◌, ◌*◌, ◌/◌, ◌^◌, List, Bool, ◌&&◌, ◌||◌, ◌==◌, nat_le, not, length, drop, slice_index, take_while, bytes_eq, if◌then◌else◌, ℤ, Option, Some, None}
use Rattle.std.specs.Char.{is_ascii_digit}
use Rattle.std.specs.Str.Parse.{starts_with_minus}
use Rattle.exact_money.specs.Numeral.{Numeral, spelling, digits_of, unit_of, signed}

abbrev pub leading_digits : List ℕ → List ℕ
leading_digits text = take_while is_ascii_digit text

-- a minus or none, the first digits, and the digits one byte behind them
abbrev pub parts : List ℕ → Numeral
parts text = let unsigned = drop (if starts_with_minus text then 1 else 0) text in
    let whole = leading_digits unsigned in
    record { negative = starts_with_minus text; whole = whole; fraction = leading_digits (drop (length whole + 1) unsigned) }

-- the lengths are in bounds, and no leading zero stands before other digits
abbrev pub is_in_form : Numeral → Bool
is_in_form n = nat_le 1 (length n.whole) && nat_le (length n.whole) 9 && (length n.whole == 1 || not (slice_index n.whole 0 == 48))
    && nat_le (length n.fraction) 30

-- the numeral that the text spells, if it spells one
abbrev pub numeral_of : List ℕ → Option Numeral
numeral_of text = if is_in_form (parts text) && bytes_eq text (spelling (parts text)) then Some (parts text) else None

-- digits / unit in millionths: half and more goes up
abbrev pub rounded_size : ℕ → ℕ → ℕ
rounded_size digits unit = (2 * (digits * 10 ^ 6) + unit) / (2 * unit)

abbrev pub value_of : Numeral → ℤ
value_of n = signed n.negative (rounded_size (digits_of n) (unit_of n))
