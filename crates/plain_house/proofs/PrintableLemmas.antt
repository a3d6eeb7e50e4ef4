-- A reference is printable.
use Rattle.std.proofs.Common.{◌≡◌, ◌<◌, ◌≤◌, ◌^◌, ◌&&◌, ℕ, List, [], ◌∷◌, ◌++◌, true, refl, ap, ◌∙◌, arith, nat_le, decimal, length}
use Rattle.std.specs.Char.{digit_value}
use Rattle.std.specs.Str.Parse.{AllDigits}
use Rattle.std.specs.Cmp.Derive.{both_true}
use Rattle.std.proofs.lemmas.Fmt.{decimal_is_IsNumeral}
use Rattle.std.proofs.lemmas.List.Folds.{list_all-append}
use Rattle.ocpi_json.specs.Folded.{is_printable}

printable_digit : (byte : ℕ) → digit_value byte < 10 → (nat_le 32 byte && nat_le byte 126) ≡ true
printable_digit byte h = grind arith

printable_digits : (digits : List ℕ) → AllDigits 10 digits → is_printable digits ≡ true
printable_digits [] h = refl
printable_digits (digit ∷ digits) h = both_true (printable_digit digit h.0) (printable_digits digits h.1)

pub printable_number : (text : List ℕ) (number : ℕ) → text ≡ decimal number → number < 2 ^ 64 → is_printable text ≡ true
printable_number text number e small =
    ap (λ (bytes : List ℕ). is_printable bytes) e ∙ printable_digits (decimal number) (decimal_is_IsNumeral number small).0.1

-- a printable text with another behind it
pub printable_pushed : (before text after : List ℕ) → after ≡ before ++ text → is_printable before ≡ true → is_printable text ≡ true → is_printable after ≡ true
printable_pushed before text after e h k =
    ap (λ (bytes : List ℕ). is_printable bytes) e ∙ list_all-append (λ byte. nat_le 32 byte && nat_le byte 126) before text ∙ both_true h k

pub printable_same : (text same : List ℕ) → same ≡ text → is_printable text ≡ true → is_printable same ≡ true
printable_same text same e h = ap (λ (bytes : List ℕ). is_printable bytes) e ∙ h

at_most : (n most : ℕ) → n ≤ most → nat_le n most ≡ true
at_most n most h = grind arith

pub fits_printable : (text : List ℕ) (most : ℕ) → is_printable text ≡ true → length text ≤ most → (is_printable text && nat_le (length text) most) ≡ true
fits_printable text most h k = both_true h (at_most (length text) most k)
