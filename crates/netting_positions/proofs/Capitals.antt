-- Texts in capital letters.
use Rattle.std.proofs.Common.{◌≡◌, ◌<◌, ◌≤◌, ℕ, Result, Ok, Err, Bool, ◌&&◌, List, [], ◌∷◌, true, false, rules, length, refl, ap, ◌∙◌, arith}
use Rattle.std.specs.Cmp.Lexicographic.{pointwise}
use Rattle.std.specs.Prelude.{◌==◌, nat_le, IsOk, MatchResult}
use Rattle.std.specs.Char.{to_ascii_lowercase}
use Rattle.std.proofs.lemmas.List.{length-map}
use Rattle.std.specs.Str.{IsAscii, IsUtf8}
use Rattle.std.proofs.lemmas.Bool.Decides.{nat_tests}
use Rattle.std.proofs.lemmas.Str.{IsUtf8-from_ascii}
use Rattle.std.proofs.lemmas.Str.Ascii.{IsAscii-nil, IsAscii-cons, lowercase-uppercase}
use Rattle.ocpi_json.specs.Folded.{folded, is_printable, same_folded}
use Rattle.ocpi_types.specs.declared.party.Party.{Party}
use Rattle.ocpi_types.specs.Party.{same_party}
use Rattle.netting_positions.specs.StatementKeys.{capitals, in_capitals}

below_128 : (byte : ℕ) (rest : List ℕ) → is_printable (byte ∷ rest) ≡ true → byte < 128
below_128 byte rest h = grind (arith, nat_tests)

others : (byte : ℕ) (rest : List ℕ) → is_printable (byte ∷ rest) ≡ true → is_printable rest ≡ true
others byte rest h = grind (arith, nat_tests)

first_raised : (byte : ℕ) (rest more : List ℕ) → is_printable (byte ∷ rest) ≡ true → is_printable (capitals more) ≡ true → is_printable (capitals (byte ∷ more)) ≡ true
first_raised byte rest more h k = grind (arith, nat_tests)

pub printable_capitals : (text : List ℕ) → is_printable text ≡ true → is_printable (capitals text) ≡ true
printable_capitals [] h = refl
printable_capitals (byte ∷ rest) h = first_raised byte rest rest h (printable_capitals rest (others byte rest h))

ascii : (text : List ℕ) → is_printable text ≡ true → IsAscii text
ascii [] h = IsAscii-nil
ascii (byte ∷ rest) h = IsAscii-cons byte rest (below_128 byte rest h) (ascii rest (others byte rest h))

pub printable_utf8 : (text : List ℕ) → is_printable text ≡ true → IsUtf8 text
printable_utf8 text h = IsUtf8-from_ascii text (ascii text h)

both_hold : (a b : Bool) → a ≡ true → b ≡ true → (a && b) ≡ true
both_hold true b e h = h
both_hold false b e h = e

at_most : (n most : ℕ) → n ≤ most → nat_le n most ≡ true
at_most n most h = grind (arith, nat_tests)

pub capitals_fit : (text result : List ℕ) (most : ℕ) → result ≡ capitals text → is_printable text ≡ true → length text ≤ most
    → (is_printable result && nat_le (length result) most) ≡ true
capitals_fit text result most e printable fits =
    both_hold (is_printable result) (nat_le (length result) most) (ap is_printable e ∙ printable_capitals text printable)
    (at_most (length result) most (omega (arith, ap length e, length-map {A = ℕ} {B = ℕ})))

-- what is refuted is no error
pub ok_if : {X E : Type 0} (r : Result X E) (P : X → Type 0) (Q : E → Type 0) → MatchResult r P Q → ((e : E) → Q e → ⊥) → IsOk r
ok_if (Ok x) P Q m refuted = search rules
ok_if (Err e) P Q m refuted = absurd (refuted e m)

pub folded_capitals : (text : List ℕ) → folded (capitals text) ≡ folded text
folded_capitals [] = refl
folded_capitals (byte ∷ rest) = ap (λ (b : ℕ). b ∷ folded (capitals rest)) (lowercase-uppercase byte) ∙ ap (λ (l : List ℕ). to_ascii_lowercase byte ∷ l) (folded_capitals rest)

pub same_in_capitals : (a b : Party) → same_party (in_capitals a) b ≡ same_party a b
same_in_capitals a b =
    ap (λ (text : List ℕ). pointwise ◌==◌ text (folded b.country_code) && same_folded (capitals a.party_id) b.party_id) (folded_capitals a.country_code)
    ∙ ap (λ (text : List ℕ). same_folded a.country_code b.country_code && pointwise ◌==◌ text (folded b.party_id)) (folded_capitals a.party_id)
