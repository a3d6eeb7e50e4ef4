-- References of different numbers differ, but for the case of letters.
use Rattle.std.proofs.Common.{◌≡◌, ◌<◌, ◌^◌, ◌==◌, ℕ, List, [], ◌∷◌, ◌++◌, true, codes, decimal, refl, sym, ap, ap₂, ◌∙◌, arith}
use Rattle.std.specs.Char.{digit_value, to_ascii_lowercase}
use Rattle.std.specs.Cmp.Lexicographic.{pointwise, same_text}
use Rattle.std.specs.Str.Parse.{AllDigits}
use Rattle.std.proofs.lemmas.Cmp.{nat_list_eq_equiv}
use Rattle.std.proofs.lemmas.Fmt.{decimal_injective, decimal_is_IsNumeral}
use Rattle.std.proofs.lemmas.List.{append_cancel_left, map-append}
use Rattle.ocpi_json.specs.Folded.{folded, same_folded}
use Rattle.ocpi_types.specs.declared.party.Party.{Party}
use Rattle.ocpi_types.specs.Party.{same_party}
use Rattle.ocpi_types.specs.SameTariff.{folded_party}
use Rattle.plain_house.specs.House.{reference_text}
use Rattle.provider_account.proofs.OpenHolds.{both}

pub folded_same : (a b : List ℕ) → same_folded a b ≡ true → folded a ≡ folded b
folded_same a b e = same_text (folded a) (folded b) (sym e)

pub same_from_folded : (a b : List ℕ) → folded a ≡ folded b → same_folded a b ≡ true
same_from_folded a b e = ap (λ (text : List ℕ). pointwise ◌==◌ (folded a) text) (sym e) ∙ nat_list_eq_equiv.refl (folded a)

pub same_folded_party : (a b : Party) → same_party a b ≡ true → folded_party a ≡ folded_party b
same_folded_party a b h =
    let parts = both (same_folded a.country_code b.country_code) (same_folded a.party_id b.party_id) h in
    let country_code = folded_same a.country_code b.country_code parts.0 in
    let party_id = folded_same a.party_id b.party_id parts.1 in
    λ i. record { country_code = country_code i; party_id = party_id i }

folded_digit : (byte : ℕ) → digit_value byte < 10 → to_ascii_lowercase byte ≡ byte
folded_digit byte h = grind arith

folded_digits : (digits : List ℕ) → AllDigits 10 digits → folded digits ≡ digits
folded_digits [] h = refl
folded_digits (digit ∷ digits) h = ap₂ (λ (a : ℕ) (b : List ℕ). a ∷ b) (folded_digit digit h.0) (folded_digits digits h.1)

-- a reference with its letters folded
abbrev pub spelled : Party → ℕ → List ℕ
spelled party number = party.country_code ++ (party.party_id ++ (folded (codes "-") ++ decimal number))

pub folded_reference : (party : Party) (number : ℕ) → number < 2 ^ 64 → folded (reference_text party number) ≡ spelled (folded_party party) number
folded_reference party number small =
    let digits : folded (decimal number) ≡ decimal number = folded_digits (decimal number) (decimal_is_IsNumeral number small).0.1 in
    map-append to_ascii_lowercase party.country_code (party.party_id ++ (codes "-" ++ decimal number))
    ∙ ap (λ l. folded party.country_code ++ l) (map-append to_ascii_lowercase party.party_id (codes "-" ++ decimal number))
    ∙ ap (λ l. folded party.country_code ++ (folded party.party_id ++ l)) (map-append to_ascii_lowercase (codes "-") (decimal number))
    ∙ ap (λ l. folded party.country_code ++ (folded party.party_id ++ (folded (codes "-") ++ l))) digits

pub same_number : (party : Party) (m n : ℕ) → m < 2 ^ 64 → n < 2 ^ 64 → spelled party m ≡ spelled party n → m ≡ n
same_number party m n small_m small_n e =
    decimal_injective m n small_m small_n
    (append_cancel_left (folded (codes "-")) (decimal m) (decimal n)
    (append_cancel_left party.party_id (folded (codes "-") ++ decimal m) (folded (codes "-") ++ decimal n)
    (append_cancel_left party.country_code (party.party_id ++ (folded (codes "-") ++ decimal m)) (party.party_id ++ (folded (codes "-") ++ decimal n)) e)))

-- the same party's reference of a number is the same
pub same_reference : (a b : Party) (number : ℕ) → number < 2 ^ 64 → same_party a b ≡ true → same_folded (reference_text a number) (reference_text b number) ≡ true
same_reference a b number small e =
    same_from_folded (reference_text a number) (reference_text b number)
    (folded_reference a number small ∙ ap (λ (party : Party). spelled party number) (same_folded_party a b e) ∙ sym (folded_reference b number small))
