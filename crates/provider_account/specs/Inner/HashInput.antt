-- What the keys of an account write to a hasher. An account has one provider as a rule, so providers are left out.
use Rattle.std.specs.Prelude.{◌≡◌, ℕ, Bool, true, false, ◌&&◌, List, [], ◌∷◌, Option, None, Some}
use Rattle.std.proofs.Common.{refl, sym, ap, true≢false}
use Rattle.std.specs.Cmp.Lexicographic.{same_text}
use Rattle.std.specs.Option.{option_eq}
use Rattle.ocpi_json.specs.Folded.{folded, same_folded}
use Rattle.ocpi_json.specs.Inner.Cells.{padded}
use Rattle.ocpi_types.specs.declared.party.Party.{Party}
use Rattle.ocpi_types.specs.Party.{same_party}

abbrev pub party_input : Party → List (List ℕ)
party_input party = padded 2 (folded party.country_code) ∷ padded 3 (folded party.party_id) ∷ []

-- all operators write nothing
abbrev pub operator_input : Option Party → List (List ℕ)
operator_input None = []
operator_input (Some operator) = party_input operator

-- ---- the same keys write the same

pub both_same : (a b : Bool) → (a && b) ≡ true → (a ≡ true) × (b ≡ true)
both_same true b h = (refl, h)
both_same false b h = absurd (true≢false (sym h))

pub folded_same : (a b : List ℕ) → same_folded a b ≡ true → folded a ≡ folded b
folded_same a b h = same_text (folded a) (folded b) (sym h)

pub party_same : (a b : Party) → same_party a b ≡ true → party_input a ≡ party_input b
party_same a b h =
    let parts = both_same (same_folded a.country_code b.country_code) (same_folded a.party_id b.party_id) h in
    λ i. padded 2 (folded_same a.country_code b.country_code parts.0 i) ∷ padded 3 (folded_same a.party_id b.party_id parts.1 i) ∷ []

pub operator_same : (a b : Option Party) → option_eq same_party a b ≡ true → operator_input a ≡ operator_input b
operator_same None None h = refl
operator_same None (Some b) h = absurd (true≢false (sym h))
operator_same (Some a) None h = absurd (true≢false (sym h))
operator_same (Some a) (Some b) h = party_same a b h
