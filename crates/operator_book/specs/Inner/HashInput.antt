-- What the keys of sums write to a hasher. A book has one operator as a rule, so it is left out.
use Rattle.std.specs.Prelude.{◌≡◌, ℕ, Bool, true, false, ◌&&◌, ◌==◌, List, [], ◌∷◌}
use Rattle.std.proofs.Common.{refl, sym, true≢false}
use Rattle.std.proofs.lemmas.Bool.{eqb-true}
use Rattle.std.specs.Cmp.Lexicographic.{same_text}
use Rattle.std.specs.Hash as fed
use Rattle.ocpi_json.specs.Folded.{folded, same_folded}
use Rattle.ocpi_json.specs.Inner.Cells.{padded}
use Rattle.ocpi_types.specs.Currency.{same_currency}
use Rattle.ocpi_types.specs.Party.{same_party}
use Rattle.operator_book.specs.declared.keys.SumKey.{SumKey}

abbrev pub sum_input : SumKey → List (List ℕ)
sum_input key = padded 2 (folded key.provider.country_code) ∷ padded 3 (folded key.provider.party_id) ∷ key.currency ∷ fed.le_bytes 8 key.period ∷ []

-- ---- the same keys write the same

both_same : (a b : Bool) → (a && b) ≡ true → (a ≡ true) × (b ≡ true)
both_same true b h = (refl, h)
both_same false b h = absurd (true≢false (sym h))

folded_same : (a b : List ℕ) → same_folded a b ≡ true → folded a ≡ folded b
folded_same a b h = same_text (folded a) (folded b) (sym h)

pub hashed_alike : (a b : SumKey)
    → (same_party a.operator b.operator && (same_party a.provider b.provider && (same_currency a.currency b.currency && (a.period == b.period)))) ≡ true
    → sum_input a ≡ sum_input b
hashed_alike a b h =
    let operator = both_same (same_party a.operator b.operator) (same_party a.provider b.provider && (same_currency a.currency b.currency && (a.period == b.period))) h in
    let provider = both_same (same_party a.provider b.provider) (same_currency a.currency b.currency && (a.period == b.period)) operator.1 in
    let rest = both_same (same_currency a.currency b.currency) (a.period == b.period) provider.1 in
    let letters = both_same (same_folded a.provider.country_code b.provider.country_code) (same_folded a.provider.party_id b.provider.party_id) provider.0 in
    let country_code = folded_same a.provider.country_code b.provider.country_code letters.0 in
    let party_id = folded_same a.provider.party_id b.provider.party_id letters.1 in
    λ i. padded 2 (country_code i) ∷ padded 3 (party_id i) ∷ same_text a.currency b.currency (sym rest.0) i ∷ fed.le_bytes 8 (eqb-true a.period b.period rest.1 i) ∷ []
