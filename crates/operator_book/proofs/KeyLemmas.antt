-- Tests of the same key.
use Rattle.std.proofs.Common.{◌≡◌, ◌∙◌, ◌&&◌, ◌||◌, ◌==◌, ℕ, ◌+◌, refl, ap₂, ap, rules, Bool, true, false, cond, List, [], ◌∷◌, Option, Some, unwrap_or, arith}
use Rattle.std.specs.Cmp.{IsEquivalence}
use Rattle.std.specs.Cmp.Lexicographic.{bytes_decides, pointwise}
use Rattle.std.specs.Cmp.Rules.{comparing}
use Rattle.std.specs.Map.{lookup}
use Rattle.ocpi_json.specs.Folded.{folded, same_folded}
use Rattle.ocpi_types.specs.Party.{same_party}
use Rattle.ocpi_types.specs.SameTariff.{folded_party}
use Rattle.ocpi_types.specs.declared.party.Party.{Party}

pub both_are : (a b : Bool) → (a && b) ≡ true → (a ≡ true) × (b ≡ true)
both_are true true h = (refl, refl)
both_are true false h = absurd (cc)
both_are false b h = absurd (cc)

pub or_false : (b : Bool) → (b || false) ≡ b
or_false true = refl
or_false false = refl

-- a map has the same for two keys that are the same
pub lookup_same : {K X : Type 0} {eq : K → K → Bool} (laws : IsEquivalence eq) (a b : K) (es : List (K × X)) → eq a b ≡ true
    → lookup (eq a) es ≡ lookup (eq b) es
lookup_same laws a b [] h = refl
lookup_same {eq = eq} laws a b (e ∷ es) h =
    ap₂ (λ (c : Bool) rest. cond c (Some e.1) rest) (laws.congr a b e.0 h) (lookup_same laws a b es h)

pub party_laws : IsEquivalence same_party
party_laws = search (comparing, rules)

pub folded_alike : (a b : Party) → same_party a b ≡ true → folded_party a ≡ folded_party b
folded_alike a b h =
    let parts = both_are (same_folded a.country_code b.country_code) (same_folded a.party_id b.party_id) h in
    let country_code = (bytes_decides (folded a.country_code) (folded b.country_code)).0 parts.0 in
    let party_id = (bytes_decides (folded a.party_id) (folded b.party_id)).0 parts.1 in
    λ i. record { country_code = country_code i; party_id = party_id i }

-- a test against a party is one against its folded texts
abbrev pub is_folded : Party → Party → Bool
is_folded party text = pointwise ◌==◌ (folded party.country_code) text.country_code && pointwise ◌==◌ (folded party.party_id) text.party_id

-- one more is counted
pub one_more : (same : Bool) (old kept : Option ℕ) (n : ℕ) → (same ≡ true → kept ≡ old) → n ≡ unwrap_or kept 0
    → unwrap_or (cond same (Some (n + 1)) old) 0 ≡ unwrap_or old 0 + cond same 1 0
one_more true old kept n is e = ap (λ m. m + 1) (e ∙ ap (λ o. unwrap_or o 0) (is refl))
one_more false old kept n is e = omega arith
