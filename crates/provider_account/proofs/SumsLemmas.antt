-- Sums whose first key is the one asked for.
use Rattle.std.proofs.Common.{◌≡◌, ℕ, Bool, true, false, cond, List, [], ◌∷◌, slice_get, Option, Some, None, is_some, unwrap_or, true≢false, refl, sym, ap, ap₂, ◌∙◌}
use Rattle.std.specs.Cmp.{IsEquivalence}
use Rattle.std.specs.Map.{lookup, values_of}
use Rattle.indexmap.specs.Layout.{set_value_at}
use Rattle.provider_account.specs.Inner.Sums.{first_if}

-- the sum of the first key
pub first_value : {K : Type 0} (test : K → Bool) (entries : List (K × ℕ)) (sum : ℕ) → is_some (first_if test entries) ≡ true → Some sum ≡ slice_get (values_of entries) 0
    → lookup test entries ≡ Some sum
first_value test [] sum h g = absurd (true≢false (sym h))
first_value test (entry ∷ entries) sum h g = by (test entry.0) h
  where
    by : (b : Bool) → is_some (cond b (Some entry.1) None) ≡ true → cond b (Some entry.1) (lookup test entries) ≡ Some sum
    by true k = sym g
    by false k = absurd (true≢false (sym k))

-- another sum there
pub first_set : {K : Type 0} {eq : K → K → Bool} → IsEquivalence eq → (key : K) (entries : List (K × ℕ)) (sum : ℕ) → is_some (first_if (eq key) entries) ≡ true
    → (other : K) → unwrap_or (lookup (eq other) (set_value_at entries 0 sum)) 0 ≡ cond (eq key other) sum (unwrap_or (lookup (eq other) entries) 0)
first_set laws key [] sum h other = absurd (true≢false (sym h))
first_set {eq = eq} laws key (entry ∷ entries) sum h other = by (eq key entry.0) refl (eq other entry.0) refl
  where
    by : (a : Bool) → eq key entry.0 ≡ a → (b : Bool) → eq other entry.0 ≡ b
        → unwrap_or (cond (eq other entry.0) (Some sum) (lookup (eq other) entries)) 0
        ≡ cond (eq key other) sum (unwrap_or (cond (eq other entry.0) (Some entry.1) (lookup (eq other) entries)) 0)
    by false e b d = absurd (true≢false (sym h ∙ ap (λ a. is_some (cond a (Some entry.1) None)) e))
    by true e true d =
        let same : eq key other ≡ true = laws.congr key entry.0 other e ∙ laws.symm entry.0 other ∙ d in
        ap (λ b. unwrap_or (cond b (Some sum) (lookup (eq other) entries)) 0) d
        ∙ sym (ap (λ b. cond b sum (unwrap_or (cond (eq other entry.0) (Some entry.1) (lookup (eq other) entries)) 0)) same)
    by true e false d =
        let apart : eq key other ≡ false = laws.congr key entry.0 other e ∙ laws.symm entry.0 other ∙ d in
        ap (λ b. unwrap_or (cond b (Some sum) (lookup (eq other) entries)) 0) d
        ∙ sym (ap₂ (λ a b. cond a sum (unwrap_or (cond b (Some entry.1) (lookup (eq other) entries)) 0)) apart d)
