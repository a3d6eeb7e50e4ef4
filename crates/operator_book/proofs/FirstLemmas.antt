-- Counts whose first operator is the one asked for.
use Rattle.std.proofs.Common.{◌≡◌, ℕ, ◌+◌, Bool, true, false, cond, List, [], ◌∷◌, slice_get, Option, Some, None, is_some, unwrap_or, true≢false, refl, sym, ap, ap₂, ◌∙◌, arith}
use Rattle.std.specs.Cmp.{IsEquivalence}
use Rattle.std.specs.Map.{lookup, values_of}
use Rattle.indexmap.specs.Layout.{set_value_at}
use Rattle.operator_book.specs.Inner.Counts.{first_if}

-- the number of the first key
pub first_value : {K : Type 0} (test : K → Bool) (entries : List (K × ℕ)) (n : ℕ) → is_some (first_if test entries) ≡ true → Some n ≡ slice_get (values_of entries) 0
    → lookup test entries ≡ Some n
first_value test [] n h g = absurd (true≢false (sym h))
first_value test (entry ∷ entries) n h g = by (test entry.0) h
  where
    by : (b : Bool) → is_some (cond b (Some entry.1) None) ≡ true → cond b (Some entry.1) (lookup test entries) ≡ Some n
    by true k = sym g
    by false k = absurd (true≢false (sym k))

-- one more there
pub first_more : {K : Type 0} {eq : K → K → Bool} → IsEquivalence eq → (key : K) (entries : List (K × ℕ)) (n : ℕ) → is_some (first_if (eq key) entries) ≡ true
    → Some n ≡ slice_get (values_of entries) 0 → (asked : K)
    → unwrap_or (lookup (eq asked) (set_value_at entries 0 (n + 1))) 0 ≡ unwrap_or (lookup (eq asked) entries) 0 + cond (eq key asked) 1 0
first_more laws key [] n h g asked = absurd (true≢false (sym h))
first_more {eq = eq} laws key (entry ∷ entries) n h g asked = by (eq key entry.0) refl (eq asked entry.0) refl
  where
    by : (a : Bool) → eq key entry.0 ≡ a → (b : Bool) → eq asked entry.0 ≡ b
        → unwrap_or (cond (eq asked entry.0) (Some (n + 1)) (lookup (eq asked) entries)) 0
        ≡ unwrap_or (cond (eq asked entry.0) (Some entry.1) (lookup (eq asked) entries)) 0 + cond (eq key asked) 1 0
    by false e b d = absurd (true≢false (sym h ∙ ap (λ a. is_some (cond a (Some entry.1) None)) e))
    by true e true d =
        let same : eq key asked ≡ true = laws.congr key entry.0 asked e ∙ laws.symm entry.0 asked ∙ d in
        ap (λ b. unwrap_or (cond b (Some (n + 1)) (lookup (eq asked) entries)) 0) d
        ∙ ap (λ o. unwrap_or o 0 + 1) g
        ∙ sym (ap₂ (λ a b. unwrap_or (cond b (Some entry.1) (lookup (eq asked) entries)) 0 + cond a 1 0) same d)
    by true e false d =
        let apart : eq key asked ≡ false = laws.congr key entry.0 asked e ∙ laws.symm entry.0 asked ∙ d in
        let none : unwrap_or (cond (eq asked entry.0) (Some (n + 1)) (lookup (eq asked) entries)) 0 ≡ unwrap_or (lookup (eq asked) entries) 0 =
        ap (λ b. unwrap_or (cond b (Some (n + 1)) (lookup (eq asked) entries)) 0) d in
        let old : unwrap_or (cond (eq asked entry.0) (Some entry.1) (lookup (eq asked) entries)) 0 ≡ unwrap_or (lookup (eq asked) entries) 0 =
        ap (λ b. unwrap_or (cond b (Some entry.1) (lookup (eq asked) entries)) 0) d in
        let nothing : cond {A = ℕ} (eq key asked) 1 0 ≡ 0 = ap (λ a. cond {A = ℕ} a 1 0) apart in
        omega (arith, none, old, nothing)
