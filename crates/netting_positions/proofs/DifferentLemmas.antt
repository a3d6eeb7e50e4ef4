-- No two parties of a configuration are the same.
use Rattle.std.proofs.Common.{◌≡◌, Bool, true, false, cond, not, ◌&&◌, ◌||◌, List, [], ◌∷◌, ◌++◌, map, filter, find, Some, refl, sym, ap, ◌∙◌}
use Rattle.std.specs.Prelude.{is_some}
use Rattle.std.specs.List.{list_all, list_any}
use Rattle.std.proofs.lemmas.List.Folds.{list_any-append}
use Rattle.ocpi_types.specs.declared.config.Config.{Config}
use Rattle.ocpi_types.specs.declared.config.Operator.{Operator}
use Rattle.ocpi_types.specs.declared.config.Provider.{Provider}
use Rattle.ocpi_types.specs.declared.party.Party.{Party}
use Rattle.ocpi_types.specs.Config.{alike_operators, alike_providers, is_operator}
use Rattle.ocpi_types.specs.Different.{all_different}
use Rattle.ocpi_types.specs.Party.{same_party}
use Rattle.netting_positions.specs.Laws.{PartiesAreDifferent}
use Rattle.netting_positions.proofs.SameParties.{both_are}
use Rattle.netting_positions.proofs.BalanceLemmas.{either_false, not_is}

pub both_hold : (a b : Bool) → a ≡ true → b ≡ true → (a && b) ≡ true
both_hold true b e h = h
both_hold false b e h = e

no_others : (x : Operator) (xs : List Operator) → list_any (alike_operators x) xs ≡ list_any (same_party x.party) (map (λ operator. operator.party) xs)
no_others x [] = refl
no_others x (y ∷ ys) = ap (λ b. same_party x.party y.party || b) (no_others x ys)

operators_differ : (xs : List Operator) → all_different alike_operators xs ≡ all_different same_party (map (λ operator. operator.party) xs)
operators_differ [] = refl
operators_differ (x ∷ xs) =
    ap (λ b. not b && all_different alike_operators xs) (no_others x xs)
    ∙ ap (λ b. not (list_any (same_party x.party) (map (λ operator. operator.party) xs)) && b) (operators_differ xs)

no_other_provider : (x : Provider) (xs : List Provider) → list_any (alike_providers x) xs ≡ list_any (same_party x.party) (map (λ provider. provider.party) xs)
no_other_provider x [] = refl
no_other_provider x (y ∷ ys) = ap (λ b. same_party x.party y.party || b) (no_other_provider x ys)

providers_differ : (xs : List Provider) → all_different alike_providers xs ≡ all_different same_party (map (λ provider. provider.party) xs)
providers_differ [] = refl
providers_differ (x ∷ xs) =
    ap (λ b. not b && all_different alike_providers xs) (no_other_provider x xs)
    ∙ ap (λ b. not (list_any (same_party x.party) (map (λ provider. provider.party) xs)) && b) (providers_differ xs)

-- ---- a part of the list

either_none : (a b : Bool) → a ≡ false → b ≡ false → (a || b) ≡ false
either_none true b e h = e
either_none false b e h = h

none_kept : (t p : Party → Bool) (xs : List Party) → list_any t xs ≡ false → list_any t (filter p xs) ≡ false
none_kept t p [] h = refl
none_kept t p (x ∷ xs) h =
    let parts = either_false (t x) (list_any t xs) h in
    elim (p x) as (λ b. list_any t (cond b (x ∷ filter p xs) (filter p xs)) ≡ false) [
      | true ↦ either_none (t x) (list_any t (filter p xs)) parts.0 (none_kept t p xs parts.1)
      | false ↦ none_kept t p xs parts.1
    ]

kept_differ : (p : Party → Bool) (xs : List Party) → all_different same_party xs ≡ true → all_different same_party (filter p xs) ≡ true
kept_differ p [] h = refl
kept_differ p (x ∷ xs) h =
    let parts = both_are (not (list_any (same_party x) xs)) (all_different same_party xs) h in
    elim (p x) as (λ b. all_different same_party (cond b (x ∷ filter p xs) (filter p xs)) ≡ true) [
      | true ↦ both_hold (not (list_any (same_party x) (filter p xs))) (all_different same_party (filter p xs))
          (ap not (none_kept (same_party x) p xs (not_is (list_any (same_party x) xs) parts.0))) (kept_differ p xs parts.1)
      | false ↦ kept_differ p xs parts.1
    ]

-- ---- operators, and then what is no operator

-- none of these parties is one of these operators
abbrev AreNone : List Operator → List Party → Type 0
AreNone ops ys = list_all (λ y. not (list_any (λ operator. same_party operator.party y) ops)) ys ≡ true

pub found_any : (y : Party) (ops : List Operator) → is_some (find (λ operator. same_party operator.party y) ops) ≡ list_any (λ operator. same_party operator.party y) ops
found_any y [] = refl
found_any y (x ∷ xs) =
    elim (same_party x.party y) as (λ b. is_some (cond b (Some x) (find (λ operator. same_party operator.party y) xs)) ≡ (b || list_any (λ operator. same_party operator.party y) xs)) [
      | true ↦ refl
      | false ↦ found_any y xs
    ]

are_none : (config : Config) (ps : List Party) → AreNone config.operators (filter (λ party. not (is_operator config party)) ps)
are_none config [] = refl
are_none config (y ∷ ys) =
    elim (is_operator config y) as (λ b. is_operator config y ≡ b
    → AreNone config.operators (cond (not b) (y ∷ filter (λ party. not (is_operator config party)) ys) (filter (λ party. not (is_operator config party)) ys))) [
      | true ↦ λ is. are_none config ys
      | false ↦ λ is.
          both_hold (not (list_any (λ operator. same_party operator.party y) config.operators)) _
          (ap not (sym (found_any y config.operators) ∙ is)) (are_none config ys)
    ] refl

first_apart : (x : Operator) (ops : List Operator) (ys : List Party) → AreNone (x ∷ ops) ys → (list_any (same_party x.party) ys ≡ false) × AreNone ops ys
first_apart x ops [] h = (refl, refl)
first_apart x ops (y ∷ ys) h =
    let parts = both_are (not (same_party x.party y || list_any (λ operator. same_party operator.party y) ops)) _ h in
    let apart = either_false (same_party x.party y) (list_any (λ operator. same_party operator.party y) ops) (not_is _ parts.0) in
    let later = first_apart x ops ys parts.1 in (
      either_none (same_party x.party y) (list_any (same_party x.party) ys) apart.0 later.0,
      both_hold (not (list_any (λ operator. same_party operator.party y) ops)) _ (ap not apart.1) later.1,
    )

joined_differ : (ops : List Operator) (ys : List Party) → all_different same_party (map (λ operator. operator.party) ops) ≡ true
    → all_different same_party ys ≡ true → AreNone ops ys → all_different same_party (map (λ operator. operator.party) ops ++ ys) ≡ true
joined_differ [] ys h k none = k
joined_differ (x ∷ xs) ys h k none =
    let parts = both_are (not (list_any (same_party x.party) (map (λ operator. operator.party) xs))) _ h in
    let apart = first_apart x xs ys none in
    both_hold (not (list_any (same_party x.party) (map (λ operator. operator.party) xs ++ ys))) _
    (ap not (list_any-append (same_party x.party) (map (λ operator. operator.party) xs) ys
    ∙ either_none _ _ (not_is _ parts.0) apart.0))
    (joined_differ xs ys parts.1 k apart.1)

pub parties_differ : PartiesAreDifferent
parties_differ config operators providers =
    let others = map (λ provider. provider.party) config.providers in
    joined_differ config.operators (filter (λ party. not (is_operator config party)) others)
    (sym (operators_differ config.operators) ∙ operators)
    (kept_differ (λ party. not (is_operator config party)) others (sym (providers_differ config.providers) ∙ providers))
    (are_none config others)
