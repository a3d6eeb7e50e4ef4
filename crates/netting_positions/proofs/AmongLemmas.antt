-- The parties of a configuration are its operators and its providers.
use Rattle.std.proofs.Common.{◌≡◌, true, false, cond, not, ◌||◌, List, [], ◌∷◌, map, filter, find, Some, refl, sym, ap, ◌∙◌}
use Rattle.std.specs.Prelude.{is_some}
use Rattle.std.specs.List.{list_any}
use Rattle.std.proofs.lemmas.List.Folds.{list_any-append}
use Rattle.ocpi_types.specs.declared.config.Config.{Config}
use Rattle.ocpi_types.specs.declared.config.Operator.{Operator}
use Rattle.ocpi_types.specs.declared.config.Provider.{Provider}
use Rattle.ocpi_types.specs.declared.party.Party.{Party}
use Rattle.ocpi_types.specs.Config.{is_operator, is_provider}
use Rattle.ocpi_types.specs.Party.{same_party}
use Rattle.netting_positions.specs.Laws.{PartiesAreConfigured}
use Rattle.netting_positions.specs.Netting.{is_among}
use Rattle.netting_positions.proofs.DifferentLemmas.{found_any}
use Rattle.netting_positions.proofs.SameParties.{same_as}

among_operators : (party : Party) (ops : List Operator) → is_among (map (λ operator. operator.party) ops) party ≡ list_any (λ operator. same_party operator.party party) ops
among_operators party [] = refl
among_operators party (x ∷ xs) = ap (λ b. same_party x.party party || b) (among_operators party xs)

found_provider : (party : Party) (xs : List Provider)
    → is_some (find (λ provider. same_party provider.party party) xs) ≡ is_among (map (λ provider. provider.party) xs) party
found_provider party [] = refl
found_provider party (x ∷ xs) =
    elim (same_party x.party party) as (λ b. is_some (cond b (Some x) (find (λ provider. same_party provider.party party) xs)) ≡ (b || is_among (map (λ provider. provider.party) xs) party)) [
      | true ↦ refl
      | false ↦ found_provider party xs
    ]

same_operators : (a b : Party) (ops : List Operator) → same_party a b ≡ true → list_any (λ operator. same_party operator.party a) ops ≡ list_any (λ operator. same_party operator.party b) ops
same_operators a b [] h = refl
same_operators a b (x ∷ xs) h =
    ap (λ t. t || list_any (λ operator. same_party operator.party a) xs) (same_as x.party a b h)
    ∙ ap (λ t. same_party x.party b || t) (same_operators a b xs h)

-- what is no operator is still among the providers that are none
still_among : (config : Config) (party : Party) (ps : List Party) → is_operator config party ≡ false
    → is_among (filter (λ other. not (is_operator config other)) ps) party ≡ is_among ps party
still_among config party [] none = refl
still_among config party (y ∷ ys) none =
    let rest = still_among config party ys none in
    elim (same_party y party) as (λ b. same_party y party ≡ b
    → is_among (cond (not (is_operator config y)) (y ∷ filter (λ other. not (is_operator config other)) ys) (filter (λ other. not (is_operator config other)) ys)) party
    ≡ (b || is_among ys party)) [
      | true ↦ λ e.
          ap (λ t. is_among (cond (not t) (y ∷ filter (λ other. not (is_operator config other)) ys) (filter (λ other. not (is_operator config other)) ys)) party)
          (found_any y config.operators ∙ same_operators y party config.operators e ∙ sym (found_any party config.operators) ∙ none)
          ∙ ap (λ t. t || is_among (filter (λ other. not (is_operator config other)) ys) party) e
      | false ↦ λ e.
          elim (is_operator config y) as (λ t.
          is_among (cond (not t) (y ∷ filter (λ other. not (is_operator config other)) ys) (filter (λ other. not (is_operator config other)) ys)) party ≡ is_among ys party) [
            | true ↦ rest
            | false ↦ ap (λ t. t || is_among (filter (λ other. not (is_operator config other)) ys) party) e ∙ rest
          ]
    ] refl

pub are_configured : PartiesAreConfigured
are_configured config party =
    let others = map (λ provider. provider.party) config.providers in
    let kept = filter (λ other. not (is_operator config other)) others in
    let own : is_among (map (λ operator. operator.party) config.operators) party ≡ is_operator config party =
    among_operators party config.operators ∙ sym (found_any party config.operators) in
    list_any-append (λ other. same_party other party) (map (λ operator. operator.party) config.operators) kept
    ∙ ap (λ t. t || is_among kept party) own
    ∙ elim (is_operator config party) as (λ b. is_operator config party ≡ b → (b || is_among kept party) ≡ (b || is_provider config party)) [
      | true ↦ λ e. refl
      | false ↦ λ e. still_among config party others e ∙ sym (found_provider party config.providers)
    ] refl
