-- The obligations of sound entries can be netted.
use Rattle.std.proofs.Common.{◌≡◌, ◌≤◌, ◌^◌, ◌+◌, ◌*◌, ℕ, List, [], ◌∷◌, Bool, true, false, not, ◌&&◌, ◌||◌, cond, refl, sym, ap, ap₂, ◌∙◌, arith, Some, is_some, find, filter, map, length, count_by}
use Rattle.std.specs.List.{AllByRecursion, list_all, list_any}
use Rattle.std.specs.Prelude.{sum_by}
use Rattle.std.proofs.Math.Nat.{mul-le-mul_left, mul-le-mul_right}
use Rattle.std.proofs.lemmas.List.Folds.{list_any-append}
use Rattle.std.proofs.lemmas.List.Sums.{sum_by-cons}
use Rattle.std.proofs.lemmas.Map.Views.{any-filter_same}
use Rattle.ocpi_types.specs.declared.config.Config.{Config}
use Rattle.ocpi_types.specs.declared.config.Operator.{Operator}
use Rattle.ocpi_types.specs.declared.config.Provider.{Provider}
use Rattle.ocpi_types.specs.declared.party.Party.{Party}
use Rattle.ocpi_types.specs.Config.{has_currency, has_currency_among, is_operator, is_provider, operator_among}
use Rattle.ocpi_types.specs.Party.{same_party}
use Rattle.netting_positions.specs.Netting.{is_among, is_configured, parties, size, total_size}
use Rattle.netting_positions.specs.declared.obligation.Obligation.{Obligation}
use Rattle.plain_house.specs.declared.entry.BookEntry.{BookEntry}
use Rattle.plain_house.specs.declared.entry.BookEntry.TheVariants as book
use Rattle.plain_house.specs.Booked.{Booked, booked}
use Rattle.plain_house.specs.LegalLists.{CanBeNetted}
use Rattle.plain_house.specs.Obligations.{is_of_period, obligation_of}
use Rattle.plain_house.specs.Full.{is_cdr_of}
use Rattle.plain_house.proofs.SameScope.{FoldedParty, is_party_of, same_folded_party}
use Rattle.plain_house.proofs.SettlementLemmas.{party_symm}
use Rattle.plain_house.proofs.SoundLemmas.{AreSound, IsSound}

-- ---- configured parties

found_any : {X : Type 0} (p : X → Bool) (xs : List X) → is_some (find p xs) ≡ list_any p xs
found_any p [] = refl
found_any p (x ∷ xs) = by (p x) (found_any p xs)
  where
    by : (b : Bool) → is_some (find p xs) ≡ list_any p xs → is_some (cond b (Some x) (find p xs)) ≡ (b || list_any p xs)
    by true rest = refl
    by false rest = rest

any-map : {X Y : Type 0} (p : Y → Bool) (f : X → Y) (xs : List X) → list_any p (map f xs) ≡ list_any (λ x. p (f x)) xs
any-map p f [] = refl
any-map p f (x ∷ xs) = ap (λ b. p (f x) || b) (any-map p f xs)

operator_along : (config : Config) (a b : Party) → same_party a b ≡ true → is_operator config a ≡ is_operator config b
operator_along config a b h = ap (λ (f : FoldedParty). is_some (find (λ operator. is_party_of f operator.party) config.operators)) (same_folded_party a b h)

module _ (config : Config) (party : Party) where
  operators_any : list_any (λ other. same_party other party) (map (λ operator. operator.party) config.operators) ≡ is_operator config party
  operators_any =
      any-map (λ other. same_party other party) (λ (operator : Operator). operator.party) config.operators
      ∙ sym (found_any (λ operator. same_party operator.party party) config.operators)

  providers_any : list_any (λ other. same_party other party) (map (λ provider. provider.party) config.providers) ≡ is_provider config party
  providers_any =
      any-map (λ other. same_party other party) (λ (provider : Provider). provider.party) config.providers
      ∙ sym (found_any (λ provider. same_party provider.party party) config.providers)

  others_any : is_operator config party ≡ false
      → list_any (λ other. same_party other party) (filter (λ other. not (is_operator config other)) (map (λ provider. provider.party) config.providers))
      ≡ list_any (λ other. same_party other party) (map (λ provider. provider.party) config.providers)
  others_any none =
      any-filter_same (λ other. same_party other party) (λ other. not (is_operator config other)) true
      (λ other h. ap not (operator_along config other party h ∙ none)) (map (λ provider. provider.party) config.providers)

  split : is_among (parties config) party
      ≡ (is_operator config party || list_any (λ other. same_party other party) (filter (λ other. not (is_operator config other)) (map (λ provider. provider.party) config.providers)))
  split =
      list_any-append (λ other. same_party other party) (map (λ operator. operator.party) config.operators) (filter (λ other. not (is_operator config other)) (map (λ provider. provider.party) config.providers))
      ∙ ap (λ b. b || list_any (λ other. same_party other party) (filter (λ other. not (is_operator config other)) (map (λ provider. provider.party) config.providers))) operators_any

  operator_among_parties : is_operator config party ≡ true → is_among (parties config) party ≡ true
  operator_among_parties h =
      split ∙ ap (λ b. b || list_any (λ other. same_party other party) (filter (λ other. not (is_operator config other)) (map (λ provider. provider.party) config.providers))) h

  provider_among_parties : is_provider config party ≡ true → is_among (parties config) party ≡ true
  provider_among_parties h = by (is_operator config party) refl
    where
      by : (b : Bool) → is_operator config party ≡ b → is_among (parties config) party ≡ true
      by true e = operator_among_parties e
      by false e = split ∙ ap₂ (λ (a b : Bool). a || b) e (others_any e ∙ providers_any ∙ h)

-- ---- the obligations of one period

sound_configured : (config : Config) (found : Booked) → IsSound config found → is_configured (parties config) config.currencies (obligation_of found) ≡ true
sound_configured config found sound =
    by (is_among (parties config) found.cdr.operator) (is_among (parties config) found.cdr.cdr_token.provider) (has_currency_among config.currencies found.cdr.currency)
    (operator_among_parties config found.cdr.operator sound.0) (provider_among_parties config found.cdr.cdr_token.provider sound.1) sound.2
  where
    by : (a b c : Bool) → a ≡ true → b ≡ true → c ≡ true → (a && b && c) ≡ true
    by true true true e f g = refl
    by true true false e f g = absurd (cc)
    by true false c e f g = absurd (cc)
    by false b c e f g = absurd (cc)

abbrev picked : Bool → Booked → List Booked → List Obligation
picked b x xs = map obligation_of (cond b (x ∷ xs) xs)

-- what is so of the obligation of each sound CDR is so of those of the period
all_pass : (config : Config) (test : Obligation → Bool) → ((found : Booked) → IsSound config found → test (obligation_of found) ≡ true) → (period : ℕ) (found : List Booked)
    → AllByRecursion (IsSound config) found → list_all test (map obligation_of (filter (is_of_period period) found)) ≡ true
all_pass config test passes period [] all = refl
all_pass config test passes period (x ∷ found) all = by (is_of_period period x) (all_pass config test passes period found all.1)
  where
    by : (b : Bool) → list_all test (map obligation_of (filter (is_of_period period) found)) ≡ true → list_all test (picked b x (filter (is_of_period period) found)) ≡ true
    by true rest = ap (λ b. b && list_all test (map obligation_of (filter (is_of_period period) found))) (passes x all.0) ∙ rest
    by false rest = rest

pub all_configured : (config : Config) (period : ℕ) (found : List Booked) → AllByRecursion (IsSound config) found
    → list_all (is_configured (parties config) config.currencies) (map obligation_of (filter (is_of_period period) found)) ≡ true
all_configured config = all_pass config (is_configured (parties config) config.currencies) (sound_configured config)

sizes : (config : Config) (period : ℕ) (found : List Booked) → AllByRecursion (IsSound config) found
    → total_size (map obligation_of (filter (is_of_period period) found)) ≤ length found * 10 ^ 12
sizes config period [] all = omega arith
sizes config period (x ∷ found) all = by (is_of_period period x) (sizes config period found all.1)
  where
    by : (b : Bool) → total_size (map obligation_of (filter (is_of_period period) found)) ≤ length found * 10 ^ 12
        → total_size (picked b x (filter (is_of_period period) found)) ≤ length (x ∷ found) * 10 ^ 12
    by true rest =
        let first : total_size (picked true x (filter (is_of_period period) found)) ≡ size (obligation_of x) + total_size (map obligation_of (filter (is_of_period period) found)) =
        sum_by-cons size (obligation_of x) (map obligation_of (filter (is_of_period period) found)) in
        omega (arith, first, rest, all.0.3)
    by false rest = omega (arith, rest)

-- ---- how many there are

sum-plus : {X : Type 0} (f g h : X → ℕ) → ((x : X) → h x ≡ f x + g x) → (xs : List X) → sum_by h xs ≡ sum_by f xs + sum_by g xs
sum-plus f g h same [] = refl
sum-plus f g h same (x ∷ xs) = omega (arith, sum_by-cons h x xs, sum_by-cons f x xs, sum_by-cons g x xs, same x, sum-plus f g h same xs)

sum-same : {X : Type 0} (f g : X → ℕ) → ((x : X) → f x ≡ g x) → (xs : List X) → sum_by f xs ≡ sum_by g xs
sum-same f g same [] = refl
sum-same f g same (x ∷ xs) = omega (arith, sum_by-cons f x xs, sum_by-cons g x xs, same x, sum-same f g same xs)

one_at_least : (p : Operator → Bool) (operators : List Operator) → is_some (find p operators) ≡ true → 1 ≤ sum_by (λ operator. cond (p operator) 1 0) operators
one_at_least p [] h = absurd (cc)
one_at_least p (x ∷ operators) h = by (p x) refl (one_at_least p operators) h
  where
    by : (b : Bool) → p x ≡ b → (is_some (find p operators) ≡ true → 1 ≤ sum_by (λ operator. cond (p operator) 1 0) operators)
        → is_some (cond b (Some x) (find p operators)) ≡ true → 1 ≤ sum_by (λ operator. cond (p operator) 1 0) (x ∷ operators)
    by true e rest g =
        let one : cond (p x) 1 0 ≡ 1 = ap (λ (b : Bool). cond {A = ℕ} b 1 0) e in
        omega (arith, sum_by-cons (λ operator. cond (p operator) 1 0) x operators, one)
    by false e rest g = omega (arith, sum_by-cons (λ operator. cond (p operator) 1 0) x operators, rest g)

counted : (operators : List Operator) (entries : List BookEntry) → AllByRecursion (λ found. is_some (operator_among operators found.cdr.operator) ≡ true) (booked entries)
    → length (booked entries) ≤ sum_by (λ operator. count_by (is_cdr_of operator.party) entries) operators
counted operators [] all = omega arith
counted operators (book.Tariff tariff ∷ entries) all =
    omega (
      arith,
      counted operators entries all,
      sum-same (λ operator. count_by (is_cdr_of operator.party) (book.Tariff tariff ∷ entries)) (λ operator. count_by (is_cdr_of operator.party) entries)
          (λ (operator : Operator). omega (arith, sum_by-cons (λ x. cond (is_cdr_of operator.party x) 1 0) (book.Tariff tariff) entries)) operators,
    )
counted operators (book.Cdr cdr cost period ∷ entries) all =
    omega (
      arith,
      counted operators entries all.1,
      one_at_least (λ operator. same_party operator.party cdr.operator) operators all.0,
      sum-plus (λ operator. cond (same_party cdr.operator operator.party) 1 0) (λ operator. count_by (is_cdr_of operator.party) entries)
          (λ operator. count_by (is_cdr_of operator.party) (book.Cdr cdr cost period ∷ entries))
          (λ (operator : Operator). sum_by-cons (λ x. cond (is_cdr_of operator.party x) 1 0) (book.Cdr cdr cost period) entries) operators,
      sum-same (λ operator. cond (same_party operator.party cdr.operator) 1 0) (λ operator. cond (same_party cdr.operator operator.party) 1 0)
          (λ (operator : Operator). ap (λ (b : Bool). cond {A = ℕ} b 1 0) (party_symm operator.party cdr.operator)) operators,
    )
counted operators (book.Credit cdr amount period ∷ entries) all =
    omega (
      arith,
      counted operators entries all.1,
      one_at_least (λ operator. same_party operator.party cdr.operator) operators all.0,
      sum-plus (λ operator. cond (same_party cdr.operator operator.party) 1 0) (λ operator. count_by (is_cdr_of operator.party) entries)
          (λ operator. count_by (is_cdr_of operator.party) (book.Credit cdr amount period ∷ entries))
          (λ (operator : Operator). sum_by-cons (λ x. cond (is_cdr_of operator.party x) 1 0) (book.Credit cdr amount period) entries) operators,
      sum-same (λ operator. cond (same_party operator.party cdr.operator) 1 0) (λ operator. cond (same_party cdr.operator operator.party) 1 0)
          (λ (operator : Operator). ap (λ (b : Bool). cond {A = ℕ} b 1 0) (party_symm operator.party cdr.operator)) operators,
    )

known_operators : (config : Config) (found : List Booked) → AllByRecursion (IsSound config) found
    → AllByRecursion (λ found. is_some (operator_among config.operators found.cdr.operator) ≡ true) found
known_operators config [] all = tt
known_operators config (x ∷ found) all = (all.0.0, known_operators config found all.1)

most_each : (entries : List BookEntry) (most : ℕ) → ((operator : Party) → count_by (is_cdr_of operator) entries ≤ most) → (operators : List Operator)
    → sum_by (λ operator. count_by (is_cdr_of operator.party) entries) operators ≤ length operators * most
most_each entries most room [] = omega arith
most_each entries most room (x ∷ operators) =
    omega (arith, sum_by-cons (λ operator. count_by (is_cdr_of operator.party) entries) x operators, room x.party, most_each entries most room operators)

-- ---- all together

product : (n k a b : ℕ) → n ≤ a → k ≤ b → n * k ≤ a * b
product n k a b h g = omega (arith, mul-le-mul_right k h, mul-le-mul_left a g)

pub can_be_netted : (config : Config) (entries : List BookEntry) → length config.operators ≤ 64 → config.limits.cdrs ≤ 100_000 → AreSound config entries
    → CanBeNetted config entries
can_be_netted config entries operators cdrs sound =
    let count = counted config.operators entries (known_operators config (booked entries) sound.each) in
    let each = most_each entries config.limits.cdrs sound.room config.operators in
    let most : length config.operators * config.limits.cdrs ≤ 64 * 100_000 = product (length config.operators) config.limits.cdrs 64 100_000 operators cdrs in
    record {
      configured = λ period. all_configured config period (booked entries) sound.each;
      fits = λ period. omega (arith, sizes config period (booked entries) sound.each, count, each, most);
      providers = λ period.
          all_pass config (λ obligation. is_provider config obligation.provider && has_currency config obligation.currency)
          (λ found sound. ap₂ ◌&&◌ sound.1 sound.2) period (booked entries) sound.each;
      operators = λ period. all_pass config (λ obligation. is_operator config obligation.operator) (λ found sound. sound.0) period (booked entries) sound.each;
    }
