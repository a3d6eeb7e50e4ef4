-- What the loosest configuration says of parties, limits and platforms.
use Rattle.std.proofs.Common.{◌≡◌, ◌≤◌, ℕ, List, [], ◌∷◌, ◌++◌, Bool, true, false, not, ◌&&◌, ◌||◌, cond, arith, refl, sym, ap, ap₂, subst, ◌∙◌, Option, None, Some, is_some, option_and_then, option_map, unwrap_or, find, map, codes, ◌^◌}
use Rattle.std.specs.Cmp.Lexicographic.{same_text}
use Rattle.std.specs.List.{list_any}
use Rattle.std.specs.Option.{option_or}
use Rattle.std.proofs.lemmas.List.Folds.{find-append, list_any-append}
use Rattle.std.proofs.Math.Nat.{le-max_left, le-max_right}
use Rattle.ocpi_types.specs.declared.config.Config.{Config}
use Rattle.ocpi_types.specs.declared.config.Provider.{Provider}
use Rattle.ocpi_types.specs.declared.config.ProviderLimit.{ProviderLimit}
use Rattle.ocpi_types.specs.declared.party.Party.{Party}
use Rattle.ocpi_types.specs.Config.{alike_providers, has_currency, has_currency_among, hold_of, is_operator, is_provider, limit_of, may_act_for, provider_of, row_in, row_of}
use Rattle.ocpi_types.specs.Currency.{same_currency}
use Rattle.ocpi_types.specs.Different.{all_different}
use Rattle.ocpi_types.specs.Party.{same_party}
use Rattle.plain_house.specs.House.{provider_as_configured}
use Rattle.new_configuration.specs.Loosened.{LoosenedLimitsAreHighest, loosened, missing_rows, row_if_none, with_highest_limit, with_highest_limits}

-- ---- lists

find_through : {X : Type 0} (f : X → X) (test : X → Bool) → ((x : X) → test (f x) ≡ test x) → (xs : List X) → find test (map f xs) ≡ option_map f (find test xs)
find_through f test same [] = refl
find_through {X} f test same (x ∷ xs) =
    ap (λ (b : Bool). cond b (Some (f x)) (find test (map f xs))) (same x) ∙ by (test x) (find_through f test same xs)
  where
    by : (b : Bool) → find test (map f xs) ≡ option_map f (find test xs) → cond b (Some (f x)) (find test (map f xs)) ≡ option_map f (cond b (Some x) (find test xs))
    by true rest = refl
    by false rest = rest

found_any : {X : Type 0} (party_of : X → Party) (test : Party → Bool) (xs : List X) → is_some (find (λ x. test (party_of x)) xs) ≡ list_any test (map party_of xs)
found_any party_of test [] = refl
found_any {X} party_of test (x ∷ xs) = by (test (party_of x)) (found_any party_of test xs)
  where
    by : (b : Bool) → is_some (find (λ x. test (party_of x)) xs) ≡ list_any test (map party_of xs)
        → is_some (cond b (Some x) (find (λ x. test (party_of x)) xs)) ≡ (b || list_any test (map party_of xs))
    by true rest = refl
    by false rest = rest

pub same_names : (currencies : List (List ℕ)) (providers : List Provider)
    → map (λ provider. provider.party) (map (with_highest_limits currencies) providers) ≡ map (λ provider. provider.party) providers
same_names currencies [] = refl
same_names currencies (provider ∷ providers) = ap (λ (names : List Party). provider.party ∷ names) (same_names currencies providers)

-- no two of them are the same
pub still_different : (currencies : List (List ℕ)) (providers : List Provider)
    → all_different alike_providers (map (with_highest_limits currencies) providers) ≡ all_different alike_providers providers
still_different currencies [] = refl
still_different currencies (provider ∷ providers) = ap₂ (λ (a b : Bool). not a && b) (any providers) (still_different currencies providers)
  where
    any : (others : List Provider)
        → list_any (alike_providers (with_highest_limits currencies provider)) (map (with_highest_limits currencies) others) ≡ list_any (alike_providers provider) others
    any [] = refl
    any (other ∷ others) = ap (λ (b : Bool). alike_providers provider other || b) (any others)

abbrev pub hub_name : List ℕ
hub_name = codes "hub"

-- ---- rows

-- a provider's row in a currency: its own with the highest limit, or one that was missing
row_in_loose : (provider : Provider) (currencies : List (List ℕ)) (currency : List ℕ)
    → row_in currency (with_highest_limits currencies provider)
    ≡ option_or (option_map with_highest_limit (row_in currency provider)) (find (λ row. same_currency row.currency currency) (missing_rows provider currencies))
row_in_loose provider currencies currency =
    let test : ProviderLimit → Bool = λ row. same_currency row.currency currency in
    find-append test (map with_highest_limit provider.limits) (missing_rows provider currencies)
    ∙ ap (λ (o : Option ProviderLimit). option_or o (find test (missing_rows provider currencies))) (find_through with_highest_limit test (λ row. refl) provider.limits)

abbrev in_currency : List ℕ → ProviderLimit → Bool
in_currency currency row = same_currency row.currency currency

abbrev limit_in : Option ProviderLimit → ℕ
limit_in row = unwrap_or (option_map (λ row. row.limit) row) 0

abbrev hold_in : Option ProviderLimit → ℕ
hold_in row = unwrap_or (option_map (λ row. row.hold) row) 1

-- a row that was missing holds what a provider without one holds
missing_hold : (provider : Provider) (currencies : List (List ℕ)) (currency : List ℕ)
    → hold_in (find (λ row. same_currency row.currency currency) (missing_rows provider currencies)) ≡ 1
missing_hold provider [] currency = refl
missing_hold provider (one ∷ others) currency = by (row_in one provider) (missing_hold provider others currency)
  where
    picked : (b : Bool) (row : ProviderLimit) (rest : Option ProviderLimit) → row.hold ≡ 1 → hold_in rest ≡ 1 → hold_in (cond b (Some row) rest) ≡ 1
    picked true row rest h k = h
    picked false row rest h k = k

    by : (o : Option ProviderLimit) → hold_in (find (λ row. same_currency row.currency currency) (missing_rows provider others)) ≡ 1
        → hold_in (find (λ row. same_currency row.currency currency) (row_if_none one o ++ missing_rows provider others)) ≡ 1
    by (Some row) rest = rest
    by None rest =
        picked (same_currency one currency) (record { currency = one; limit = 10 ^ 15; hold = 1 }) (find (λ row. same_currency row.currency currency) (missing_rows provider others)) refl rest

-- a row that is missing in one of the currencies has the highest limit
missing_limit : (provider : Provider) (currencies : List (List ℕ)) (currency : List ℕ) → row_in currency provider ≡ None → has_currency_among currencies currency ≡ true
    → 10 ^ 15 ≤ limit_in (find (λ row. same_currency row.currency currency) (missing_rows provider currencies))
missing_limit provider [] currency none known = absurd (cc)
missing_limit provider (one ∷ others) currency none known =
    by (same_currency one currency) refl (row_in one provider) refl known (missing_limit provider others currency none)
  where
    by : (b : Bool) → same_currency one currency ≡ b → (o : Option ProviderLimit) → row_in one provider ≡ o → (b || has_currency_among others currency) ≡ true
        → (has_currency_among others currency ≡ true → 10 ^ 15 ≤ limit_in (find (in_currency currency) (missing_rows provider others)))
        → 10 ^ 15 ≤ limit_in (find (in_currency currency) (row_if_none one o ++ missing_rows provider others))
    by true e None is known rest =
        subst (λ (b : Bool). 10 ^ 15 ≤ limit_in (cond b (Some (record { currency = one; limit = 10 ^ 15; hold = 1 })) (find (in_currency currency) (missing_rows provider others)))) (sym e) (omega arith)
    by true e (Some row) is known rest =
        let same : one ≡ currency = same_text one currency (sym e) in
        let found : Some row ≡ None = sym is ∙ ap (λ (c : List ℕ). row_in c provider) same ∙ none in
        absurd (cc)
    by false e None is known rest =
        subst (λ (b : Bool). 10 ^ 15 ≤ limit_in (cond b (Some (record { currency = one; limit = 10 ^ 15; hold = 1 })) (find (in_currency currency) (missing_rows provider others)))) (sym e) (rest known)
    by false e (Some row) is known rest = rest known

module _ (config : Config) where
  -- ---- providers and limits

  abbrev loose_provider : Provider → Provider
  loose_provider provider = with_highest_limits config.currencies provider

  provider_found : (party : Party) → provider_of (loosened config) party ≡ option_map loose_provider (provider_of config party)
  provider_found party = find_through loose_provider (λ provider. same_party provider.party party) (λ provider. refl) config.providers

  row_found : (party : Party) (currency : List ℕ) → row_of (loosened config) party currency ≡ option_and_then (λ provider. row_in currency (loose_provider provider)) (provider_of config party)
  row_found party currency = ap (option_and_then (row_in currency)) (provider_found party) ∙ by (provider_of config party)
    where
      by : (o : Option Provider) → option_and_then (row_in currency) (option_map loose_provider o) ≡ option_and_then (λ provider. row_in currency (loose_provider provider)) o
      by None = refl
      by (Some provider) = refl

  pub same_provider : (party : Party) → is_provider (loosened config) party ≡ is_provider config party
  same_provider party = ap is_some (provider_found party) ∙ by (provider_of config party)
    where
      by : (o : Option Provider) → is_some (option_map loose_provider o) ≡ is_some o
      by None = refl
      by (Some provider) = refl

  pub same_spelling : (party : Party) → provider_as_configured (loosened config) party ≡ provider_as_configured config party
  same_spelling party = ap (λ (o : Option Provider). unwrap_or (option_map (λ provider. provider.party) o) party) (provider_found party) ∙ by (provider_of config party)
    where
      by : (o : Option Provider) → unwrap_or (option_map (λ provider. provider.party) (option_map loose_provider o)) party ≡ unwrap_or (option_map (λ provider. provider.party) o) party
      by None = refl
      by (Some provider) = refl

  pub same_hold : (party : Party) (currency : List ℕ) → hold_of (loosened config) party currency ≡ hold_of config party currency
  same_hold party currency = ap hold_in (row_found party currency) ∙ by (provider_of config party)
    where
      own : (o missing : Option ProviderLimit) → hold_in missing ≡ 1 → hold_in (option_or (option_map with_highest_limit o) missing) ≡ hold_in o
      own None missing h = h
      own (Some row) missing h = refl

      by : (o : Option Provider) → hold_in (option_and_then (λ provider. row_in currency (loose_provider provider)) o) ≡ hold_in (option_and_then (row_in currency) o)
      by None = refl
      by (Some provider) = ap hold_in (row_in_loose provider config.currencies currency)
          ∙ own (row_in currency provider) _ (missing_hold provider config.currencies currency)

  pub higher_limit : (party : Party) (currency : List ℕ) → limit_of config party currency ≤ limit_of (loosened config) party currency
  higher_limit party currency =
      subst (λ (o : Option ProviderLimit). limit_of config party currency ≤ limit_in o) (sym (row_found party currency)) (by (provider_of config party))
    where
      own : (o missing : Option ProviderLimit) → limit_in o ≤ limit_in (option_or (option_map with_highest_limit o) missing)
      own None missing = omega arith
      own (Some row) missing = le-max_left row.limit (10 ^ 15)

      by : (o : Option Provider) → limit_in (option_and_then (row_in currency) o) ≤ limit_in (option_and_then (λ provider. row_in currency (loose_provider provider)) o)
      by None = omega arith
      by (Some provider) =
          subst (λ (o : Option ProviderLimit). limit_in (row_in currency provider) ≤ limit_in o) (sym (row_in_loose provider config.currencies currency))
          (own (row_in currency provider) _)

  highest_limit : (party : Party) (currency : List ℕ) → is_provider config party ≡ true → has_currency config currency ≡ true → 10 ^ 15 ≤ limit_of (loosened config) party currency
  highest_limit party currency known configured =
      subst (λ (o : Option ProviderLimit). 10 ^ 15 ≤ limit_in o) (sym (row_found party currency)) (by (provider_of config party) known)
    where
      own : (o missing : Option ProviderLimit) → (o ≡ None → 10 ^ 15 ≤ limit_in missing) → 10 ^ 15 ≤ limit_in (option_or (option_map with_highest_limit o) missing)
      own None missing h = h refl
      own (Some row) missing h = le-max_right row.limit (10 ^ 15)

      by : (o : Option Provider) → is_some o ≡ true → 10 ^ 15 ≤ limit_in (option_and_then (λ provider. row_in currency (loose_provider provider)) o)
      by None e = absurd (cc)
      by (Some provider) e =
          subst (λ (o : Option ProviderLimit). 10 ^ 15 ≤ limit_in o) (sym (row_in_loose provider config.currencies currency))
          (own (row_in currency provider) _ (λ none. missing_limit provider config.currencies currency none configured))

  -- ---- the hub

  -- it acts for every party
  pub hub_acts : (party : Party) → (is_operator config party || is_provider config party) ≡ true → may_act_for (loosened config) hub_name party ≡ true
  hub_acts party known =
      list_any-append (λ other. same_party other party) (map (λ operator. operator.party) config.operators) (map (λ provider. provider.party) config.providers)
      ∙ ap₂ ◌||◌ (sym (found_any (λ operator. operator.party) (λ other. same_party other party) config.operators))
      (sym (found_any (λ provider. provider.party) (λ other. same_party other party) config.providers))
      ∙ known

  pub for_operator : (party : Party) → is_operator config party ≡ true → may_act_for (loosened config) hub_name party ≡ true
  for_operator party known = hub_acts party (ap (λ (b : Bool). b || is_provider config party) known)

  pub for_provider : (party : Party) → is_provider config party ≡ true → may_act_for (loosened config) hub_name party ≡ true
  for_provider party known = hub_acts party (ap (λ (b : Bool). is_operator config party || b) known ∙ either (is_operator config party))
    where
      either : (b : Bool) → (b || true) ≡ true
      either true = refl
      either false = refl

pub limits_are_highest : LoosenedLimitsAreHighest
limits_are_highest config provider currency known configured = (highest_limit config provider currency known configured, same_hold config provider currency)
