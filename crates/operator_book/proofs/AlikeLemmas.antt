-- Obligations put together owe alike.
use Rattle.std.proofs.Common.{◌≡◌, ◌∙◌, ◌≤◌, ◌&&◌, ◌||◌, ℕ, ℤ, List, [], ◌∷◌, Bool, true, false, cond, Some, None, refl, sym, ap, ap₂, filter, find, flat_map, pos, arith}
use Rattle.std.specs.Prelude.{is_some, unsigned_abs}
use Rattle.std.specs.List.{list_all, list_any}
use Rattle.std.specs.Option.{option_to_list}
use Rattle.std.proofs.Math.IntN.{+ℤ_idr}
use Rattle.std.proofs.lemmas.Int.{ints}
use Rattle.std.proofs.lemmas.List.Folds.{list_all-append}
use Rattle.std.proofs.lemmas.List.Sums.{sum_by-cons}
use Rattle.std.proofs.lemmas.Slice.Eq.{bytes_eq-Decides}
use Rattle.ocpi_types.specs.declared.config.Config.{Config}
use Rattle.ocpi_types.specs.declared.config.Provider.{Provider}
use Rattle.ocpi_types.specs.declared.party.Party.{Party}
use Rattle.ocpi_types.specs.Config.{alike_providers, has_currency_among}
use Rattle.ocpi_types.specs.Currency.{same_currency}
use Rattle.ocpi_types.specs.Different.{all_different}
use Rattle.ocpi_types.specs.Party.{same_party}
use Rattle.netting_positions.specs.Netting.{amounts, is_configured, size, total, total_size}
use Rattle.netting_positions.specs.SameSums.{OweAlike, is_between}
use Rattle.netting_positions.specs.declared.obligation.Obligation.{Obligation}
use Rattle.operator_book.proofs.AmountLemmas.{sum_of}
use Rattle.operator_book.specs.Due.{is_of_provider}
use Rattle.operator_book.specs.Together.{owed_by, owed_by_all, together}
use Rattle.operator_book.proofs.KeyLemmas.{both_are, folded_alike, is_folded, party_laws}
use Rattle.operator_book.proofs.OnceLemmas.{any_once, kept_least, or_and, sizes_once, sum_once}
use Rattle.operator_book.proofs.SumsLemmas.{between_alike, none_owed}
use Rattle.operator_book.proofs.TogetherLemmas.{row_with}

-- ---- one row

row_sum : (t : Obligation → Bool) (row : Obligation) (any : Bool) → sum_of t (option_to_list (cond any (Some row) None)) ≡ cond (any && t row) row.amount (pos 0)
row_sum t row true = by (t row)
  where
    by : (b : Bool) → total (amounts (cond b (row ∷ []) [])) ≡ cond b row.amount (pos 0)
    by true = +ℤ_idr row.amount
    by false = refl
row_sum t row false = refl

row_any : (t : Obligation → Bool) (row : Obligation) (any : Bool) → list_any t (option_to_list (cond any (Some row) None)) ≡ (any && t row)
row_any t row true = by (t row)
  where
    by : (b : Bool) → (b || false) ≡ b
    by true = refl
    by false = refl
row_any t row false = refl

total_least : (os : List Obligation) → unsigned_abs (total (amounts os)) ≤ total_size os
total_least [] = omega arith
total_least (o ∷ os) = let rest = total_least os in omega (arith, ints, sum_by-cons size o os)

row_size : (row : Obligation) (any : Bool) (n : ℕ) → unsigned_abs row.amount ≤ n → total_size (option_to_list (cond any (Some row) None)) ≤ n
row_size row true n h = omega (arith, sum_by-cons size row [])
row_size row false n h = omega arith

-- the row of that provider and currency is one of those that are asked for
abbrev is_row : Party → Party → Party → List ℕ → Party → List ℕ → Bool
is_row operator asked other coin provider currency = same_party operator asked && same_party provider other && same_currency currency coin

alike_tests : (operator asked other : Party) (coin : List ℕ) (provider : Party) (currency : List ℕ) → is_row operator asked other coin provider currency ≡ true
    → is_between operator provider currency ≡ is_between asked other coin
alike_tests operator asked other coin provider currency h =
    let all = both_are (same_party operator asked && same_party provider other) (same_currency currency coin) h in
    let parties = both_are (same_party operator asked) (same_party provider other) all.0 in
    between_alike operator asked provider other currency coin parties.0 parties.1 all.1

one_sum : (own among : Obligation → Bool) (os : List Obligation) (row any : Bool) → (row ≡ true → own ≡ among) → list_any own os ≡ any
    → cond (any && row) (sum_of own os) (pos 0) ≡ cond row (sum_of among os) (pos 0)
one_sum own among os true true same is = ap (λ (p : Obligation → Bool). sum_of p os) (same refl)
one_sum own among os true false same is = sym (none_owed own os is) ∙ ap (λ (p : Obligation → Bool). sum_of p os) (same refl)
one_sum own among os false true same is = refl
one_sum own among os false false same is = refl

one_any : (own among : Obligation → Bool) (os : List Obligation) (row any : Bool) → (row ≡ true → own ≡ among) → list_any own os ≡ any
    → (any && row) ≡ (row && list_any among os)
one_any own among os true true same is = sym is ∙ ap (λ (p : Obligation → Bool). list_any p os) (same refl)
one_any own among os true false same is = sym is ∙ ap (λ (p : Obligation → Bool). list_any p os) (same refl)
one_any own among os false true same is = refl
one_any own among os false false same is = refl

each_sum : (operator : Party) (os : List Obligation) (asked other : Party) (coin : List ℕ) (provider : Party) (currency : List ℕ)
    → sum_of (is_between asked other coin) (option_to_list (together operator os provider currency))
    ≡ cond (is_row operator asked other coin provider currency) (sum_of (is_between asked other coin) os) (pos 0)
each_sum operator os asked other coin provider currency =
    let own = is_between operator provider currency in
    row_sum (is_between asked other coin) (row_with operator provider currency (sum_of own os)) (list_any own os)
    ∙ one_sum own (is_between asked other coin) os (is_row operator asked other coin provider currency) (list_any own os)
    (alike_tests operator asked other coin provider currency) refl

each_any : (operator : Party) (os : List Obligation) (asked other : Party) (coin : List ℕ) (provider : Party) (currency : List ℕ)
    → list_any (is_between asked other coin) (option_to_list (together operator os provider currency))
    ≡ (is_row operator asked other coin provider currency && list_any (is_between asked other coin) os)
each_any operator os asked other coin provider currency =
    let own = is_between operator provider currency in
    row_any (is_between asked other coin) (row_with operator provider currency (sum_of own os)) (list_any own os)
    ∙ one_any own (is_between asked other coin) os (is_row operator asked other coin provider currency) (list_any own os)
    (alike_tests operator asked other coin provider currency) refl

-- ---- all rows of a provider

alike_currencies : (c d coin : List ℕ) → same_currency c coin ≡ true → same_currency d coin ≡ true → same_currency c d ≡ true
alike_currencies c d coin h k =
    (bytes_eq-Decides c d).1 ((bytes_eq-Decides c coin).0 h ∙ sym ((bytes_eq-Decides d coin).0 k))

alike_parties : (p q other : Party) → same_party p other ≡ true → same_party q other ≡ true → same_party p q ≡ true
alike_parties p q other h k = party_laws.congr p other q h ∙ party_laws.symm other q ∙ k

rows_alone : (operator asked other : Party) (coin : List ℕ) (provider : Party) (c d : List ℕ) → is_row operator asked other coin provider c ≡ true
    → is_row operator asked other coin provider d ≡ true → same_currency c d ≡ true
rows_alone operator asked other coin provider c d h k =
    alike_currencies c d coin (both_are (same_party operator asked && same_party provider other) (same_currency c coin) h).1
    (both_are (same_party operator asked && same_party provider other) (same_currency d coin) k).1

abbrev is_any_row : Party → Party → Party → List ℕ → List (List ℕ) → Party → Bool
is_any_row operator asked other coin currencies provider = list_any (is_row operator asked other coin provider) currencies

provider_sum : (operator : Party) (os : List Obligation) (asked other : Party) (coin : List ℕ) (currencies : List (List ℕ)) (provider : Party) → all_different same_currency currencies ≡ true
    → sum_of (is_between asked other coin) (owed_by operator os currencies provider)
    ≡ cond (is_any_row operator asked other coin currencies provider) (sum_of (is_between asked other coin) os) (pos 0)
provider_sum operator os asked other coin currencies provider different =
    sum_once same_currency (is_row operator asked other coin provider) (rows_alone operator asked other coin provider)
    (λ currency. option_to_list (together operator os provider currency)) (is_between asked other coin) (sum_of (is_between asked other coin) os)
    (each_sum operator os asked other coin provider) currencies different

provider_any : (operator : Party) (os : List Obligation) (asked other : Party) (coin : List ℕ) (currencies : List (List ℕ)) (provider : Party)
    → list_any (is_between asked other coin) (owed_by operator os currencies provider)
    ≡ (is_any_row operator asked other coin currencies provider && list_any (is_between asked other coin) os)
provider_any operator os asked other coin currencies provider =
    any_once (is_row operator asked other coin provider) (λ currency. option_to_list (together operator os provider currency)) (is_between asked other coin)
    (list_any (is_between asked other coin) os) (each_any operator os asked other coin provider) currencies

-- ---- all rows

-- where one passes that is asked for by a part that does not depend on it, the part holds
part_holds : {X : Type 0} (a : Bool) (r : X → Bool) (xs : List X) → list_any (λ x. a && r x) xs ≡ true → a ≡ true
part_holds true r xs h = refl
part_holds false r [] h = h
part_holds false r (x ∷ xs) h = part_holds false r xs h

providers_alone : (operator asked other : Party) (coin : List ℕ) (currencies : List (List ℕ)) (p q : Provider) → is_any_row operator asked other coin currencies p.party ≡ true
    → is_any_row operator asked other coin currencies q.party ≡ true → alike_providers p q ≡ true
providers_alone operator asked other coin currencies p q h k =
    let one = part_holds (same_party operator asked && same_party p.party other) (λ (c : List ℕ). same_currency c coin) currencies h in
    let two = part_holds (same_party operator asked && same_party q.party other) (λ (c : List ℕ). same_currency c coin) currencies k in
    alike_parties p.party q.party other (both_are (same_party operator asked) (same_party p.party other) one).1
    (both_are (same_party operator asked) (same_party q.party other) two).1

abbrev is_any_of_all : Party → Party → Party → List ℕ → List (List ℕ) → List Provider → Bool
is_any_of_all operator asked other coin currencies providers = list_any (λ provider. is_any_row operator asked other coin currencies provider.party) providers

all_sum : (operator : Party) (os : List Obligation) (asked other : Party) (coin : List ℕ) (currencies : List (List ℕ)) (providers : List Provider) → all_different same_currency currencies ≡ true
    → all_different alike_providers providers ≡ true
    → sum_of (is_between asked other coin) (owed_by_all operator os currencies providers)
    ≡ cond (is_any_of_all operator asked other coin currencies providers) (sum_of (is_between asked other coin) os) (pos 0)
all_sum operator os asked other coin currencies providers different apart =
    sum_once alike_providers (λ provider. is_any_row operator asked other coin currencies provider.party) (providers_alone operator asked other coin currencies)
    (λ provider. owed_by operator os currencies provider.party) (is_between asked other coin) (sum_of (is_between asked other coin) os)
    (λ provider. provider_sum operator os asked other coin currencies provider.party different) providers apart

all_any : (operator : Party) (os : List Obligation) (asked other : Party) (coin : List ℕ) (currencies : List (List ℕ)) (providers : List Provider)
    → list_any (is_between asked other coin) (owed_by_all operator os currencies providers)
    ≡ (is_any_of_all operator asked other coin currencies providers && list_any (is_between asked other coin) os)
all_any operator os asked other coin currencies providers =
    any_once (λ provider. is_any_row operator asked other coin currencies provider.party) (λ provider. owed_by operator os currencies provider.party) (is_between asked other coin)
    (list_any (is_between asked other coin) os) (λ provider. provider_any operator os asked other coin currencies provider.party) providers

-- ---- each obligation has its row

found_any : {X : Type 0} (q : X → Bool) (xs : List X) → is_some (find q xs) ≡ list_any q xs
found_any q [] = refl
found_any q (x ∷ xs) = by (q x) (found_any q xs)
  where
    by : (b : Bool) → is_some (find q xs) ≡ list_any q xs → is_some (cond b (Some x) (find q xs)) ≡ (b || list_any q xs)
    by true rest = refl
    by false rest = rest

any_and : {X : Type 0} (a : Bool) (r : X → Bool) (xs : List X) → list_any (λ x. a && r x) xs ≡ (a && list_any r xs)
any_and true r xs = refl
any_and false r [] = refl
any_and false r (x ∷ xs) = any_and false r xs

-- the tests of a provider and of a currency together
rows_split : (a : Bool) (r : Provider → Bool) (currencies : List (List ℕ)) (coin : List ℕ) (providers : List Provider)
    → list_any (λ (provider : Provider). list_any (λ (c : List ℕ). a && r provider && same_currency c coin) currencies) providers
    ≡ (a && list_any r providers && list_any (λ (c : List ℕ). same_currency c coin) currencies)
rows_split true r currencies coin [] = refl
rows_split false r currencies coin [] = refl
rows_split a r currencies coin (provider ∷ providers) =
    ap₂ ◌||◌ (any_and (a && r provider) (λ (c : List ℕ). same_currency c coin) currencies) (rows_split a r currencies coin providers)
    ∙ by a (r provider) (list_any r providers) (list_any (λ (c : List ℕ). same_currency c coin) currencies)
  where
    by : (a b c d : Bool) → ((a && b && d) || (a && c && d)) ≡ (a && (b || c) && d)
    by true b c d = or_and b c d
    by false b c d = refl

-- an obligation among those asked for has its row
has_row : (config : Config) (operator asked other : Party) (coin : List ℕ) (o : Obligation) → same_party o.operator operator ≡ true → is_of_provider config o ≡ true
    → is_between asked other coin o ≡ true → is_any_of_all operator asked other coin config.currencies config.providers ≡ true
has_row config operator asked other coin o its known h =
    let all = both_are (same_party o.operator asked && same_party o.provider other) (same_currency o.currency coin) h in
    let parties = both_are (same_party o.operator asked) (same_party o.provider other) all.0 in
    let its_operator : same_party operator asked ≡ true = sym (party_laws.congr o.operator operator asked its) ∙ parties.0 in
    let provider = folded_alike o.provider other parties.1 in
    let currency : o.currency ≡ coin = (bytes_eq-Decides o.currency coin).0 all.1 in
    let parts = both_are (is_some (find (λ (p : Provider). same_party p.party o.provider) config.providers)) (has_currency_among config.currencies o.currency) known in
    let of_provider : list_any (λ (p : Provider). same_party p.party o.provider) config.providers ≡ true =
    sym (found_any (λ (p : Provider). same_party p.party o.provider) config.providers) ∙ parts.0 in
    let of_other : list_any (λ (p : Provider). same_party p.party other) config.providers ≡ true =
    sym (λ i. list_any (λ (p : Provider). is_folded p.party (provider i)) config.providers) ∙ of_provider in
    let of_coin : list_any (λ (c : List ℕ). same_currency c coin) config.currencies ≡ true =
    sym (λ i. list_any (λ (c : List ℕ). same_currency c (currency i)) config.currencies) ∙ parts.1 in
    rows_split (same_party operator asked) (λ (p : Provider). same_party p.party other) config.currencies coin config.providers
    ∙ λ i. its_operator i && of_other i && of_coin i

none_without_row : (config : Config) (operator asked other : Party) (coin : List ℕ) (os : List Obligation) → list_all (λ (o : Obligation). same_party o.operator operator) os ≡ true
    → list_all (is_of_provider config) os ≡ true → is_any_of_all operator asked other coin config.currencies config.providers ≡ false
    → list_any (is_between asked other coin) os ≡ false
none_without_row config operator asked other coin [] its known none = refl
none_without_row config operator asked other coin (o ∷ os) its known none =
    let mine = both_are (same_party o.operator operator) (list_all (λ (x : Obligation). same_party x.operator operator) os) its in
    let ours = both_are (is_of_provider config o) (list_all (is_of_provider config) os) known in
    by (is_between asked other coin o) refl mine.0 ours.0 (none_without_row config operator asked other coin os mine.1 ours.1 none)
  where
    by : (b : Bool) → is_between asked other coin o ≡ b → same_party o.operator operator ≡ true → is_of_provider config o ≡ true
        → list_any (is_between asked other coin) os ≡ false → (is_between asked other coin o || list_any (is_between asked other coin) os) ≡ false
    by true h my our rest = let e : true ≡ false = sym (has_row config operator asked other coin o my our h) ∙ none in absurd (cc)
    by false h my our rest = ap (λ b. b || list_any (is_between asked other coin) os) h ∙ rest

-- ---- they owe alike

sum_or_none : (t : Obligation → Bool) (os : List Obligation) (row : Bool) → (row ≡ false → list_any t os ≡ false) → cond row (sum_of t os) (pos 0) ≡ sum_of t os
sum_or_none t os true none = refl
sum_or_none t os false none = sym (none_owed t os (none refl))

any_or_none : (row any : Bool) → (row ≡ false → any ≡ false) → (row && any) ≡ any
any_or_none true any none = refl
any_or_none false any none = sym (none refl)

pub rows_owe_alike : (config : Config) (operator : Party) (os : List Obligation) → all_different same_currency config.currencies ≡ true
    → all_different alike_providers config.providers ≡ true → list_all (λ (o : Obligation). same_party o.operator operator) os ≡ true → list_all (is_of_provider config) os ≡ true
    → OweAlike (owed_by_all operator os config.currencies config.providers) os
rows_owe_alike config operator os different apart its known = record {
  owed = λ asked other coin.
      let t = is_between asked other coin in
      all_sum operator os asked other coin config.currencies config.providers different apart
      ∙ sum_or_none t os (is_any_of_all operator asked other coin config.currencies config.providers) (none_without_row config operator asked other coin os its known);
  between = λ asked other coin.
      let t = is_between asked other coin in
      all_any operator os asked other coin config.currencies config.providers
      ∙ any_or_none (is_any_of_all operator asked other coin config.currencies config.providers) (list_any t os) (none_without_row config operator asked other coin os its known);
}

-- ---- they are no larger

pub rows_least : (operator : Party) (os : List Obligation) (currencies : List (List ℕ)) (providers : List Provider) → all_different same_currency currencies ≡ true
    → all_different alike_providers providers ≡ true → total_size (owed_by_all operator os currencies providers) ≤ total_size os
rows_least operator os currencies providers different apart =
    let by_provider = λ (provider : Provider) (o : Obligation). list_any (λ (c : List ℕ). is_between operator provider.party c o) currencies in
    let all = sizes_once alike_providers by_provider (λ o p q h k. same_providers o p q h k) (λ provider. owed_by operator os currencies provider.party) os
    (λ provider. provider_least provider.party) providers apart in
    let kept = kept_least (λ (o : Obligation). list_any (λ (p : Provider). by_provider p o) providers) os in
    omega arith
  where
    same_providers : (o : Obligation) (p q : Provider) → list_any (λ (c : List ℕ). is_between operator p.party c o) currencies ≡ true
        → list_any (λ (c : List ℕ). is_between operator q.party c o) currencies ≡ true → alike_providers p q ≡ true
    same_providers o p q h k =
        let one = part_holds (same_party o.operator operator && same_party o.provider p.party) (λ (c : List ℕ). same_currency o.currency c) currencies h in
        let two = part_holds (same_party o.operator operator && same_party o.provider q.party) (λ (c : List ℕ). same_currency o.currency c) currencies k in
        let h = (both_are (same_party o.operator operator) (same_party o.provider p.party) one).1 in
        let k = (both_are (same_party o.operator operator) (same_party o.provider q.party) two).1 in
        sym (party_laws.congr o.provider p.party q.party h) ∙ k

    same_coins : (provider : Party) (o : Obligation) (c d : List ℕ) → is_between operator provider c o ≡ true → is_between operator provider d o ≡ true → same_currency c d ≡ true
    same_coins provider o c d h k =
        let one = (bytes_eq-Decides o.currency c).0 (both_are (same_party o.operator operator && same_party o.provider provider) (same_currency o.currency c) h).1 in
        let two = (bytes_eq-Decides o.currency d).0 (both_are (same_party o.operator operator && same_party o.provider provider) (same_currency o.currency d) k).1 in
        (bytes_eq-Decides c d).1 (sym one ∙ two)

    provider_least : (provider : Party) → total_size (owed_by operator os currencies provider)
        ≤ total_size (filter (λ (o : Obligation). list_any (λ (c : List ℕ). is_between operator provider c o) currencies) os)
    provider_least provider =
        sizes_once same_currency (λ (c : List ℕ) o. is_between operator provider c o) (same_coins provider) (λ currency. option_to_list (together operator os provider currency)) os
        (λ currency. let p = is_between operator provider currency in
        row_size (row_with operator provider currency (sum_of p os)) (list_any p os) (total_size (filter p os)) (total_least (filter p os))) currencies different

-- ---- they are configured

every : {X : Type 0} (q : Obligation → Bool) (f : X → List Obligation) → ((x : X) → list_all q (f x) ≡ true) → (xs : List X) → list_all q (flat_map f xs) ≡ true
every q f each [] = refl
every q f each (x ∷ xs) = list_all-append q (f x) (flat_map f xs) ∙ ap₂ ◌&&◌ (each x) (every q f each xs)

-- one that passes both tests
witness : (p q : Obligation → Bool) (os : List Obligation) → list_any p os ≡ true → list_all q os ≡ true → (o : Obligation) × (p o ≡ true) × (q o ≡ true)
witness p q [] h k = absurd (cc)
witness p q (o ∷ os) h k =
    let parts = both_are (q o) (list_all q os) k in
    by (p o) refl parts.0 (λ g. witness p q os g parts.1)
  where
    by : (b : Bool) → p o ≡ b → q o ≡ true → (list_any p os ≡ true → (x : Obligation) × (p x ≡ true) × (q x ≡ true)) → (x : Obligation) × (p x ≡ true) × (q x ≡ true)
    by true is good rest = (o, is, good)
    by false is good rest = rest (sym (ap (λ b. b || list_any p os) is) ∙ h)

row_configured : (parties : List Party) (coins : List (List ℕ)) (operator provider : Party) (currency : List ℕ) (amount : ℤ) (o : Obligation) → is_between operator provider currency o ≡ true
    → is_configured parties coins o ≡ true → is_configured parties coins (row_with operator provider currency amount) ≡ true
row_configured parties coins operator provider currency amount o h known =
    let all = both_are (same_party o.operator operator && same_party o.provider provider) (same_currency o.currency currency) h in
    let both = both_are (same_party o.operator operator) (same_party o.provider provider) all.0 in
    let operators = folded_alike o.operator operator both.0 in
    let providers = folded_alike o.provider provider both.1 in
    let currencies : o.currency ≡ currency = (bytes_eq-Decides o.currency currency).0 all.1 in
    sym (λ i. list_any (λ (party : Party). is_folded party (operators i)) parties && list_any (λ (party : Party). is_folded party (providers i)) parties
    && has_currency_among coins (currencies i)) ∙ known

pub rows_configured : (parties : List Party) (coins : List (List ℕ)) (operator : Party) (os : List Obligation) (currencies : List (List ℕ)) (providers : List Provider)
    → list_all (is_configured parties coins) os ≡ true → list_all (is_configured parties coins) (owed_by_all operator os currencies providers) ≡ true
rows_configured parties coins operator os currencies providers known =
    every (is_configured parties coins) (λ provider. owed_by operator os currencies provider.party) (λ provider.
    every (is_configured parties coins) (λ currency. option_to_list (together operator os provider.party currency)) (λ currency.
    by provider.party currency (list_any (is_between operator provider.party currency) os) refl) currencies) providers
  where
    by : (provider : Party) (currency : List ℕ) (b : Bool) → list_any (is_between operator provider currency) os ≡ b
        → list_all (is_configured parties coins) (option_to_list (cond b (Some (row_with operator provider currency (sum_of (is_between operator provider currency) os))) None)) ≡ true
    by provider currency true h =
        let (o, its, good) = witness (is_between operator provider currency) (is_configured parties coins) os h known in
        ap (λ b. b && true) (row_configured parties coins operator provider currency (sum_of (is_between operator provider currency) os) o its good)
    by provider currency false h = refl

-- what passes a filter passes its test
pub all_kept : (q : Obligation → Bool) (os : List Obligation) → list_all q (filter q os) ≡ true
all_kept q [] = refl
all_kept q (o ∷ os) = by (q o) refl (all_kept q os)
  where
    by : (b : Bool) → q o ≡ b → list_all q (filter q os) ≡ true → list_all q (cond b (o ∷ filter q os) (filter q os)) ≡ true
    by true is rest = ap₂ ◌&&◌ is rest
    by false is rest = rest
