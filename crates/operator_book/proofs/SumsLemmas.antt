-- Sums with one obligation more.
use Rattle.std.proofs.Common.{◌≡◌, ◌∙◌, ◌≤◌, ◌<◌, ◌^◌, ◌+◌, ◌*◌, ◌==◌, ◌&&◌, ◌||◌, ℕ, ℤ, pos, List, [], ◌∷◌, ◌++◌, Bool, true, false, cond, Option, Some, None, unwrap_or, refl, sym, ap, ap₂, filter, map, length, length-append, append-nil, if◌then◌else◌, arith}
use Rattle.std.specs.Prelude.{◌+ℤ◌, unsigned_abs}
use Rattle.std.specs.List.{list_any}
use Rattle.std.specs.Str.{bytes_eq}
use Rattle.std.proofs.Math.IntN.{+ℤ_idl, +ℤ_idr}
use Rattle.std.proofs.lemmas.Bool.Decides.{Decides-eqb}
use Rattle.std.proofs.lemmas.List.{map-append}
use Rattle.std.proofs.lemmas.List.Concat.{flat_map-append}
use Rattle.std.proofs.lemmas.List.Elements.{filter-append}
use Rattle.std.proofs.lemmas.List.Folds.{list_any-append}
use Rattle.std.proofs.lemmas.List.Sums.{sum_by-append}
use Rattle.std.proofs.lemmas.Slice.Eq.{bytes_eq-Decides}
use Rattle.ocpi_types.specs.Currency.{same_currency}
use Rattle.ocpi_types.specs.Party.{same_party}
use Rattle.ocpi_types.specs.declared.party.Party.{Party}
use Rattle.netting_positions.specs.Netting.{size, total_size}
use Rattle.netting_positions.specs.SameSums.{is_between}
use Rattle.netting_positions.specs.declared.obligation.Obligation.{Obligation}
use Rattle.plain_house.specs.Booked.{Booked, booked, booked_in}
use Rattle.plain_house.specs.Obligations.{is_of_period, obligation_of, obligations}
use Rattle.plain_house.specs.declared.entry.BookEntry.{BookEntry}
use Rattle.operator_book.specs.Inner.Sums.{same_sum_key, sum_among}
use Rattle.operator_book.specs.declared.keys.SumKey.{SumKey}
use Rattle.operator_book.proofs.AmountLemmas.{sum_of, sum_of-cons, sum_of-push, sum_of_small}
use Rattle.operator_book.proofs.KeyLemmas.{both_are, folded_alike, is_folded, or_false}

-- ---- the same parties and currency

pub between_alike : (operator another : Party) (provider other : Party) (currency coin : List ℕ) → same_party operator another ≡ true → same_party provider other ≡ true
    → same_currency currency coin ≡ true → is_between operator provider currency ≡ is_between another other coin
between_alike operator another provider other currency coin h k m =
    let operators = folded_alike operator another h in
    let providers = folded_alike provider other k in
    let currencies : currency ≡ coin = (bytes_eq-Decides currency coin).0 m in
    λ i o. is_folded o.operator (operators i) && is_folded o.provider (providers i) && bytes_eq o.currency (currencies i)

-- ---- one obligation more

pub none_owed : (p : Obligation → Bool) (os : List Obligation) → list_any p os ≡ false → sum_of p os ≡ pos 0
none_owed p [] h = refl
none_owed p (o ∷ os) h = by (p o) refl (none_owed p os)
  where
    by : (b : Bool) → p o ≡ b → (list_any p os ≡ false → sum_of p os ≡ pos 0) → sum_of p (o ∷ os) ≡ pos 0
    by true is rest = let e : true ≡ false = sym (ap (λ b. b || list_any p os) is) ∙ h in absurd (cc)
    by false is rest =
        sum_of-cons p o os ∙ ap (λ b. cond b o.amount (pos 0) +ℤ sum_of p os) is ∙ +ℤ_idl (sum_of p os)
        ∙ rest (sym (ap (λ b. b || list_any p os) is) ∙ h)

abbrev pub sum_with : (Obligation → Bool) → List Obligation → Option ℤ
sum_with p os = if list_any p os then Some (sum_of p os) else None

pub sum_or_zero : (p : Obligation → Bool) (os : List Obligation) → unwrap_or (sum_with p os) (pos 0) ≡ sum_of p os
sum_or_zero p os = by (list_any p os) refl
  where
    by : (b : Bool) → list_any p os ≡ b → unwrap_or (cond b (Some (sum_of p os)) None) (pos 0) ≡ sum_of p os
    by true h = refl
    by false h = sym (none_owed p os h)

or_true : (b : Bool) → (b || true) ≡ true
or_true true = refl
or_true false = refl

sum_pushed : (p : Obligation → Bool) (os : List Obligation) (o : Obligation)
    → sum_with p (os ++ o ∷ []) ≡ cond (p o) (Some (unwrap_or (sum_with p os) (pos 0) +ℤ o.amount)) (sum_with p os)
sum_pushed p os o = ap₂ (λ (b : Bool) z. cond b (Some z) None) (list_any-append p os (o ∷ [])) (sum_of-push p os o) ∙ by (p o)
  where
    by : (b : Bool) → cond (list_any p os || (b || false)) (Some (sum_of p os +ℤ cond b o.amount (pos 0))) None
        ≡ cond b (Some (unwrap_or (sum_with p os) (pos 0) +ℤ o.amount)) (sum_with p os)
    by true = ap₂ (λ (b : Bool) z. cond b (Some (z +ℤ o.amount)) None) (or_true (list_any p os)) (sym (sum_or_zero p os))
    by false = ap₂ (λ (b : Bool) z. cond b (Some z) None) (or_false (list_any p os)) (+ℤ_idr (sum_of p os))

-- ---- one entry more

due_more : (period : ℕ) (entries : List BookEntry) (entry : BookEntry) → obligations period (entries ++ entry ∷ []) ≡ obligations period entries ++ obligations period (entry ∷ [])
due_more period entries entry =
    ap (λ l. map obligation_of (filter (is_of_period period) l)) (flat_map-append booked_in entries (entry ∷ []))
    ∙ ap (map obligation_of) (filter-append (is_of_period period) (booked entries) (booked (entry ∷ [])))
    ∙ map-append obligation_of (filter (is_of_period period) (booked entries)) (filter (is_of_period period) (booked (entry ∷ [])))

booked_one : (entry : BookEntry) → booked (entry ∷ []) ≡ booked_in entry
booked_one entry = append-nil (booked_in entry)

owed_of : ℕ → Booked → List Obligation
owed_of period x = map obligation_of (filter (is_of_period period) (x ∷ []))

due_one : (period : ℕ) (entry : BookEntry) (x : Booked) → x ∷ [] ≡ booked_in entry
    → obligations period (entry ∷ []) ≡ cond (x.period == period) (obligation_of x ∷ []) []
due_one period entry x h =
    ap (λ l. map obligation_of (filter (is_of_period period) l)) (booked_one entry ∙ sym h) ∙ by (x.period == period)
  where
    by : (b : Bool) → map obligation_of (cond b (x ∷ []) []) ≡ cond b (obligation_of x ∷ []) []
    by true = refl
    by false = refl

pub nothing_due : (period : ℕ) (entries : List BookEntry) (entry : BookEntry) → [] ≡ booked_in entry
    → obligations period (entries ++ entry ∷ []) ≡ obligations period entries
nothing_due period entries entry h =
    due_more period entries entry
    ∙ ap (λ l. obligations period entries ++ map obligation_of (filter (is_of_period period) l)) (booked_one entry ∙ sym h)
    ∙ append-nil (obligations period entries)

abbrev pub sum_key_of : Booked → SumKey
sum_key_of found = record {
  operator = found.cdr.operator;
  provider = found.cdr.cdr_token.provider;
  currency = found.cdr.currency;
  period = found.period;
}

-- the tests of a key, as an obligation's and the period's
tests_regrouped : (a b c d : Bool) → (a && (b && (c && d))) ≡ cond d (a && b && c) false
tests_regrouped true true true true = refl
tests_regrouped true true true false = refl
tests_regrouped true true false true = refl
tests_regrouped true true false false = refl
tests_regrouped true false true true = refl
tests_regrouped true false true false = refl
tests_regrouped true false false true = refl
tests_regrouped true false false false = refl
tests_regrouped false true true true = refl
tests_regrouped false true true false = refl
tests_regrouped false true false true = refl
tests_regrouped false true false false = refl
tests_regrouped false false true true = refl
tests_regrouped false false true false = refl
tests_regrouped false false false true = refl
tests_regrouped false false false false = refl

sum_more_by : (p : Obligation → Bool) (os : List Obligation) (o : Obligation) (b : Bool)
    → sum_with p (os ++ cond b (o ∷ []) []) ≡ cond (cond b (p o) false) (Some (unwrap_or (sum_with p os) (pos 0) +ℤ o.amount)) (sum_with p os)
sum_more_by p os o true = sum_pushed p os o
sum_more_by p os o false = ap (sum_with p) (append-nil os)

sum_more : (key : SumKey) (entries : List BookEntry) (entry : BookEntry) (x : Booked) → x ∷ [] ≡ booked_in entry
    → sum_among key (obligations key.period (entries ++ entry ∷ []))
    ≡ cond (same_sum_key (sum_key_of x) key) (Some (unwrap_or (sum_among key (obligations key.period entries)) (pos 0) +ℤ x.amount)) (sum_among key (obligations key.period entries))
sum_more key entries entry x h =
    let old = sum_among key (obligations key.period entries) in
    ap (sum_among key) (due_more key.period entries entry ∙ ap (λ l. obligations key.period entries ++ l) (due_one key.period entry x h))
    ∙ sum_more_by (is_between key.operator key.provider key.currency) (obligations key.period entries) (obligation_of x) (x.period == key.period)
    ∙ ap (λ b. cond b (Some (unwrap_or old (pos 0) +ℤ x.amount)) old) (sym (tests_regrouped (same_party x.cdr.operator key.operator) (same_party x.cdr.cdr_token.provider key.provider)
    (same_currency x.cdr.currency key.currency) (x.period == key.period)))

-- a key that is the same has the same sum
sum_alike : (key asked : SumKey) (entries : List BookEntry) → same_sum_key key asked ≡ true
    → sum_among key (obligations key.period entries) ≡ sum_among asked (obligations asked.period entries)
sum_alike key asked entries h =
    let all = both_are (same_party key.operator asked.operator)
    (same_party key.provider asked.provider && (same_currency key.currency asked.currency && (key.period == asked.period))) h in
    let three = both_are (same_party key.provider asked.provider) (same_currency key.currency asked.currency && (key.period == asked.period)) all.1 in
    let two = both_are (same_currency key.currency asked.currency) (key.period == asked.period) three.1 in
    let between = between_alike key.operator asked.operator key.provider asked.provider key.currency asked.currency all.0 three.0 two.0 in
    let period : key.period ≡ asked.period = (Decides-eqb key.period asked.period).0 two.1 in
    λ i. sum_with (between i) (obligations (period i) entries)

same_or_old : (b : Bool) (kept old : Option ℤ) (amount : ℤ) → (b ≡ true → kept ≡ old)
    → cond b (Some (unwrap_or kept (pos 0) +ℤ amount)) old ≡ cond b (Some (unwrap_or old (pos 0) +ℤ amount)) old
same_or_old true kept old amount same = ap (λ o. Some (unwrap_or o (pos 0) +ℤ amount)) (same refl)
same_or_old false kept old amount same = refl

pub sum_added : (asked : SumKey) (entries : List BookEntry) (entry : BookEntry) (x : Booked) → x ∷ [] ≡ booked_in entry
    → cond (same_sum_key (sum_key_of x) asked) (Some (unwrap_or (sum_among (sum_key_of x) (obligations x.period entries)) (pos 0) +ℤ x.amount)) (sum_among asked (obligations asked.period entries))
    ≡ sum_among asked (obligations asked.period (entries ++ entry ∷ []))
sum_added asked entries entry x h =
    same_or_old (same_sum_key (sum_key_of x) asked) (sum_among (sum_key_of x) (obligations x.period entries)) (sum_among asked (obligations asked.period entries)) x.amount
    (sum_alike (sum_key_of x) asked entries) ∙ sym (sum_more asked entries entry x h)

-- ---- how large

pub sum_fits : (key : SumKey) (entries : List BookEntry) (o : Option ℤ) → o ≡ sum_among key (obligations key.period entries)
    → total_size (obligations key.period entries) ≤ 10 ^ 12 * length entries → length entries < 2 ^ 64 → unsigned_abs (unwrap_or o (pos 0)) < 2 ^ 126
sum_fits key entries o is small few =
    let os = obligations key.period entries in
    let p = is_between key.operator key.provider key.currency in
    let sum : unwrap_or o (pos 0) ≡ sum_of p os = ap (λ (q : Option ℤ). unwrap_or q (pos 0)) is ∙ sum_or_zero p os in
    let size : unsigned_abs (unwrap_or o (pos 0)) ≡ unsigned_abs (sum_of p os) = ap unsigned_abs sum in
    let most = sum_of_small p os in
    omega arith

due_small : (period : ℕ) (x : Booked) → unsigned_abs x.amount ≤ 10 ^ 12 → (b : Bool) → total_size (cond b (obligation_of x ∷ []) []) ≤ 10 ^ 12
due_small period x small true = omega arith
due_small period x small false = omega arith

pub still_small : (period : ℕ) (entries : List BookEntry) (entry : BookEntry) (x : Booked) → x ∷ [] ≡ booked_in entry → unsigned_abs x.amount ≤ 10 ^ 12
    → total_size (obligations period entries) ≤ 10 ^ 12 * length entries → total_size (obligations period (entries ++ entry ∷ [])) ≤ 10 ^ 12 * length (entries ++ entry ∷ [])
still_small period entries entry x h small before =
    let one = cond (x.period == period) (obligation_of x ∷ []) [] in
    let is : total_size (obligations period (entries ++ entry ∷ [])) ≡ total_size (obligations period entries) + total_size one =
    ap total_size (due_more period entries entry ∙ ap (λ l. obligations period entries ++ l) (due_one period entry x h)) ∙ sum_by-append size (obligations period entries) one in
    let most = due_small period x small (x.period == period) in
    let len : length (entries ++ entry ∷ []) ≡ length entries + 1 = omega (arith, length-append entries (entry ∷ [])) in
    omega arith

pub small_as_before : (period : ℕ) (entries : List BookEntry) (entry : BookEntry) → [] ≡ booked_in entry
    → total_size (obligations period entries) ≤ 10 ^ 12 * length entries → total_size (obligations period (entries ++ entry ∷ [])) ≤ 10 ^ 12 * length (entries ++ entry ∷ [])
small_as_before period entries entry h before =
    let is = ap total_size (nothing_due period entries entry h) in
    let len : length (entries ++ entry ∷ []) ≡ length entries + 1 = omega (arith, length-append entries (entry ∷ [])) in
    omega arith
