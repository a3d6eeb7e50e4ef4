-- The lists of records, one event after another.
use Rattle.std.proofs.Common.{◌≡◌, ℕ, zero, suc, ◌+◌, ◌<◌, ◌≤◌, ◌==◌, Bool, true, false, if◌then◌else◌, List, [], ◌∷◌, ◌++◌, length, take, map, get_or, slice_index_or, slice_set, pos, refl, sym, ap, ap₂, ◌∙◌, arith, append-nil}
use Rattle.std.proofs.lemmas.Bool.Decides.{nat_tests}
use Rattle.std.proofs.lemmas.Grind.{flat_map-append}
use Rattle.std.proofs.lemmas.List.{length-map, take_more}
use Rattle.ocpi_types.specs.declared.cdr.Cdr.{Cdr}
use Rattle.ocpi_types.specs.declared.config.Config.{Config}
use Rattle.ocpi_types.specs.declared.config.Operator.{Operator}
use Rattle.plain_house.specs.declared.event.Event.{Event}
use Rattle.plain_house.specs.declared.event.Event.TheVariants as event
use Rattle.period_order.specs.Places.{operator_number}
use Rattle.re_rating.specs.declared.records.Record.{Record}
use Rattle.re_rating.specs.Differences.{differences}
use Rattle.clear_cli.specs.Differences.{count_from, record_in, records_of}
use Rattle.clear_cli.specs.Inner.RecordLists.{added_at, count_lists, no_lists, record_lists, with_event}

-- ---- no events

first_and_last : (n : ℕ) → ([] ∷ no_lists n) ≡ no_lists n ++ [] ∷ []
first_and_last zero = refl
first_and_last (suc n) = ap (λ (l : List (List Record)). l ++ [] ∷ []) (first_and_last n)

pub no_events : (config : Config) (k : ℕ) (operators : List Operator) → no_lists (length operators) ≡ record_lists config [] k operators
no_events config k [] = refl
no_events config k (operator ∷ operators) =
    sym (first_and_last (length operators)) ∙ ap (λ (l : List (List Record)). [] ∷ l) (no_events config (suc k) operators)

-- ---- one event more

module _ (config : Config) (before : List Event) (e : Event) where
  behind : (k : ℕ) → records_of config k (before ++ e ∷ []) ≡ records_of config k before ++ record_in config k e
  behind k = flat_map-append (record_in config k) before (e ∷ []) ∙ ap (λ (l : List Record). records_of config k before ++ l) (append-nil (record_in config k e))

  still : (k : ℕ) → record_in config k e ≡ [] → records_of config k before ≡ records_of config k (before ++ e ∷ [])
  still k none = sym (behind k ∙ ap (λ (l : List Record). records_of config k before ++ l) none ∙ append-nil (records_of config k before))

  unchanged : (k : ℕ) (operators : List Operator) → ((m : ℕ) → k ≤ m → record_in config m e ≡ []) →
      record_lists config before k operators ≡ record_lists config (before ++ e ∷ []) k operators
  unchanged k [] none = refl
  unchanged k (operator ∷ operators) none =
      ap₂ (λ (x : List Record) (xs : List (List Record)). x ∷ xs) (still k (none k (omega arith)))
      (unchanged (suc k) operators (λ m more. none m (omega (arith, more))))

different : (a b : ℕ) → (a ≡ b → ⊥) → (a == b) ≡ false
different a b unequal = grind (arith, nat_tests)

same : (a : ℕ) → (a == a) ≡ true
same a = grind (arith, nat_tests)

module _ (config : Config) (before : List Event) (cdr : Cdr) (cost : ℕ) where
  abbrev this : Event
  this = event.Cdr cdr cost

  abbrev booking : Record
  booking = record { cdr = cdr; booked = pos cost }

  other : (m : ℕ) → (operator_number config cdr.operator ≡ m → ⊥) → record_in config m this ≡ []
  other m unequal = ap (λ (t : Bool). if t then booking ∷ [] else []) (different (operator_number config cdr.operator) m unequal)

  own : (m : ℕ) → operator_number config cdr.operator ≡ m → record_in config m this ≡ booking ∷ []
  own m is = ap (λ (n : ℕ). if n == m then booking ∷ [] else []) is ∙ ap (λ (t : Bool). if t then booking ∷ [] else []) (same m)

  one_more : (k n : ℕ) (operators : List Operator) → operator_number config cdr.operator ≡ k + n →
      added_at n booking (record_lists config before k operators) ≡ record_lists config (before ++ this ∷ []) k operators
  one_more k zero [] is = refl
  one_more k (suc n) [] is = refl
  one_more k zero (operator ∷ operators) is =
      ap₂ (λ (x : List Record) (xs : List (List Record)). x ∷ xs)
      (sym (behind config before this k ∙ ap (λ (l : List Record). records_of config k before ++ l) (own k (omega (arith, is)))))
      (unchanged config before this (suc k) operators (λ m more. other m (λ equal. omega (arith, is, equal, more))))
  one_more k (suc n) (operator ∷ operators) is =
      ap₂ (λ (x : List Record) (xs : List (List Record)). x ∷ xs)
      (still config before this k (other k (λ equal. omega (arith, is, equal))))
      (one_more (suc k) n operators (omega (arith, is)))

one_event : (config : Config) (before : List Event) (e : Event) (operators : List Operator) →
    with_event config e (record_lists config before 0 operators) ≡ record_lists config (before ++ e ∷ []) 0 operators
one_event config before (event.Tariff tariff) operators = unchanged config before (event.Tariff tariff) 0 operators (λ m more. refl)
one_event config before (event.Token token) operators = unchanged config before (event.Token token) 0 operators (λ m more. refl)
one_event config before (event.Authorised hold) operators = unchanged config before (event.Authorised hold) 0 operators (λ m more. refl)
one_event config before (event.Released release) operators = unchanged config before (event.Released release) 0 operators (λ m more. refl)
one_event config before (event.Cdr cdr cost) operators = one_more config before cdr cost 0 (operator_number config cdr.operator) operators (omega arith)
one_event config before (event.Credit cdr amount) operators = unchanged config before (event.Credit cdr amount) 0 operators (λ m more. refl)
one_event config before (event.Settled settlement) operators = unchanged config before (event.Settled settlement) 0 operators (λ m more. refl)
one_event config before (event.Closed period) operators = unchanged config before (event.Closed period) 0 operators (λ m more. refl)

pub one_event_more : (config : Config) (events : List Event) (place : ℕ) (d e : Event) → e ≡ get_or events place d → place < length events →
    with_event config e (record_lists config (take place events) 0 config.operators) ≡ record_lists config (take (place + 1) events) 0 config.operators
one_event_more config events place d e is within =
    one_event config (take place events) e config.operators
    ∙ ap (λ (l : List Event). record_lists config l 0 config.operators)
    (ap (λ (x : Event). take place events ++ x ∷ []) is ∙ sym (take_more events place d within))

-- ---- the count

pub counted_lists : (config : Config) (events : List Event) (k : ℕ) (operators : List Operator) →
    count_lists operators (record_lists config events k operators) ≡ count_from config events k operators
counted_lists config events k [] = refl
counted_lists config events k (operator ∷ operators) =
    ap (λ (n : ℕ). length (differences operator.zone (records_of config k events)) + n) (counted_lists config events (suc k) operators)

lengths : (config : Config) (events : List Event) (k : ℕ) (operators : List Operator) → length operators ≡ length (record_lists config events k operators)
lengths config events k [] = refl
lengths config events k (operator ∷ operators) = ap (λ (n : ℕ). suc n) (lengths config events (suc k) operators)

pub one_list_more : {L : Type 0} (items : L → List Record) (operators : List Operator) (lists : List L) (i : ℕ) (d : Operator) (e : L) (operator : Operator) (list : L) →
    operator ≡ get_or operators i d → list ≡ get_or lists i e → i < length operators → length operators ≡ length lists →
    count_lists (take (i + 1) operators) (map items (take (i + 1) lists)) ≡ count_lists (take i operators) (map items (take i lists)) + length (differences operator.zone (items list))
one_list_more {L = L} items operators lists i d e operator list is same within equal =
    let next : i + 1 ≡ suc i = omega arith in
    ap (λ (n : ℕ). count_lists (take n operators) (map items (take n lists))) next ∙ one items operators lists i d e within equal
    ∙ ap₂ (λ (x : Operator) (y : L). count_lists (take i operators) (map items (take i lists)) + length (differences x.zone (items y))) (sym is) (sym same)
  where
    one : {L : Type 0} (items : L → List Record) (operators : List Operator) (lists : List L) (i : ℕ) (d : Operator) (e : L) → i < length operators → length operators ≡ length lists →
        count_lists (take (suc i) operators) (map items (take (suc i) lists)) ≡ count_lists (take i operators) (map items (take i lists)) + length (differences (get_or operators i d).zone (items (get_or lists i e)))
    one items [] lists i d e within equal = absurd (omega (arith, within))
    one items (operator ∷ operators) [] i d e within equal = absurd (omega (arith, equal))
    one items (operator ∷ operators) (list ∷ lists) zero d e within equal = omega arith
    one items (operator ∷ operators) (list ∷ lists) (suc i) d e within equal =
        let rest = one items operators lists i d e (omega (arith, within)) (omega (arith, equal)) in omega (arith, rest)

pub same_length : {L : Type 0} (items : L → List Record) (config : Config) (events : List Event) (lists : List L) (operators : List Operator) →
    map items lists ≡ record_lists config events 0 operators → length operators ≡ length lists
same_length items config events lists operators are = lengths config events 0 operators ∙ sym (ap length are) ∙ length-map lists items

-- ---- one list in its place

module _ {L : Type 0} (items : L → List Record) (booking : Record) where
  pub put_at : (lists : List L) (n : ℕ) (old new : L) → n < length lists → old ≡ slice_index_or lists n old → items new ≡ items old ++ booking ∷ [] →
      map items (slice_set lists n new) ≡ added_at n booking (map items lists)
  put_at [] n old new within is one = absurd (omega (arith, within))
  put_at (list ∷ lists) zero old new within is one = ap (λ (l : List Record). l ∷ map items lists) (one ∙ ap (λ (v : L). items v ++ booking ∷ []) is)
  put_at (list ∷ lists) (suc n) old new within is one = ap (λ (l : List (List Record)). items list ∷ l) (put_at lists n old new (omega (arith, within)) is one)

  pub none_at : (lists : List L) (n : ℕ) → length lists ≤ n → map items lists ≡ added_at n booking (map items lists)
  none_at [] n beyond = nothing n where
    nothing : (n : ℕ) → [] ≡ added_at n booking []
    nothing n = refl
  none_at (list ∷ lists) zero beyond = absurd (omega (arith, beyond))
  none_at (list ∷ lists) (suc n) beyond = ap (λ (l : List (List Record)). items list ∷ l) (none_at lists n (omega (arith, beyond)))
