-- What books are owed, book by book, is what their events oblige to.
use Rattle.std.proofs.Common.{◌≡◌, ◌≤◌, ◌&&◌, ◌||◌, ℕ, Bool, true, false, cond, not, List, [], ◌∷◌, ◌++◌, map, filter, Some, is_some, refl, sym, ap, ap₂, subst, ◌∙◌, arith}
use Rattle.std.specs.List.{list_all, list_any}
use Rattle.std.proofs.lemmas.List.Filters.{sum_by-filter_both}
use Rattle.std.proofs.lemmas.List.Folds.{list_all-append}
use Rattle.std.proofs.lemmas.List.Sums.{sum_by-append}
use Rattle.ocpi_types.specs.declared.config.Config.{Config}
use Rattle.ocpi_types.specs.declared.config.Operator.{Operator}
use Rattle.ocpi_types.specs.declared.party.Party.{Party}
use Rattle.ocpi_types.specs.Config.{alike_operators, is_operator, operator_among}
use Rattle.ocpi_types.specs.Different.{all_different}
use Rattle.ocpi_types.specs.Party.{same_party}
use Rattle.netting_positions.specs.declared.obligation.Obligation.{Obligation}
use Rattle.netting_positions.specs.Netting.{is_among, is_configured, parties, size, total_size}
use Rattle.netting_positions.specs.SameSums.{OperatorsOweAlike, OweAlike, by_operator}
use Rattle.operator_book.specs.Due.{due, is_of_provider}
use Rattle.plain_house.specs.declared.entry.BookEntry.{BookEntry}
use Rattle.plain_house.specs.declared.entry.BookEntry.TheVariants as book
use Rattle.plain_house.specs.declared.event.Event.{Event}
use Rattle.plain_house.specs.Booked.{Booked, booked}
use Rattle.plain_house.specs.Entries.{book_entries}
use Rattle.plain_house.specs.LegalLists.{CanBeNetted}
use Rattle.plain_house.specs.Obligations.{is_of_period, obligation_of, obligations}
use Rattle.plain_house.specs.Own.{own_book}
use Rattle.period_order.specs.Dues.{AreCollectable, CanBeCollected, dues}
use Rattle.period_order.specs.Resolved.{books_of}
use Rattle.period_order.proofs.PartyLemmas.{both_are, party_along, party_symmetric}

-- ---- an operator's own book

module _ (operator : Party) (period : ℕ) where
  abbrev is_to : Obligation → Bool
  is_to obligation = same_party obligation.operator operator

  abbrev owed : List Booked → List Obligation
  owed found = filter is_to (map obligation_of (filter (is_of_period period) found))

  -- one CDR more
  with_one : (one : Booked) (rest : List Booked) → owed (one ∷ rest) ≡ cond (is_of_period period one && same_party one.cdr.operator operator) (obligation_of one ∷ owed rest) (owed rest)
  with_one one rest = by (is_of_period period one)
    where
      by : (b : Bool) → filter is_to (map obligation_of (cond b (one ∷ filter (is_of_period period) rest) (filter (is_of_period period) rest)))
          ≡ cond (b && same_party one.cdr.operator operator) (obligation_of one ∷ owed rest) (owed rest)
      by true = refl
      by false = refl

  -- one of another operator is passed over
  passed_over : (one : Booked) (own others : List Booked) → owed own ≡ owed others → same_party one.cdr.operator operator ≡ false → owed own ≡ owed (one ∷ others)
  passed_over one own others same other = same ∙ sym (with_one one others ∙ by (is_of_period period one))
    where
      by : (b : Bool) → cond (b && same_party one.cdr.operator operator) (obligation_of one ∷ owed others) (owed others) ≡ owed others
      by true = ap (λ b. cond b (obligation_of one ∷ owed others) (owed others)) other
      by false = refl

  kept_one : (one : Booked) (own others : List Booked) → owed own ≡ owed others → owed (one ∷ own) ≡ owed (one ∷ others)
  kept_one one own others same =
      with_one one own ∙ ap (λ l. cond (is_of_period period one && same_party one.cdr.operator operator) (obligation_of one ∷ l) l) same ∙ sym (with_one one others)

  -- is due by its own book
  pub own_due : (entries : List BookEntry) → due operator period (own_book operator entries) ≡ due operator period entries
  own_due [] = refl
  own_due (book.Tariff tariff ∷ entries) = by (same_party tariff.operator operator) (own_due entries)
    where
      by : (b : Bool) → due operator period (own_book operator entries) ≡ due operator period entries
          → due operator period (cond b (book.Tariff tariff ∷ own_book operator entries) (own_book operator entries)) ≡ due operator period entries
      by true rest = rest
      by false rest = rest
  own_due (book.Cdr cdr cost at ∷ entries) = by (same_party cdr.operator operator) refl (own_due entries)
    where
      by : (b : Bool) → same_party cdr.operator operator ≡ b → due operator period (own_book operator entries) ≡ due operator period entries
          → due operator period (cond b (book.Cdr cdr cost at ∷ own_book operator entries) (own_book operator entries)) ≡ due operator period (book.Cdr cdr cost at ∷ entries)
      by true e rest = kept_one _ (booked (own_book operator entries)) (booked entries) rest
      by false e rest = passed_over _ (booked (own_book operator entries)) (booked entries) rest e
  own_due (book.Credit cdr amount at ∷ entries) = by (same_party cdr.operator operator) refl (own_due entries)
    where
      by : (b : Bool) → same_party cdr.operator operator ≡ b → due operator period (own_book operator entries) ≡ due operator period entries
          → due operator period (cond b (book.Credit cdr amount at ∷ own_book operator entries) (own_book operator entries)) ≡ due operator period (book.Credit cdr amount at ∷ entries)
      by true e rest = kept_one _ (booked (own_book operator entries)) (booked entries) rest
      by false e rest = passed_over _ (booked (own_book operator entries)) (booked entries) rest e

-- ---- all operators

abbrev parties_of : List Operator → List Party
parties_of operators = map (λ operator. operator.party) operators

dues_are : (operators : List Operator) (period : ℕ) (entries : List BookEntry)
    → dues operators period (map (λ operator. own_book operator.party entries) operators) ≡ by_operator (parties_of operators) (obligations period entries)
dues_are [] period entries = refl
dues_are (operator ∷ operators) period entries =
    ap₂ (λ (l m : List Obligation). l ++ m) (own_due operator.party period entries) (dues_are operators period entries)

-- what holds of all obligations holds of each operator's
filter_passes : (p q : Obligation → Bool) (os : List Obligation) → list_all p os ≡ true → list_all p (filter q os) ≡ true
filter_passes p q [] h = refl
filter_passes p q (o ∷ os) h = let parts = both_are (p o) (list_all p os) h in by (q o) parts.0 (filter_passes p q os parts.1)
  where
    by : (b : Bool) → p o ≡ true → list_all p (filter q os) ≡ true → list_all p (cond b (o ∷ filter q os) (filter q os)) ≡ true
    by true first rest = ap₂ ◌&&◌ first rest
    by false first rest = rest

all_pass : (p : Obligation → Bool) (operators : List Party) (os : List Obligation) → list_all p os ≡ true → list_all p (by_operator operators os) ≡ true
all_pass p [] os h = refl
all_pass p (x ∷ xs) os h =
    list_all-append p (filter (λ o. same_party o.operator x) os) (by_operator xs os)
    ∙ ap₂ ◌&&◌ (filter_passes p (λ o. same_party o.operator x) os h) (all_pass p xs os h)

-- ---- how large it is together

-- obligations to `x` are not to another
others_kept : (x y : Party) (os : List Obligation) → same_party x y ≡ false
    → filter (λ o. same_party o.operator y) os ≡ filter (λ o. same_party o.operator y) (filter (λ o. not (same_party o.operator x)) os)
others_kept x y [] other = refl
others_kept x y (o ∷ os) other = by (same_party o.operator x) refl (others_kept x y os other)
  where
    not_to : same_party o.operator x ≡ true → same_party o.operator y ≡ false
    not_to is = party_symmetric o.operator y ∙ party_along y o.operator x is ∙ party_symmetric y x ∙ other

    by : (b : Bool) → same_party o.operator x ≡ b
        → filter (λ o. same_party o.operator y) os ≡ filter (λ o. same_party o.operator y) (filter (λ o. not (same_party o.operator x)) os)
        → filter (λ o. same_party o.operator y) (o ∷ os) ≡ filter (λ o. same_party o.operator y) (cond (not b) (o ∷ filter (λ o. not (same_party o.operator x)) os) (filter (λ o. not (same_party o.operator x)) os))
    by true is rest = ap (λ b. cond b (o ∷ filter (λ o. same_party o.operator y) os) (filter (λ o. same_party o.operator y) os)) (not_to is) ∙ rest
    by false is rest = ap (λ l. cond (same_party o.operator y) (o ∷ l) l) rest

all_kept : (x : Party) (xs : List Party) (os : List Obligation) → list_any (same_party x) xs ≡ false
    → by_operator xs os ≡ by_operator xs (filter (λ o. not (same_party o.operator x)) os)
all_kept x [] os none = refl
all_kept x (y ∷ ys) os none =
    let parts = neither (same_party x y) (list_any (same_party x) ys) none in
    ap₂ (λ (l m : List Obligation). l ++ m) (others_kept x y os parts.0) (all_kept x ys os parts.1)
  where
    neither : (a b : Bool) → (a || b) ≡ false → (a ≡ false) × (b ≡ false)
    neither true b h = absurd (cc)
    neither false b h = (refl, h)

-- together no more than all
sizes_least : (operators : List Party) (os : List Obligation) → all_different same_party operators ≡ true → total_size (by_operator operators os) ≤ total_size os
sizes_least [] os different = omega arith
sizes_least (x ∷ xs) os different =
    let parts = both_are (not (list_any (same_party x) xs)) (all_different same_party xs) different in
    let none : list_any (same_party x) xs ≡ false = is_not (list_any (same_party x) xs) parts.0 in
    let rest : total_size (by_operator xs os) ≤ total_size (filter (λ o. not (same_party o.operator x)) os) =
    subst (λ l. total_size l ≤ total_size (filter (λ o. not (same_party o.operator x)) os)) (sym (all_kept x xs os none)) (sizes_least xs (filter (λ o. not (same_party o.operator x)) os) parts.1) in
    let both = sum_by-filter_both (λ (o : Obligation). same_party o.operator x) (λ (o : Obligation). not (same_party o.operator x)) (λ o. refl) size os in
    omega (arith, rest, both, sum_by-append size (filter (λ o. same_party o.operator x) os) (by_operator xs os))
  where
    is_not : (b : Bool) → not b ≡ true → b ≡ false
    is_not true h = absurd (cc)
    is_not false h = refl

-- ---- a configuration's operators

different_parties : (operators : List Operator) → all_different alike_operators operators ≡ true → all_different same_party (parties_of operators) ≡ true
different_parties [] h = refl
different_parties (x ∷ xs) h =
    let parts = both_are (not (list_any (alike_operators x) xs)) (all_different alike_operators xs) h in
    ap₂ ◌&&◌ (ap not (any_of xs) ∙ parts.0) (different_parties xs parts.1)
  where
    any_of : (ys : List Operator) → list_any (same_party x.party) (parties_of ys) ≡ list_any (alike_operators x) ys
    any_of [] = refl
    any_of (y ∷ ys) = ap (λ b. same_party x.party y.party || b) (any_of ys)

found_among : (operators : List Operator) (party : Party) → is_some (operator_among operators party) ≡ is_among (parties_of operators) party
found_among [] party = refl
found_among (x ∷ xs) party = by (same_party x.party party) (found_among xs party)
  where
    by : (b : Bool) → is_some (operator_among xs party) ≡ is_among (parties_of xs) party
        → is_some (cond b (Some x) (operator_among xs party)) ≡ (b || is_among (parties_of xs) party)
    by true rest = refl
    by false rest = rest

all_agree : (p q : Obligation → Bool) → ((o : Obligation) → p o ≡ q o) → (os : List Obligation) → list_all p os ≡ list_all q os
all_agree p q same [] = refl
all_agree p q same (o ∷ os) = ap₂ ◌&&◌ (same o) (all_agree p q same os)

-- ---- all books

module _ (config : Config) (events : List Event) (different : all_different alike_operators config.operators ≡ true) (netted : CanBeNetted config (book_entries events)) where
  abbrev obliged : ℕ → List Obligation
  obliged period = obligations period (book_entries events)

  abbrev operators : List Party
  operators = parties_of config.operators

  collected : (period : ℕ) → CanBeCollected config (by_operator operators (obliged period))
  collected period = record {
    known = record {
      providers = all_pass (is_of_provider config) operators (obliged period) (netted.providers period);
      configured = all_pass (is_configured (parties config) config.currencies) operators (obliged period) (netted.configured period);
    };
    fits = let least = sizes_least operators (obliged period) (different_parties config.operators different) in
        let fits = netted.fits period in
        omega (arith, least, fits);
  }

  alike : OperatorsOweAlike → (period : ℕ) → OweAlike (by_operator operators (obliged period)) (obliged period)
  alike law period =
      law operators (obliged period) (different_parties config.operators different)
      (sym (all_agree (λ o. is_operator config o.operator) (λ o. is_among operators o.operator) (λ o. found_among config.operators o.operator) (obliged period)) ∙ netted.operators period)

  pub are_collectable : OperatorsOweAlike → (books : List (List BookEntry)) → books ≡ books_of config events → AreCollectable config books events
  are_collectable law books is = record {
    can_be = λ period. subst (CanBeCollected config) (sym (all_dues period)) (collected period);
    alike = λ period. subst (λ l. OweAlike l (obliged period)) (sym (all_dues period)) (alike law period);
  }
    where
      all_dues : (period : ℕ) → dues config.operators period books ≡ by_operator operators (obliged period)
      all_dues period = ap (dues config.operators period) is ∙ dues_are config.operators period (book_entries events)
