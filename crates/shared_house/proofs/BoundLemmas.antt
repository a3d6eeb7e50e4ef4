-- What a legal book owes an operator of a period is bounded.
use Rattle.std.proofs.Common.{◌≡◌, ◌≤◌, ◌+◌, ◌*◌, ◌^◌, ℕ, ℤ, pos, negsuc, neg_ℤ, unsigned_abs, zero, suc, List, [], ◌∷◌, ◌++◌, Bool, true, false, cond, nat_lt, if◌then◌else◌, refl, sym, ap, ◌∙◌, subst, arith, append_assoc, append-nil, Option, None, Some, option_and_then, find, filter, map, count_by, Ok, Err}
use Rattle.std.specs.List.{AllByRecursion}
use Rattle.std.proofs.lemmas.Bool.{ltb-false}
use Rattle.std.proofs.lemmas.List.Concat.{flat_map-append}
use Rattle.std.proofs.lemmas.List.Sums.{sum_by-cons}
use Rattle.ocpi_types.specs.declared.cdr.Cdr.{Cdr}
use Rattle.ocpi_types.specs.declared.config.Config.{Config}
use Rattle.ocpi_types.specs.declared.config.Operator.{Operator}
use Rattle.ocpi_types.specs.declared.party.Party.{Party}
use Rattle.ocpi_types.specs.Party.{same_party}
use Rattle.ocpi_types.specs.declared.refusal.Refusal.TheVariants.{AmountTooLarge, TariffNotGiven}
use Rattle.cdr_rating.specs.Pricing.{lacks_tariff}
use Rattle.cdr_rating.specs.Price.{price, rounded_amount}
use Rattle.netting_positions.specs.declared.obligation.Obligation.{Obligation}
use Rattle.netting_positions.specs.Netting.{size, total_size}
use Rattle.operator_book.specs.Due.{due}
use Rattle.plain_house.specs.declared.entry.BookEntry.{BookEntry}
use Rattle.plain_house.specs.declared.entry.BookEntry.TheVariants as book
use Rattle.plain_house.specs.Booked.{Booked, booked, booked_as, booked_in, has_id}
use Rattle.plain_house.specs.Full.{is_cdr_of}
use Rattle.plain_house.specs.LegalEntries.{IsLegalBook, LegalBooksAreCharged, LegalBooksAreTakenBack, LegalBooksHaveRoom}
use Rattle.plain_house.specs.LegalLists.{IsTakenBack}
use Rattle.plain_house.specs.Obligations.{is_of_period, obligation_of}
use Rattle.plain_house.specs.Posting.{original_of}
use Rattle.shared_house.specs.Inner.Collecting.{DuesAreBounded}

-- ---- a price

priced_at_most : (cdr : Cdr) (operator : Operator) (cost : ℕ) → price cdr operator.zone ≡ Ok (pos cost) → cost ≤ 10 ^ 12
unfolding price
priced_at_most cdr operator cost is = by (lacks_tariff cdr) (nat_lt 1_000_000_000_000 (rounded_amount cdr operator.zone)) refl is
  where
    by : (lacks large : Bool) → nat_lt 1_000_000_000_000 (rounded_amount cdr operator.zone) ≡ large
        → (if lacks then Err TariffNotGiven else (if large then Err AmountTooLarge else Ok (pos (rounded_amount cdr operator.zone)))) ≡ Ok (pos cost) → cost ≤ 10 ^ 12
    by true large e g = absurd (cc)
    by false true e g = absurd (cc)
    by false false e g =
        let same : rounded_amount cdr operator.zone ≡ cost = cc in
        let most : rounded_amount cdr operator.zone ≤ 1_000_000_000_000 = ltb-false 1_000_000_000_000 (rounded_amount cdr operator.zone) e in
        omega (arith, same, most)

-- ---- amounts

abbrev IsBounded : Booked → Type 0
IsBounded one = unsigned_abs one.amount ≤ 10 ^ 12

abbrev AreBounded : List Booked → Type 0
AreBounded found = AllByRecursion IsBounded found

abs_neg : (z : ℤ) → unsigned_abs (neg_ℤ z) ≡ unsigned_abs z
abs_neg (pos zero) = refl
abs_neg (pos (suc n)) = refl
abs_neg (negsuc n) = refl

found_bounded : (p : Booked → Bool) (xs : List Booked) (x : Booked) → AreBounded xs → find p xs ≡ Some x → IsBounded x
found_bounded p [] x all h = absurd (cc)
found_bounded p (y ∷ xs) x all h = by (p y) (found_bounded p xs x all.1) h
  where
    by : (b : Bool) → (find p xs ≡ Some x → IsBounded x) → cond b (Some y) (find p xs) ≡ Some x → IsBounded x
    by true rest g = let same : y ≡ x = cc in subst IsBounded same all.0
    by false rest g = rest g

original_bounded : (credit : Cdr) (entries : List BookEntry) (original : Booked) → AreBounded (booked entries) → original_of credit entries ≡ Some original → IsBounded original
original_bounded credit entries original all h = by credit.credit h
  where
    by : (o : Option (List ℕ)) → option_and_then (λ id. booked_as credit.operator id entries) o ≡ Some original → IsBounded original
    by None g = absurd (cc)
    by (Some id) g = found_bounded (has_id credit.operator id) (booked entries) original all g

all-append : (xs ys : List Booked) → AreBounded xs → AreBounded ys → AreBounded (xs ++ ys)
all-append [] ys all more = more
all-append (x ∷ xs) ys all more = (all.0, all-append xs ys all.1 more)

module _ (charged : LegalBooksAreCharged) (taken : LegalBooksAreTakenBack) (config : Config) where
  -- what an entry of a legal book books
  entry_bounded : (before : List BookEntry) (x : BookEntry) (rest : List BookEntry) → IsLegalBook config (before ++ x ∷ rest) → AreBounded (booked before) → AreBounded (booked_in x)
  entry_bounded before (book.Tariff tariff) rest legal all = tt
  entry_bounded before (book.Cdr cdr cost period) rest legal all =
      let right = charged config before rest cdr cost period legal in
      (priced_at_most cdr right.operator cost right.priced.1, tt)
  entry_bounded before (book.Credit cdr amount period) rest legal all = (credited (taken config before rest cdr amount period legal), tt)
    where
      credited : IsTakenBack config before period cdr amount → unsigned_abs amount ≤ 10 ^ 12
      credited right =
          subst (λ n. n ≤ 10 ^ 12) (sym (ap unsigned_abs right.negated ∙ abs_neg right.original.amount)) (original_bounded cdr before right.original all right.named)

  one_more : (before : List BookEntry) (x : BookEntry) → AreBounded (booked before) → AreBounded (booked_in x) → AreBounded (booked (before ++ x ∷ []))
  one_more before x all one =
      subst AreBounded (sym (flat_map-append booked_in before (x ∷ []))) (all-append (booked before) (booked_in x ++ []) all (subst AreBounded (sym (append-nil (booked_in x))) one))

  from : (before later : List BookEntry) → IsLegalBook config (before ++ later) → AreBounded (booked before) → AreBounded (booked (before ++ later))
  from before [] legal all = subst (λ l. AreBounded (booked l)) (sym (append-nil before)) all
  from before (x ∷ later) legal all =
      let same : (before ++ x ∷ []) ++ later ≡ before ++ x ∷ later = append_assoc before (x ∷ []) later in
      subst (λ l. AreBounded (booked l)) same
      (from (before ++ x ∷ []) later (subst (IsLegalBook config) (sym same) legal) (one_more before x all (entry_bounded before x later legal all)))

  pub amounts_bounded : (entries : List BookEntry) → IsLegalBook config entries → AreBounded (booked entries)
  amounts_bounded entries legal = from [] entries legal tt

-- ---- what is due

module _ (operator : Party) (period : ℕ) where
  abbrev is_to : Obligation → Bool
  is_to obligation = same_party obligation.operator operator

  abbrev owed : List Booked → List Obligation
  owed found = filter is_to (map obligation_of (filter (is_of_period period) found))

  -- with one CDR more
  size_with : (one : Booked) (rest : List Booked) (count : ℕ) → IsBounded one → total_size (owed rest) ≤ count * 10 ^ 12
      → total_size (owed (one ∷ rest)) ≤ (cond (same_party one.cdr.operator operator) 1 0 + count) * 10 ^ 12
  size_with one rest count bounded h = by (is_of_period period one) (same_party one.cdr.operator operator) refl
    where
      by : (b c : Bool) → same_party one.cdr.operator operator ≡ c
          → total_size (filter is_to (map obligation_of (cond b (one ∷ filter (is_of_period period) rest) (filter (is_of_period period) rest)))) ≤ (cond c 1 0 + count) * 10 ^ 12
      by true true e =
          let kept : filter is_to (obligation_of one ∷ map obligation_of (filter (is_of_period period) rest)) ≡ obligation_of one ∷ owed rest = ap (λ d. cond d (obligation_of one ∷ owed rest) (owed rest)) e in
          omega (arith, ap total_size kept, sum_by-cons size (obligation_of one) (owed rest), h, bounded)
      by true false e =
          let left : filter is_to (obligation_of one ∷ map obligation_of (filter (is_of_period period) rest)) ≡ owed rest = ap (λ d. cond d (obligation_of one ∷ owed rest) (owed rest)) e in
          omega (arith, ap total_size left, h)
      by false true e = omega (arith, h)
      by false false e = omega (arith, h)

  due_size : (entries : List BookEntry) → AreBounded (booked entries) → total_size (due operator period entries) ≤ count_by (is_cdr_of operator) entries * 10 ^ 12
  due_size [] all = omega arith
  due_size (book.Tariff tariff ∷ entries) all =
      omega (arith, due_size entries all, sum_by-cons (λ x. cond {A = ℕ} (is_cdr_of operator x) 1 0) (book.Tariff tariff) entries)
  due_size (book.Cdr cdr cost at ∷ entries) all =
      let one : Booked = record { cdr = cdr; amount = pos cost; period = at } in
      omega (
        arith,
        size_with one (booked entries) (count_by (is_cdr_of operator) entries) all.0 (due_size entries all.1),
        sum_by-cons (λ x. cond {A = ℕ} (is_cdr_of operator x) 1 0) (book.Cdr cdr cost at) entries,
      )
  due_size (book.Credit cdr amount at ∷ entries) all =
      let one : Booked = record { cdr = cdr; amount = amount; period = at } in
      omega (
        arith,
        size_with one (booked entries) (count_by (is_cdr_of operator) entries) all.0 (due_size entries all.1),
        sum_by-cons (λ x. cond {A = ℕ} (is_cdr_of operator x) 1 0) (book.Credit cdr amount at) entries,
      )

pub are_bounded : LegalBooksAreCharged → LegalBooksAreTakenBack → LegalBooksHaveRoom → DuesAreBounded
are_bounded charged taken room config operator period entries cdrs legal =
    let size = due_size operator period entries (amounts_bounded charged taken config entries legal) in
    let count = (room config entries operator legal).cdrs in
    omega (arith, size, count, cdrs)
