-- What is owed of a settlement, by its debts and Credit CDRs, and by the statement.
use Rattle.std.proofs.Common.{◌≡◌, ◌+◌, ◌==◌, ℕ, ℤ, pos, List, [], ◌∷◌, Bool, true, false, not, cond, ◌&&◌, filter, map, refl, sym, ap, ◌∙◌, arith}
use Rattle.std.specs.Prelude.{◌+ℤ◌, flat_map}
use Rattle.std.proofs.lemmas.Int.{ints}
use Rattle.std.proofs.lemmas.List.Sums.{sum_by-cons}
use Rattle.ocpi_types.specs.Currency.{same_currency}
use Rattle.ocpi_types.specs.Party.{same_party}
use Rattle.cdr_checks.specs.declared.request.Settlement.{Settlement}
use Rattle.netting_positions.specs.declared.obligation.Obligation.{Obligation}
use Rattle.netting_positions.specs.Netting.{amounts, total}
use Rattle.netting_positions.specs.Statement.{is_payable_of, payable_of}
use Rattle.plain_house.specs.declared.entry.AccountEntry.TheVariants as account
use Rattle.plain_house.specs.declared.entry.Charge.{Charge}
use Rattle.plain_house.specs.declared.entry.Credit.{Credit}
use Rattle.plain_house.specs.declared.event.Event.{Event}
use Rattle.plain_house.specs.declared.event.Event.TheVariants as event
use Rattle.plain_house.specs.Entries.{account_entries, account_entries_from, charge_of, credit_of}
use Rattle.plain_house.specs.Exposure.{charges, ends_debt, is_owed, total_charged}
use Rattle.house_reports.specs.declared.balances.booking.Booking.{Booking}
use Rattle.house_reports.specs.declared.balances.row.RowKey.{RowKey}
use Rattle.house_reports.specs.balances.Balances.{is_of, owed}
use Rattle.house_reports.specs.balances.Bookings.{booking_of, bookings, bookings_from, settles}
use Rattle.house_reports.specs.balances.Laws.{NetIsOfDebts, OwedIsPayable, credit_in, is_credit_of, is_in, obligation_of}
use Rattle.house_reports.proofs.balances.ListLemmas.{filter-filter, filter_alike}
use Rattle.house_reports.proofs.balances.ObligationLemmas.{are_obligations}

-- ---- debts

abbrev credits_total : List Credit → ℤ
credits_total credits = total (map (λ credit. credit.amount) credits)

one_debt : (a t z : ℤ) (m n k l : ℕ) → a ≡ pos k → t ≡ (pos (m + n) +ℤ z) → l ≡ k + m → (a +ℤ t) ≡ (pos (l + n) +ℤ z)
one_debt a t z m n k l is later sum = omega (arith, ints, is, later, sum)

one_ended : (a t z : ℤ) (m n k l : ℕ) → a ≡ pos k → t ≡ (pos (m + n) +ℤ z) → l ≡ k + n → (a +ℤ t) ≡ (pos (m + l) +ℤ z)
one_ended a t z m n k l is later sum = omega (arith, ints, is, later, sum)

one_credit : (a b t z : ℤ) (n : ℕ) → a ≡ b → t ≡ (pos n +ℤ z) → (a +ℤ t) ≡ (pos n +ℤ (b +ℤ z))
one_credit a b t z n is later = omega (arith, ints, is, later)

charge_step : (b : Booking) (charge : Charge) (bs : List Booking) (xs ys : List Charge) (z : ℤ) (its is_owed : Bool) → b.amount ≡ pos charge.cost
    → owed bs ≡ (pos (total_charged xs + total_charged ys) +ℤ z)
    → owed (cond its (b ∷ bs) bs) ≡ (pos (total_charged (cond (its && is_owed) (charge ∷ xs) xs) + total_charged (cond (its && not is_owed) (charge ∷ ys) ys)) +ℤ z)
charge_step b charge bs xs ys z false is_owed amount later = later
charge_step b charge bs xs ys z true true amount later =
    one_debt b.amount (owed bs) z (total_charged xs) (total_charged ys) charge.cost (total_charged (charge ∷ xs)) amount later (sum_by-cons (λ x. x.cost) charge xs)
charge_step b charge bs xs ys z true false amount later =
    one_ended b.amount (owed bs) z (total_charged xs) (total_charged ys) charge.cost (total_charged (charge ∷ ys)) amount later (sum_by-cons (λ x. x.cost) charge ys)

credit_step : (b : Booking) (credit : Credit) (bs : List Booking) (cs : List Credit) (n : ℕ) (its : Bool) → b.amount ≡ credit.amount
    → owed bs ≡ (pos n +ℤ credits_total cs) → owed (cond its (b ∷ bs) bs) ≡ (pos n +ℤ credits_total (cond its (credit ∷ cs) cs))
credit_step b credit bs cs n false amount later = later
credit_step b credit bs cs n true amount later = one_credit b.amount credit.amount (owed bs) (credits_total cs) n amount later

module _ (settlement : Settlement) (is_owed : Charge → Bool) where
  abbrev ends : Charge → Bool
  ends charge = ends_debt charge (account.Settlement settlement)

  abbrev left : ℕ → List Event → List Charge
  left period events = filter (λ charge. ends charge && is_owed charge) (charges (account_entries_from period events))

  abbrev ended : ℕ → List Event → List Charge
  ended period events = filter (λ charge. ends charge && not (is_owed charge)) (charges (account_entries_from period events))

  abbrev taken_back : ℕ → List Event → List Credit
  taken_back period events = filter (is_credit_of settlement) (flat_map credit_in (account_entries_from period events))

  net_of : (period : ℕ) (events : List Event)
      → owed (filter (settles settlement) (bookings_from period events))
      ≡ (pos (total_charged (left period events) + total_charged (ended period events)) +ℤ credits_total (taken_back period events))
  net_of period [] = refl
  net_of period (event.Tariff tariff ∷ later) = net_of period later
  net_of period (event.Token token ∷ later) = net_of period later
  net_of period (event.Authorised hold ∷ later) = net_of period later
  net_of period (event.Released release ∷ later) = net_of period later
  net_of period (event.Cdr cdr cost ∷ later) =
      let charge = charge_of cdr cost period in
      charge_step (booking_of cdr (pos cost) period) charge (filter (settles settlement) (bookings_from period later)) (left period later) (ended period later)
      (credits_total (taken_back period later)) (ends charge) (is_owed charge) refl (net_of period later)
  net_of period (event.Credit cdr amount ∷ later) =
      let credit = credit_of cdr amount period in
      credit_step (booking_of cdr amount period) credit (filter (settles settlement) (bookings_from period later)) (taken_back period later)
      (total_charged (left period later) + total_charged (ended period later)) (is_credit_of settlement credit) refl (net_of period later)
  net_of period (event.Settled other ∷ later) = net_of period later
  net_of period (event.Closed closed ∷ later) = net_of (period + 1) later

pub is_of_debts : NetIsOfDebts
is_of_debts events settlement = net_of settlement (is_owed (account_entries events)) 0 events

-- ---- the statement

in_order : (a b c d : Bool) → (a && b && c && d) ≡ (a && (b && d && c))
in_order true true true d = by d
  where
    by : (d : Bool) → d ≡ (d && true)
    by true = refl
    by false = refl
in_order true true false true = refl
in_order true true false false = refl
in_order true false c d = refl
in_order false b c d = refl

amounts_of : (p : Obligation → Bool) (bs : List Booking) → total (amounts (filter p (map obligation_of bs))) ≡ owed (filter (λ b. p (obligation_of b)) bs)
amounts_of p [] = refl
amounts_of p (b ∷ bs) = by (p (obligation_of b)) (amounts_of p bs)
  where
    by : (t : Bool) → total (amounts (filter p (map obligation_of bs))) ≡ owed (filter (λ x. p (obligation_of x)) bs)
        → total (amounts (cond t (obligation_of b ∷ filter p (map obligation_of bs)) (filter p (map obligation_of bs))))
        ≡ owed (cond t (b ∷ filter (λ x. p (obligation_of x)) bs) (filter (λ x. p (obligation_of x)) bs))
    by true later = ap (λ (n : ℤ). b.amount +ℤ n) later
    by false later = later

pub is_payable : OwedIsPayable
unfolding payable_of
is_payable events key =
    let pays : Obligation → Bool = is_payable_of key.provider (record { currency = key.currency; counterpart = key.operator }) in
    ap owed (filter_alike (is_of key) (λ b. is_in key.period b && pays (obligation_of b))
    (λ b. in_order (b.period == key.period) (same_currency b.currency key.currency) (same_party b.operator key.operator) (same_party b.provider key.provider)) (bookings events))
    ∙ sym (ap owed (filter-filter (λ b. pays (obligation_of b)) (is_in key.period) (bookings events)))
    ∙ sym (amounts_of pays (filter (is_in key.period) (bookings events)))
    ∙ ap (λ found. total (amounts (filter pays found))) (are_obligations events key.period)
