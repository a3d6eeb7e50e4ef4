-- A settlement settles all that is owed of its provider, currency and period, and nothing is booked of them after it.
use Rattle.std.proofs.Common.{◌≡◌, ◌<◌, ◌+◌, ◌==◌, ℕ, ℤ, pos, List, [], ◌∷◌, ◌++◌, Bool, true, false, cond, ◌&&◌, ◌||◌, filter, map, refl, sym, ap, ap₂, ◌∙◌, append-nil, arith, eqb-true}
use Rattle.std.specs.Prelude.{◌-ℤ◌, All, flat_map}
use Rattle.std.specs.List.{list_any}
use Rattle.std.proofs.lemmas.Bool.{eq-eqb}
use Rattle.std.proofs.lemmas.Cmp.{nat_list_eq_equiv}
use Rattle.std.proofs.lemmas.Int.{ints}
use Rattle.std.proofs.lemmas.List.Elements.{All-append, All-cons, All-nil, filter-append}
use Rattle.ocpi_types.specs.Currency.{same_currency}
use Rattle.ocpi_types.specs.Party.{same_party}
use Rattle.cdr_checks.specs.declared.request.Settlement.{Settlement}
use Rattle.netting_positions.proofs.SameParties.{both_are, same_party_equiv}
use Rattle.plain_house.specs.declared.event.Event.{Event}
use Rattle.plain_house.specs.declared.event.Event.TheVariants as event
use Rattle.plain_house.specs.Entries.{period_of}
use Rattle.plain_house.proofs.DatedLemmas.{around, period_of-push}
use Rattle.house_reports.specs.declared.balances.booking.Booking.{Booking}
use Rattle.house_reports.specs.declared.balances.row.Row.{Row}
use Rattle.house_reports.specs.declared.balances.row.RowKey.{RowKey}
use Rattle.house_reports.specs.balances.Balances.{is_of, owed, row_at, row_of, settled, sums_of}
use Rattle.house_reports.specs.balances.Bookings.{booking_in, booking_of, bookings, bookings_from, is_settled, settlement_in, settlements, settles}
use Rattle.house_reports.specs.balances.Laws.{IsSquare, SettledBookingsStay, SettledRowsAreSquare, SettlementsSquare, is_row_of}
use Rattle.house_reports.proofs.balances.LegalSettlements.{is_first}
use Rattle.house_reports.proofs.balances.ListLemmas.{filter-filter, filter_alike}

-- ---- the settlement settles its bookings

or_true : (b : Bool) → (b || true) ≡ true
or_true true = refl
or_true false = refl

true_or : (a b : Bool) → a ≡ true → (a || b) ≡ true
true_or true b h = refl
true_or false b h = absurd (cc)

is_among : (before later : List Event) (settlement : Settlement) (booking : Booking) → settles settlement booking ≡ true
    → is_settled (settlements (before ++ event.Settled settlement ∷ later)) booking ≡ true
is_among [] later settlement booking is = true_or (settles settlement booking) (is_settled (settlements later) booking) is
is_among (event.Tariff tariff ∷ before) later settlement booking is = is_among before later settlement booking is
is_among (event.Token token ∷ before) later settlement booking is = is_among before later settlement booking is
is_among (event.Authorised hold ∷ before) later settlement booking is = is_among before later settlement booking is
is_among (event.Released release ∷ before) later settlement booking is = is_among before later settlement booking is
is_among (event.Cdr cdr cost ∷ before) later settlement booking is = is_among before later settlement booking is
is_among (event.Credit cdr amount ∷ before) later settlement booking is = is_among before later settlement booking is
is_among (event.Settled other ∷ before) later settlement booking is =
    ap (λ (b : Bool). settles other booking || b) (is_among before later settlement booking is) ∙ or_true (settles other booking)
is_among (event.Closed closed ∷ before) later settlement booking is = is_among before later settlement booking is

-- what passes one test passes the other
implied : (a b : Bool) → (a ≡ true → b ≡ true) → (a && b) ≡ a
implied true b h = h refl
implied false b h = refl

pub all_settled : (all : List Settlement) (p : Booking → Bool) → ((booking : Booking) → p booking ≡ true → is_settled all booking ≡ true)
    → (bs : List Booking) → settled all (filter p bs) ≡ owed (filter p bs)
all_settled all p settles bs =
    ap owed (filter-filter (is_settled all) p bs ∙ filter_alike (λ x. p x && is_settled all x) p (λ x. implied (p x) (is_settled all x) (settles x)) bs)

pub square : SettlementsSquare
square before later settlement is_chosen =
    all_settled (settlements (before ++ event.Settled settlement ∷ later)) (λ booking. settles settlement booking && is_chosen booking)
    (λ booking h. is_among before later settlement booking (both_are (settles settlement booking) (is_chosen booking) h).0)
    (bookings (before ++ event.Settled settlement ∷ later))

-- ---- rows

-- a booking of the row is the settlement's
of_row : (settlement : Settlement) (key : RowKey) (booking : Booking)
    → (same_party settlement.provider key.provider && same_currency settlement.currency key.currency && (settlement.period == key.period)) ≡ true
    → is_of key booking ≡ true → settles settlement booking ≡ true
of_row settlement key booking is its =
    let its_period = both_are (same_party settlement.provider key.provider && same_currency settlement.currency key.currency) (settlement.period == key.period) is in
    let own = both_are (same_party settlement.provider key.provider) (same_currency settlement.currency key.currency) its_period.0 in
    let a = both_are ((booking.period == key.period) && same_currency booking.currency key.currency && same_party booking.operator key.operator) (same_party booking.provider key.provider) its in
    let b = both_are ((booking.period == key.period) && same_currency booking.currency key.currency) (same_party booking.operator key.operator) a.0 in
    let d = both_are (booking.period == key.period) (same_currency booking.currency key.currency) b.0 in
    let party : same_party settlement.provider booking.provider ≡ true =
    same_party_equiv.congr settlement.provider key.provider booking.provider own.0 ∙ same_party_equiv.symm key.provider booking.provider ∙ a.1 in
    let currency : same_currency settlement.currency booking.currency ≡ true =
    nat_list_eq_equiv.congr settlement.currency key.currency booking.currency own.1 ∙ nat_list_eq_equiv.symm key.currency booking.currency ∙ d.1 in
    let period : (settlement.period == booking.period) ≡ true =
    eq-eqb settlement.period booking.period (eqb-true settlement.period key.period its_period.1 ∙ sym (eqb-true booking.period key.period d.0)) in
    ap₂ (λ (a b : Bool). a && b) (ap₂ (λ (a b : Bool). a && b) party currency) period

less_same : (a b : ℤ) → b ≡ a → (a -ℤ b) ≡ pos 0
less_same a b same = omega (arith, ints)

all_flat : {A B : Type 0} (P : B → Type 0) (f : A → List B) → ((x : A) → All P (f x)) → (xs : List A) → All P (flat_map f xs)
all_flat P f each [] = All-nil P
all_flat P f each (x ∷ xs) = All-append P (f x) (flat_map f xs) (each x) (all_flat P f each xs)

row_square : (all : List Settlement) (settlement : Settlement) (key : RowKey) (bs : List Booking)
    → ((same_party settlement.provider key.provider && same_currency settlement.currency key.currency && (settlement.period == key.period)) ≡ true → settled all bs ≡ owed bs)
    → All (IsSquare settlement) (row_of all key bs)
row_square all settlement key [] says = All-nil (IsSquare settlement)
row_square all settlement key (b ∷ bs) says =
    All-cons (IsSquare settlement) (sums_of all key (b ∷ bs)) [] (λ is. (says is, less_same (owed (b ∷ bs)) (settled all (b ∷ bs)) (says is))) (All-nil (IsSquare settlement))

pub rows_are_square : SettledRowsAreSquare
rows_are_square config before later settlement =
    let events : List Event = before ++ event.Settled settlement ∷ later in
    all_flat (IsSquare settlement) (row_at (settlements events) (bookings events))
    (λ key. row_square (settlements events) settlement key (filter (is_of key) (bookings events))
    (λ is. all_settled (settlements events) (is_of key) (λ booking its. is_among before later settlement booking (of_row settlement key booking is its)) (bookings events))) _

-- ---- the events after it

unequal : (a b : ℕ) → a < b → (a == b) ≡ false
unequal a b less = by (a == b) refl
  where
    by : (c : Bool) → (a == b) ≡ c → c ≡ false
    by false is = refl
    by true is = absurd (let same = eqb-true a b is in omega (arith, less, same))

passed_over : (its : Bool) (b : Booking) (bs : List Booking) (now : Bool) → now ≡ false → bs ≡ [] → cond (its && now) (b ∷ bs) bs ≡ []
passed_over false b bs now other later = later
passed_over true b bs now other later = ap (λ (t : Bool). cond t (b ∷ bs) bs) other ∙ later

-- events of later periods book nothing in the settlement's
none_later : (settlement : Settlement) (period : ℕ) (events : List Event) → settlement.period < period → filter (settles settlement) (bookings_from period events) ≡ []
none_later settlement period [] less = refl
none_later settlement period (event.Tariff tariff ∷ later) less = none_later settlement period later less
none_later settlement period (event.Token token ∷ later) less = none_later settlement period later less
none_later settlement period (event.Authorised hold ∷ later) less = none_later settlement period later less
none_later settlement period (event.Released release ∷ later) less = none_later settlement period later less
none_later settlement period (event.Cdr cdr cost ∷ later) less =
    passed_over (same_party settlement.provider cdr.cdr_token.provider && same_currency settlement.currency cdr.currency)
    (booking_of cdr (pos cost) period) (filter (settles settlement) (bookings_from period later))
    (settlement.period == period) (unequal settlement.period period less) (none_later settlement period later less)
none_later settlement period (event.Credit cdr amount ∷ later) less =
    passed_over (same_party settlement.provider cdr.cdr_token.provider && same_currency settlement.currency cdr.currency)
    (booking_of cdr amount period) (filter (settles settlement) (bookings_from period later))
    (settlement.period == period) (unequal settlement.period period less) (none_later settlement period later less)
none_later settlement period (event.Settled other ∷ later) less = none_later settlement period later less
none_later settlement period (event.Closed closed ∷ later) less = none_later settlement (period + 1) later (omega (arith, less))

less_than : (a b c : ℕ) → a < b → b ≡ c → a < c
less_than a b c less is = omega (arith, less, is)

pub bookings_stay : SettledBookingsStay
bookings_stay config before later settlement legal =
    let its = event.Settled settlement in
    let after : ℕ = period_of (before ++ its ∷ []) in
    let first = is_first config before later settlement legal in
    let split : bookings (before ++ its ∷ later) ≡ bookings_from 0 before ++ bookings_from after later = around booking_in before its later in
    let none = none_later settlement after later (less_than settlement.period (period_of before) after first.closed (period_of-push before its)) in
    ap (filter (settles settlement)) split
    ∙ filter-append (settles settlement) (bookings_from 0 before) (bookings_from after later)
    ∙ ap (λ found. filter (settles settlement) (bookings_from 0 before) ++ found) none
    ∙ append-nil (filter (settles settlement) (bookings_from 0 before))
