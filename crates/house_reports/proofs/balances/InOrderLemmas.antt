-- Bookings of a list of events are in the order of their periods.
use Rattle.std.proofs.Common.{◌≡◌, ◌≢◌, ℕ, suc, ◌+◌, ◌<◌, ◌≤◌, ◌==◌, nat_lt, List, [], ◌∷◌, ◌++◌, Bool, true, false, cond, if◌then◌else◌, ◌&&◌, filter, take, drop, refl, sym, ap, subst, ◌∙◌, arith, eqb-true}
use Rattle.std.proofs.lemmas.Bool.{eq-eqb, ltb-false, ltb-true}
use Rattle.std.proofs.lemmas.List.Elements.{filter-append}
use Rattle.plain_house.specs.declared.event.Event.{Event}
use Rattle.plain_house.specs.declared.event.Event.TheVariants as event
use Rattle.house_reports.specs.declared.balances.booking.Booking.{Booking}
use Rattle.house_reports.specs.balances.Bookings.{bookings_from}
use Rattle.house_reports.specs.balances.Laws.{is_in}
use Rattle.house_reports.specs.balances.Inner.InOrder.{AreFrom, leading}
use Rattle.house_reports.specs.balances.Inner.Narrowed.{of_period}
use Rattle.house_reports.proofs.balances.ListLemmas.{filter-filter}

at_most : (a b c : ℕ) → a ≤ b → b ≤ c → a ≤ c
at_most a b c h k = omega (arith, h, k)

from_earlier : (m n : ℕ) (bs : List Booking) → m ≤ n → AreFrom n bs → AreFrom m bs
from_earlier m n [] less from = tt
from_earlier m n (b ∷ bs) less from = (at_most m n b.period less from.0, from.1)

itself : (n : ℕ) → n ≤ n
itself n = omega arith

one_less : (n : ℕ) → n ≤ n + 1
one_less n = omega arith

pub are_from : (period : ℕ) (events : List Event) → AreFrom period (bookings_from period events)
are_from period [] = tt
are_from period (event.Tariff tariff ∷ later) = are_from period later
are_from period (event.Token token ∷ later) = are_from period later
are_from period (event.Authorised hold ∷ later) = are_from period later
are_from period (event.Released release ∷ later) = are_from period later
are_from period (event.Cdr cdr cost ∷ later) = (itself period, are_from period later)
are_from period (event.Credit cdr amount ∷ later) = (itself period, are_from period later)
are_from period (event.Settled settlement ∷ later) = are_from period later
are_from period (event.Closed closed ∷ later) = from_earlier period (period + 1) (bookings_from (period + 1) later) (one_less period) (are_from (period + 1) later)

-- ---- the first period

unequal : (a b : ℕ) → b < a → (a == b) ≡ false
unequal a b less = by (a == b) refl
  where
    by : (c : Bool) → (a == b) ≡ c → c ≡ false
    by false is = refl
    by true is = absurd (let same = eqb-true a b is in omega (arith, less, same))

less_of : (a b c : ℕ) → a < b → b ≤ c → a < c
less_of a b c h k = omega (arith, h, k)

none_of : (period next : ℕ) (bs : List Booking) → period < next → AreFrom next bs → of_period period bs ≡ []
none_of period next [] less from = refl
none_of period next (b ∷ bs) less from =
    ap (λ (t : Bool). cond t (b ∷ of_period period bs) (of_period period bs)) (unequal b.period period (less_of period next b.period less from.0))
    ∙ none_of period b.period bs (less_of period next b.period less from.0) from.1

later_than : (a b : ℕ) → b ≤ a → (a == b) ≡ false → b < a
later_than a b most other = by (nat_lt b a) refl
  where
    by : (c : Bool) → nat_lt b a ≡ c → b < a
    by true is = ltb-true b a is
    by false is = absurd (
        let least : a ≤ b = ltb-false b a is in
        let same : a ≡ b = omega (arith, most, least) in
        let both : true ≡ false = sym (eq-eqb a b same) ∙ other in
        cc
        )

take_first : (period : ℕ) (b : Booking) (bs : List Booking) (is : Bool) → (is ≡ true → take (leading period bs) bs ≡ of_period period bs)
    → (is ≡ false → of_period period bs ≡ []) → take (if is then suc (leading period bs) else 0) (b ∷ bs) ≡ cond is (b ∷ of_period period bs) (of_period period bs)
take_first period b bs true same none = ap (λ (l : List Booking). b ∷ l) (same refl)
take_first period b bs false same none = sym (none refl)

pub of_first : (period : ℕ) (bs : List Booking) → AreFrom period bs → take (leading period bs) bs ≡ of_period period bs
of_first period [] from = refl
of_first period (b ∷ bs) from =
    take_first period b bs (b.period == period)
    (λ is. of_first period bs (subst (λ n. AreFrom n bs) (eqb-true b.period period is) from.1))
    (λ is. none_of period b.period bs (later_than b.period period from.0 is) from.1)

next_of : (a b : ℕ) → b < a → b + 1 ≤ a
next_of a b h = omega (arith, h)

drop_first : (period : ℕ) (b : Booking) (bs : List Booking) (is : Bool) → (is ≡ true → AreFrom (period + 1) (drop (leading period bs) bs))
    → (is ≡ false → AreFrom (period + 1) (b ∷ bs)) → AreFrom (period + 1) (drop (if is then suc (leading period bs) else 0) (b ∷ bs))
drop_first period b bs true same none = same refl
drop_first period b bs false same none = none refl

pub from_later : (period : ℕ) (bs : List Booking) → AreFrom period bs → AreFrom (period + 1) (drop (leading period bs) bs)
from_later period [] from = tt
from_later period (b ∷ bs) from =
    drop_first period b bs (b.period == period)
    (λ is. from_later period bs (subst (λ n. AreFrom n bs) (eqb-true b.period period is) from.1))
    (λ is. (next_of b.period period (later_than b.period period from.0 is), from.1))

-- ---- later periods

both_no : (a p k : ℕ) → p < k → ((a == p) && (a == k)) ≡ false
both_no a p k less = by (a == p) refl
  where
    by : (t : Bool) → (a == p) ≡ t → (t && (a == k)) ≡ false
    by false is = refl
    by true is = by_next (a == k) refl
      where
        by_next : (u : Bool) → (a == k) ≡ u → u ≡ false
        by_next false also = refl
        by_next true also = absurd (let one = eqb-true a p is in let other = eqb-true a k also in omega (arith, less, one, other))

chosen_none : {A : Type 0} (p : A → Bool) (xs : List A) → ((x : A) → p x ≡ false) → filter p xs ≡ []
chosen_none p [] none = refl
chosen_none p (x ∷ xs) none = ap (λ (t : Bool). cond t (x ∷ filter p xs) (filter p xs)) (none x) ∙ chosen_none p xs none

-- behind the bookings of one period a later one's are all that there were
pub later_kept : (period number : ℕ) (all first later : List Booking) → period < number → first ++ later ≡ all → first ≡ of_period period all → of_period number later ≡ of_period number all
later_kept period number all first later less split first_is =
    let none : of_period number first ≡ [] =
    ap (of_period number) first_is ∙ filter-filter (is_in number) (is_in period) all ∙ chosen_none (λ b. is_in period b && is_in number b) all (λ b. both_no b.period period number less) in
    sym (ap (of_period number) (sym split) ∙ filter-append (is_in number) first later ∙ ap (λ l. l ++ of_period number later) none)
