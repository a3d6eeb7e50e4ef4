-- What is booked of a period is what it obliges to.
use Rattle.std.proofs.Common.{◌≡◌, ℕ, ◌+◌, ◌^◌, ◌<◌, ◌==◌, pos, Bool, true, false, cond, List, [], ◌∷◌, filter, map, refl, ap, ap₂, ◌∙◌, arith}
use Rattle.std.specs.Prelude.{unsigned_abs}
use Rattle.std.proofs.lemmas.List.Sums.{sum_by-cons}
use Rattle.netting_positions.specs.declared.obligation.Obligation.{Obligation}
use Rattle.netting_positions.specs.Netting.{total_size}
use Rattle.plain_house.specs.declared.event.Event.{Event}
use Rattle.plain_house.specs.declared.event.Event.TheVariants as event
use Rattle.plain_house.specs.Booked.{Booked, booked}
use Rattle.plain_house.specs.Entries.{book_entries, book_entries_from}
use Rattle.plain_house.specs.Obligations.{is_of_period, obligation_of as obligation_of_booked, obligations}
use Rattle.house_reports.specs.balances.Bookings.{booking_of, bookings, bookings_from}
use Rattle.house_reports.specs.balances.Inner.Narrowed.{of_period, size}
use Rattle.house_reports.specs.balances.Laws.{BookingsAreObligations, is_in, obligation_of}
use Rattle.house_reports.specs.declared.balances.booking.Booking.{Booking}
use Rattle.house_reports.proofs.balances.SizeLemmas.{size-cons}

-- one that is chosen in both lists
chosen : (t : Bool) (b : Booking) (found : Booked) (bs : List Booking) (founds : List Booked) → obligation_of b ≡ obligation_of_booked found
    → map obligation_of bs ≡ map obligation_of_booked founds → map obligation_of (cond t (b ∷ bs) bs) ≡ map obligation_of_booked (cond t (found ∷ founds) founds)
chosen true b found bs founds same later = ap₂ (λ (one : Obligation) (more : List Obligation). one ∷ more) same later
chosen false b found bs founds same later = later

booked_obliges : (period number : ℕ) (events : List Event)
    → map obligation_of (filter (is_in number) (bookings_from period events)) ≡ obligations number (book_entries_from period events)
booked_obliges period number [] = refl
booked_obliges period number (event.Tariff tariff ∷ later) = booked_obliges period number later
booked_obliges period number (event.Token token ∷ later) = booked_obliges period number later
booked_obliges period number (event.Authorised hold ∷ later) = booked_obliges period number later
booked_obliges period number (event.Released release ∷ later) = booked_obliges period number later
booked_obliges period number (event.Cdr cdr cost ∷ later) =
    chosen (period == number) (booking_of cdr (pos cost) period) (record { cdr = cdr; amount = pos cost; period = period })
    (filter (is_in number) (bookings_from period later)) (filter (is_of_period number) (booked (book_entries_from period later))) refl (booked_obliges period number later)
booked_obliges period number (event.Credit cdr amount ∷ later) =
    chosen (period == number) (booking_of cdr amount period) (record { cdr = cdr; amount = amount; period = period })
    (filter (is_in number) (bookings_from period later)) (filter (is_of_period number) (booked (book_entries_from period later))) refl (booked_obliges period number later)
booked_obliges period number (event.Settled settlement ∷ later) = booked_obliges period number later
booked_obliges period number (event.Closed closed ∷ later) = booked_obliges (period + 1) number later

pub are_obligations : BookingsAreObligations
are_obligations events period = booked_obliges 0 period events

-- ---- how much it is

one_more : (n m k l i : ℕ) → n ≡ i + k → m ≡ i + l → k ≡ l → n ≡ m
one_more n m k l i e f h = omega arith

size_is : (bs : List Booking) → size bs ≡ total_size (map obligation_of bs)
size_is [] = refl
size_is (b ∷ bs) =
    one_more _ _ _ _ _ (size-cons b bs) (sum_by-cons (λ obligation. unsigned_abs obligation.amount) (obligation_of b) (map obligation_of bs)) (size_is bs)

less_alike : (n m k : ℕ) → n ≡ m → m < k → n < k
less_alike n m k e h = omega arith

pub booked_fits : BookingsAreObligations → (events : List Event) → ((period : ℕ) → total_size (obligations period (book_entries events)) < 2 ^ 63) → (period : ℕ) → size (of_period period (bookings events)) < 2 ^ 63
booked_fits law events fits period = less_alike _ _ (2 ^ 63) (size_is (of_period period (bookings events)) ∙ ap total_size (law events period)) (fits period)
