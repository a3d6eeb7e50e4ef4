-- Bookings in the order of their periods.
use Rattle.std.specs.Prelude.{ℕ, suc, ◌==◌, ◌≤◌, ⊤, List, [], ◌∷◌, if◌then◌else◌}
use Rattle.house_reports.specs.declared.balances.booking.Booking.{Booking}

-- they are of this period and later ones, an earlier period first
abbrev pub AreFrom : ℕ → List Booking → Type 0
AreFrom period [] = ⊤
AreFrom period (booking ∷ bookings) = (period ≤ booking.period) × AreFrom booking.period bookings

-- how many are of the period before the first that is not
abbrev pub leading : ℕ → List Booking → ℕ
leading period [] = 0
leading period (booking ∷ bookings) = if booking.period == period then suc (leading period bookings) else 0
