-- The day and the time of day that the nanoseconds of a datetime determine.
use Rattle.std.proofs.Common.{◌≡◌, ◌∙◌, refl, sym, ℕ, ℤ, pos, ◌+ℤ◌, ◌*ℤ◌, ◌<◌, arith}
use Rattle.std.specs.Prelude.{unsigned_abs}
use Rattle.std.specs.Int.{int_div_euclid, int_rem_euclid}
use Rattle.jiff.specs.Types.{DateTime, Time, TimeZone}
use Rattle.jiff.specs.Words.{civil_nanos, time_nanos, epoch_day}
use Rattle.jiff.proofs.SpanFacts.{signed_arith}
use Rattle.tariff_elements.specs.LocalTime.{day_length, local_nanos, LocalMoment, moment_at}

civil_parts : (dt : DateTime) → civil_nanos dt ≡ epoch_day dt.date *ℤ pos day_length +ℤ pos (time_nanos dt.time)
unfolding civil_nanos
civil_parts dt = refl

pub time_below : (t : Time) → time_nanos t < day_length
time_below t = omega (arith, t.hour_in, t.minute_in, t.second_in, t.subsec_in)

day_of : (day l : ℤ) (t : ℕ) → day *ℤ pos day_length +ℤ pos t ≡ l → t < day_length → day ≡ int_div_euclid l (pos day_length)
day_of day l t e lt = omega (arith, signed_arith, e, lt)

time_of : (day l : ℤ) (t : ℕ) → day *ℤ pos day_length +ℤ pos t ≡ l → t < day_length → t ≡ unsigned_abs (int_rem_euclid l (pos day_length))
time_of day l t e lt = omega (arith, signed_arith, e, lt)

day-shown : (dt : DateTime) (l : ℤ) → civil_nanos dt ≡ l → epoch_day dt.date ≡ int_div_euclid l (pos day_length)
day-shown dt l e = day_of (epoch_day dt.date) l (time_nanos dt.time) (sym (civil_parts dt) ∙ e) (time_below dt.time)

time-shown : (dt : DateTime) (l : ℤ) → civil_nanos dt ≡ l → time_nanos dt.time ≡ unsigned_abs (int_rem_euclid l (pos day_length))
time-shown dt l e = time_of (epoch_day dt.date) l (time_nanos dt.time) (sym (civil_parts dt) ∙ e) (time_below dt.time)

-- the moment that a datetime shows, where the clock shows that datetime
pub shown_moment : (dt : DateTime) (zone : TimeZone) (n : ℤ) (energy seconds : ℕ) → civil_nanos dt ≡ local_nanos zone n → ◌≡◌ {A = LocalMoment} (record { day = epoch_day dt.date; time = time_nanos dt.time; energy = energy; seconds = seconds }) (moment_at zone n energy seconds)
shown_moment dt zone n energy seconds e =
    let day = day-shown dt _ e in
    let time = time-shown dt _ e in
    λ i. record { day = day i; time = time i; energy = energy; seconds = seconds }
