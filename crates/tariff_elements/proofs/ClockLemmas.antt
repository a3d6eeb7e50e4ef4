-- Restrictions that bound no clock hold at any time of it.
use Rattle.std.proofs.Common.{◌≡◌, ℕ, ℤ, Bool, true, false, Option, Some, None, List, [], ◌∷◌, length, refl, true≢false, arith}
use Rattle.std.specs.Prelude.{◌==◌, ◌&&◌, ◌||◌, not, find, is_some}
use Rattle.std.specs.List.{list_any}
use Rattle.std.specs.Option.{option_map_or}
use Rattle.std.proofs.lemmas.Bool.Decides.{nat_tests}
use Rattle.jiff.specs.Types.{Date, Time}
use Rattle.ocpi_types.specs.declared.component.ComponentKind.{ComponentKind}
use Rattle.ocpi_types.specs.declared.day_of_week.DayOfWeek.{DayOfWeek}
use Rattle.ocpi_types.specs.declared.element.Element.{Element}
use Rattle.ocpi_types.specs.declared.restrictions.Restrictions.{Restrictions}
use Rattle.ocpi_types.specs.declared.tariff.Tariff.{Tariff}
use Rattle.tariff_elements.specs.Active.{component_of, applies}
use Rattle.tariff_elements.specs.Clock.{has_clock_bound, is_by_clock, asks_clock, IsActiveAnyTime}
use Rattle.tariff_elements.specs.LocalTime.{LocalMoment}
use Rattle.tariff_elements.specs.Matching.{matches, is_between_dates, is_on_listed_day}
use Rattle.tariff_elements.specs.Window.{is_between_times}

both_false : (a b : Bool) → a || b ≡ false → (a ≡ false) × (b ≡ false)
both_false true b e = absurd (true≢false e)
both_false false b e = (refl, e)

any_date : (start end : Option Date) (d e : ℤ) → is_some start ≡ false → is_some end ≡ false → is_between_dates start end d ≡ is_between_dates start end e
any_date None None d e p q = refl
any_date None (Some x) d e p q = absurd (true≢false q)
any_date (Some x) end d e p q = absurd (true≢false p)

any_time : (start end : Option Time) (t u : ℕ) → is_some start ≡ false → is_some end ≡ false → is_between_times start end t ≡ is_between_times start end u
any_time None None t u p q = refl
any_time None (Some x) t u p q = absurd (true≢false q)
any_time (Some x) end t u p q = absurd (true≢false p)

any_day : (weekdays : List DayOfWeek) (d e : ℤ) → not (length weekdays == 0) ≡ false → is_on_listed_day weekdays d ≡ is_on_listed_day weekdays e
any_day [] d e p = refl
any_day (x ∷ xs) d e p = grind (arith, nat_tests)

matches_any_time : (r : Restrictions) (m n : LocalMoment) → has_clock_bound r ≡ false → m.energy ≡ n.energy → m.seconds ≡ n.seconds → matches r m ≡ matches r n
matches_any_time r m n h e s =
    let weekdays = both_false _ _ h in
    let end_date = both_false _ _ weekdays.0 in
    let start_date = both_false _ _ end_date.0 in
    let times = both_false _ _ start_date.0 in
    rw (
      e,
      s,
      any_date r.start_date r.end_date m.day n.day start_date.1 end_date.1,
      any_day r.day_of_week m.day n.day weekdays.1,
      any_time r.start_time r.end_time m.time n.time times.0 times.1,
    ) refl

applies_any_time : (has : Bool) (restrictions : Option Restrictions) (m n : LocalMoment) → has && option_map_or has_clock_bound restrictions false ≡ false → m.energy ≡ n.energy → m.seconds ≡ n.seconds →
    has && option_map_or (λ r. matches r m) restrictions true ≡ has && option_map_or (λ r. matches r n) restrictions true
applies_any_time false restrictions m n h e s = refl
applies_any_time true None m n h e s = refl
applies_any_time true (Some r) m n h e s = matches_any_time r m n h e s

chosen_any_time : (elements : List Element) (kind : ComponentKind) (m n : LocalMoment) → list_any (is_by_clock kind) elements ≡ false → m.energy ≡ n.energy → m.seconds ≡ n.seconds →
    find (λ x. is_some (component_of kind x) && applies m x) elements ≡ find (λ x. is_some (component_of kind x) && applies n x) elements
chosen_any_time [] kind m n h e s = refl
chosen_any_time (x ∷ xs) kind m n h e s =
    let parts = both_false _ _ h in
    rw (applies_any_time (is_some (component_of kind x)) x.restrictions m n parts.0 e s, chosen_any_time xs kind m n parts.1 e s) refl

pub active_any_time : (tariff : Tariff) (kind : ComponentKind) → asks_clock tariff kind ≡ false → IsActiveAnyTime tariff kind
active_any_time tariff kind h m n e s = rw (chosen_any_time tariff.elements kind m n h e s) refl
