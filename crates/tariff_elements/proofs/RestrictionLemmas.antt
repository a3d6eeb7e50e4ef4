-- What the tests of single restrictions say.
use Rattle.std.proofs.Common.{◌≡◌, ◌↔◌, ℕ, suc, ℤ, ◌<◌, ◌≤◌, ◌⊎◌, inl, inr, true, Option, Some, None, List, [], ◌∷◌, arith, refl, length, eq-eqb}
use Rattle.std.specs.Prelude.{IsTrue, IsNone, is_none, Any, ◌==◌, nat_le, nat_lt, int_le, int_lt, ◌<ℤ◌, ◌≤ℤ◌}
use Rattle.std.specs.List.{list_any}
use Rattle.std.specs.Option.{ForSome, option_map_or}
use Rattle.std.proofs.lemmas.Bool.{eqb-true}
use Rattle.std.proofs.lemmas.Bool.Decides.{nat_tests, leb_tells, Decides-and, Decides-or}
use Rattle.std.proofs.lemmas.List.Folds.{Any-from_list_any, list_any-from_Any}
use Rattle.std.proofs.lemmas.Option.{same_Some, none-some}
use Rattle.jiff.specs.Types.{Date}
use Rattle.jiff.specs.Words.{epoch_day}
use Rattle.ocpi_types.specs.declared.day_of_week.DayOfWeek.{DayOfWeek}
use Rattle.tariff_elements.specs.LocalTime.{day_length}
use Rattle.tariff_elements.specs.Law.{IsWithin, FallsOn}
use Rattle.tariff_elements.specs.Matching.{is_in_bounds, is_between_dates, is_on_listed_day, falls_on}
use Rattle.tariff_elements.specs.Window.{in_window}

pub none_is : {A : Type 0} (o : Option A) → IsTrue (is_none o) ↔ IsNone o
none_is None = (λ h. refl, λ h. refl)
none_is (Some x) = (λ h. grind arith, λ h. grind arith)

least_is : (least : Option ℕ) (x : ℕ) → IsTrue (option_map_or (λ bound. nat_le bound x) least true) ↔ ForSome least (λ bound. bound ≤ x)
least_is None x = (λ h b e. absurd (none-some b e), λ h. refl)
least_is (Some b) x = (λ h b' e. grind (arith, nat_tests), λ h. grind (arith, nat_tests, h b refl))

limit_is : (limit : Option ℕ) (x : ℕ) → IsTrue (option_map_or (λ bound. nat_lt x bound) limit true) ↔ ForSome limit (λ bound. x < bound)
limit_is None x = (λ h b e. absurd (none-some b e), λ h. refl)
limit_is (Some b) x = (λ h b' e. grind (arith, nat_tests), λ h. grind (arith, nat_tests, h b refl))

pub in_bounds_is : (least limit : Option ℕ) (x : ℕ) → IsTrue (is_in_bounds least limit x) ↔ (ForSome least (λ bound. bound ≤ x) × ForSome limit (λ bound. x < bound))
in_bounds_is least limit x = Decides-and _ _ (least_is least x) (limit_is limit x)

start_is : (start : Option Date) (day : ℤ) → IsTrue (option_map_or (λ date. int_le (epoch_day date) day) start true) ↔ ForSome start (λ date. epoch_day date ≤ℤ day)
start_is None day = (λ h b e. absurd (none-some b e), λ h. refl)
start_is (Some b) day = (λ h b' e. rw (← same_Some b b' e) (grind (arith, nat_tests)), λ h. grind (arith, nat_tests, h b refl))

end_is : (end : Option Date) (day : ℤ) → IsTrue (option_map_or (λ date. int_lt day (epoch_day date)) end true) ↔ ForSome end (λ date. day <ℤ epoch_day date)
end_is None day = (λ h b e. absurd (none-some b e), λ h. refl)
end_is (Some b) day = (λ h b' e. rw (← same_Some b b' e) (grind (arith, nat_tests)), λ h. grind (arith, nat_tests, h b refl))

pub between_dates_is : (start end : Option Date) (day : ℤ) → IsTrue (is_between_dates start end day) ↔ (ForSome start (λ date. epoch_day date ≤ℤ day) × ForSome end (λ date. day <ℤ epoch_day date))
between_dates_is start end day = Decides-and _ _ (start_is start day) (end_is end day)

within_test : (start end time : ℕ) → start < day_length → end < day_length → time < day_length → IsWithin start end time → IsTrue (in_window start end time)
within_test start end time s e t h =
    elim (leb_tells (suc start) end) [
      | inl p ↦ grind (arith, nat_tests, p.1, h.same_day (omega (arith, p.1)))
      | inr p ↦ elim (leb_tells (suc end) start) [
        | inl q ↦ elim (h.over_midnight (omega (arith, q.1))) [ inl a ↦ grind (arith, nat_tests, q.1, a) | inr a ↦ grind (arith, nat_tests, q.1, a) ]
        | inr q ↦ grind (arith, nat_tests, p.1, q.1)
      ]
    ]

pub within_is : (start end time : ℕ) → start < day_length → end < day_length → time < day_length → IsTrue (in_window start end time) ↔ IsWithin start end time
within_is start end time s e t = (λ h. record { same_day = λ lt. grind (arith, nat_tests); over_midnight = λ lt. grind (arith, nat_tests) }, within_test start end time s e t)

empty_is : (weekdays : List DayOfWeek) → IsTrue (length weekdays == 0) ↔ (weekdays ≡ [])
empty_is [] = (λ h. refl, λ h. refl)
empty_is (w ∷ ws) = (λ h. grind (arith, nat_tests), λ e. absurd (cc))

any_is : (day : ℤ) (weekdays : List DayOfWeek) → IsTrue (list_any (falls_on day) weekdays) ↔ Any (FallsOn day) weekdays
any_is day ws = (
  λ h. let found = Any-from_list_any (falls_on day) ws h in (found.0, found.1, found.2, found.3, eqb-true _ _ found.4),
  λ any. list_any-from_Any (falls_on day) ws (any.0, any.1, any.2, any.3, eq-eqb _ _ any.4),
)

pub listed_is : (day : ℤ) (weekdays : List DayOfWeek) → IsTrue (is_on_listed_day weekdays day) ↔ ((weekdays ≡ []) ⊎ Any (FallsOn day) weekdays)
listed_is day ws = Decides-or _ _ (empty_is ws) (any_is day ws)
