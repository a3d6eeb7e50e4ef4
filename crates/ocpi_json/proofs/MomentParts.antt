-- What `jiff` makes of the parts of a date, a time of day and an instant.
use Rattle.std.proofs.Common.{◌≡◌, ℕ, ℤ, pos, ◌<◌, ◌≤◌, Bool, true, false, IsTrue, ◌↔◌, Some, None, Result, Ok, Err, IsOk, IfOk, refl, ap, sym, ◌∙◌, subst, arith}
use Rattle.std.specs.Int.{IsInRange}
use Rattle.std.specs.Result.{result_ok}
use Rattle.std.proofs.Props.{props}
use Rattle.std.proofs.lemmas.Bool.Decides.{nat_tests}
use Rattle.std.proofs.lemmas.Int.{ints}
use mathlib.Core.HLevel.{is_prop→PathP}
use Rattle.jiff.specs.Types.{Date, Time, Timestamp}
use Rattle.jiff.specs.Words.{days_in_month, IsDate, IsYmd, IsTime, IsHms, IsTimestampNanos}
use Rattle.jiff.proofs.Family.{same_date, same_time}
use Rattle.ocpi_json.specs.SomeIf.{some_if}
use Rattle.ocpi_json.specs.Inner.MomentReading.{is_date, date_at, is_time, time_at, is_instant, instant_at}
use Rattle.ocpi_json.specs.Inner.Ranges.{year_in, month_in, day_in, hour_in, minute_in, second_in, subsec_in, instant_in}

some_if-passed : {X : Type 0} (b : Bool) (f : IsTrue b → X) (x : X) → IsTrue b → ((h : IsTrue b) → f h ≡ x) → some_if b f ≡ Some x
some_if-passed true f x passed same = ap Some (same refl)
some_if-passed false f x passed same = cc

some_if-failed : {X : Type 0} (b : Bool) (f : IsTrue b → X) → (IsTrue b → ⊥) → some_if b f ≡ None
some_if-failed true f failed = absurd (failed refl)
some_if-failed false f failed = refl

same_pos : {a b : ℕ} → pos a ≡ pos b → a ≡ b
same_pos {a} {b} e = cc

-- ---- dates

is_date_in : (y m d : ℕ) → y ≤ 9999 → IsInRange 1 12 m → IsInRange 1 (days_in_month (pos y) m) d → IsTrue (is_date y m d)
is_date_in y m d small month day = grind (arith, nat_tests)

pub date_at-found : (y m d : ℕ) (x : Date) → y < 10_000 → x.year ≡ pos y → x.month ≡ m → x.day ≡ d → date_at y m d ≡ Some x
unfolding date_at
date_at-found y m d x small p q r =
    let month : IsInRange 1 12 m = subst (IsInRange 1 12) q x.month_in in
    let length : days_in_month x.year x.month ≡ days_in_month (pos y) m = ap (λ k. days_in_month k x.month) p ∙ ap (days_in_month (pos y)) q in
    let day : IsInRange 1 (days_in_month (pos y) m) d = rw (← length, ← r) x.day_in in
    some_if-passed (is_date y m d) _ x (is_date_in y m d (omega arith) month day) (λ h. same_date _ x cc)

date_at-none : (y m d : ℕ) → (IsDate (pos y) (pos m) (pos d) → ⊥) → date_at y m d ≡ None
unfolding date_at
date_at-none y m d absent =
    some_if-failed (is_date y m d) _ (λ h.
    let month = month_in y m d h in
    let day = day_in y m d h in
    absent (year_in y m d h, (omega (arith, ints), omega (arith, ints)), (omega (arith, ints), omega (arith, ints))))

pub date_at-new : {E : Type 0} (y m d : ℕ) (ys ms ds : ℤ) (r : Result Date E) → y < 10_000 → ys ≡ pos y → ms ≡ pos m → ds ≡ pos d
    → (IsOk r ↔ IsDate ys ms ds) → IfOk r (IsYmd ys ms ds) → result_ok r ≡ date_at y m d
date_at-new y m d ys ms ds (Ok x) small p q r succeeds value =
    sym (date_at-found y m d x small (value.0 ∙ p) (same_pos (value.1 ∙ q)) (same_pos (value.2 ∙ r)))
date_at-new y m d ys ms ds (Err e) small p q r succeeds value =
    sym (date_at-none y m d (λ h. let ok = succeeds.1 (rw (p, q, r) h) in cc))

-- ---- times of day

pub time_at-found : (hour minute second nanos : ℕ) (x : Time) → x.hour ≡ hour → x.minute ≡ minute → x.second ≡ second → x.subsec_nanosecond ≡ nanos → time_at hour minute second nanos ≡ Some x
unfolding time_at
time_at-found hour minute second nanos x p q r s =
    let h = x.hour_in in
    let m = x.minute_in in
    let sec = x.second_in in
    let sub = x.subsec_in in
    some_if-passed (is_time hour minute second nanos) _ x (grind (arith, nat_tests)) (λ _. same_time _ x cc)

time_at-none : (hour minute second nanos : ℕ) → (IsTime (pos hour) (pos minute) (pos second) (pos nanos) → ⊥) → time_at hour minute second nanos ≡ None
unfolding time_at
time_at-none hour minute second nanos absent =
    some_if-failed (is_time hour minute second nanos) _ (λ h.
    let a = hour_in hour minute second nanos h in
    let b = minute_in hour minute second nanos h in
    let c = second_in hour minute second nanos h in
    let d = subsec_in hour minute second nanos h in
    absent ((omega (arith, ints), omega (arith, ints)), (omega (arith, ints), omega (arith, ints)), (omega (arith, ints), omega (arith, ints)), (omega (arith, ints), omega (arith, ints))))

pub time_at-new : {E : Type 0} (hour minute second nanos : ℕ) (hs ms ss ns : ℤ) (r : Result Time E) → hs ≡ pos hour → ms ≡ pos minute → ss ≡ pos second → ns ≡ pos nanos
    → (IsOk r ↔ IsTime hs ms ss ns) → IfOk r (IsHms hs ms ss ns) → result_ok r ≡ time_at hour minute second nanos
time_at-new hour minute second nanos hs ms ss ns (Ok x) p q r s succeeds value =
    sym (time_at-found hour minute second nanos x (same_pos (value.0 ∙ p)) (same_pos (value.1 ∙ q)) (same_pos (value.2 ∙ r)) (same_pos (value.3 ∙ s)))
time_at-new hour minute second nanos hs ms ss ns (Err e) p q r s succeeds value =
    sym (time_at-none hour minute second nanos (λ h. let ok = succeeds.1 (rw (p, q, r, s) h) in cc))

-- ---- instants

same_instant : (a b : Timestamp) → a.nanosecond ≡ b.nanosecond → a ≡ b
same_instant a b p = λ i. record {
  nanosecond = p i;
  in_range = is_prop→PathP (λ j. IsTimestampNanos (p j)) (λ j. hlevel props) a.in_range b.in_range i;
}

pub instant_at-found : (n : ℤ) (x : Timestamp) → x.nanosecond ≡ n → instant_at n ≡ Some x
unfolding instant_at
instant_at-found n x p =
    let h : IsTimestampNanos n = subst IsTimestampNanos p x.in_range in
    some_if-passed (is_instant n) _ x (grind (arith, nat_tests)) (λ _. same_instant _ x (sym p))

instant_at-none : (n : ℤ) → (IsTimestampNanos n → ⊥) → instant_at n ≡ None
unfolding instant_at
instant_at-none n absent = some_if-failed (is_instant n) _ (λ h. absent (instant_in n h))

pub instant_at-new : {E : Type 0} (n m : ℤ) (r : Result Timestamp E) → m ≡ n → (IsOk r ↔ IsTimestampNanos m) → IfOk r (λ t. t.nanosecond ≡ m) → result_ok r ≡ instant_at n
instant_at-new n m (Ok x) p succeeds value = sym (instant_at-found n x (value ∙ p))
instant_at-new n m (Err e) p succeeds value =
    sym (instant_at-none n (λ h. let ok = succeeds.1 (rw p h) in cc))
