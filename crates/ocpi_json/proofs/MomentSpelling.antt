-- What is read of a text is what it spells.
use Rattle.std.proofs.Common.{◌≡◌, ℕ, ℤ, pos, ◌<◌, ◌≤◌, Bool, true, false, IsTrue, cond, ◌==◌, ◌||◌, inl, inr, List, [], ◌∷◌, ◌++◌, Some, refl, ap, sym, ◌∙◌, subst, arith}
use Rattle.std.specs.Prelude.{codes}
use Rattle.std.specs.Str.{bytes_eq}
use Rattle.std.proofs.lemmas.Bool.Decides.{nat_tests}
use Rattle.std.proofs.lemmas.Option.{same_Some, none-some, option_and_then_some}
use Rattle.std.proofs.lemmas.List.{append-nil, append_assoc}
use Rattle.std.proofs.lemmas.Slice.Eq.{bytes_eq-Decides}
use Rattle.jiff.specs.Types.{Date, Time, DateTime, Timestamp}
use Rattle.jiff.specs.Words.{days_in_month, civil_nanos}
use Rattle.ocpi_json.specs.MomentText.{zero_padded, SpellsDate, SpellsFraction, IsUtcMark, hour_and_minute, DatesAreSpelled, ClocksAreSpelled, InstantsAreSpelled}
use Rattle.ocpi_json.specs.SomeIf.{some_if}
use Rattle.ocpi_json.specs.Inner.MomentReading.{if_at_end, read_two, read_four, read_two_after, is_date, date_at, read_date, date_of, is_time, time_at, clock_of, digits_from, read_fraction, read_time, after_mark, read_datetime, is_utc_mark, is_instant, instant_at, instant_of}
use Rattle.ocpi_json.proofs.MomentParts.{date_at-found, time_at-found, instant_at-found}
use Rattle.ocpi_json.proofs.DigitSpelling.{if_passed, read_two-spelled, read_two-of, read_four-spelled, read_four-of, read_two_after-spelled, read_two_after-of}
use Rattle.ocpi_json.proofs.FractionSpelling.{read_fraction-spelled, EndsTime, read_fraction-of}

some_if-some : {X : Type 0} (b : Bool) (f : IsTrue b → X) (x : X) → some_if b f ≡ Some x → (h : IsTrue b) × (f h ≡ x)
some_if-some true f x e = (refl, same_Some _ _ e)
some_if-some false f x e = absurd (none-some x e)

at_end : {X : Type 0} (x y : X) (rest : List ℕ) → if_at_end x rest ≡ Some y → (rest ≡ []) × (x ≡ y)
at_end x y [] e = (refl, same_Some _ _ e)
at_end x y (b ∷ rest) e = absurd (none-some y e)

-- ---- dates

date_at-spelled : (y m d : ℕ) (x : Date) → date_at y m d ≡ Some x → (x.year ≡ pos y) × (x.month ≡ m) × (x.day ≡ d)
unfolding date_at
date_at-spelled y m d x e =
    let same = some_if-some (is_date y m d) _ x e in
    (ap (λ t. t.year) (sym same.1), ap (λ t. t.month) (sym same.1), ap (λ t. t.day) (sym same.1))

-- the text begins with the date, and rest comes behind it
abbrev BeginsWithDate : List ℕ → Date → List ℕ → Type 0
BeginsWithDate text date rest = (spelling : List ℕ) × SpellsDate spelling date × (text ≡ spelling ++ rest)

read_date-spelled : (text : List ℕ) (p : Date × List ℕ) → read_date text ≡ Some p → BeginsWithDate text p.0 p.1
unfolding read_date
read_date-spelled text p e =
    option_and_then_some _ (read_four text) p e λ year at_year after_year.
    option_and_then_some _ (read_two_after year.1 45) p after_year λ month at_month after_month.
    option_and_then_some _ (read_two_after month.1 45) p after_month λ day at_day after_day.
    option_and_then_some _ (date_at year.0 month.0 day.0) p after_day λ date at_date last.
    let y = read_four-spelled text year at_year in
    let m = read_two_after-spelled year.1 45 month at_month in
    let d = read_two_after-spelled month.1 45 day at_day in
    let parts = date_at-spelled year.0 month.0 day.0 date at_date in
    let same : date ≡ p.0 = ap (λ q. q.0) (same_Some _ _ last) in
    let l : day.1 ≡ p.1 = ap (λ q. q.1) (same_Some _ _ last) in (
      zero_padded 4 year.0 ++ codes "-" ++ zero_padded 2 month.0 ++ codes "-" ++ zero_padded 2 day.0,
      record {
        year = year.0;
        year_in = (rw (← same) parts.0, let h = y.0 in omega arith);
        month_in = p.0.month_in;
        day_in = p.0.day_in;
        spelled = rw (← same, parts.1, parts.2) refl;
      },
      cc,
    )

short_month : (february leap thirty : Bool) → cond february (cond leap 29 28) (cond thirty 30 31) ≤ 31
short_month true true thirty = omega arith
short_month true false thirty = omega arith
short_month false leap true = omega arith
short_month false leap false = omega arith

read_date-of : (spelling rest : List ℕ) (date : Date) → SpellsDate spelling date → read_date (spelling ++ rest) ≡ Some (date, rest)
unfolding read_date
read_date-of spelling rest date s =
    let y : s.year < 10_000 = let h = s.year_in.1 in omega arith in
    let m : date.month < 100 = let h = s.month_in in omega arith in
    let d : date.day < 100 = let h = s.day_in in let most : days_in_month date.year date.month ≤ 31 = short_month _ _ _ in omega arith in
    rw (s.spelled, read_four-of s.year _ y, read_two_after-of 45 date.month _ m, read_two_after-of 45 date.day rest d, date_at-found s.year date.month date.day date y s.year_in.0 refl refl)

pub dates_spelled : DatesAreSpelled
unfolding date_of
dates_spelled text date = (
  λ e.
      option_and_then_some _ (read_date text) date e λ p at last.
      let ended = at_end p.0 date p.1 last in
      let begins = read_date-spelled text p at in
      let whole : text ≡ begins.0 = begins.2 ∙ ap (λ l. begins.0 ++ l) ended.0 ∙ append-nil begins.0 in
      rw (whole, ← ended.1) begins.1,
  λ s.
      let read : read_date text ≡ Some (date, []) = ap read_date (sym (append-nil text)) ∙ read_date-of text [] date s in
      rw read,
)

-- ---- times of day

time_at-spelled : (hour minute second nanos : ℕ) (x : Time) → time_at hour minute second nanos ≡ Some x
    → (x.hour ≡ hour) × (x.minute ≡ minute) × (x.second ≡ second) × (x.subsec_nanosecond ≡ nanos)
unfolding time_at
time_at-spelled hour minute second nanos x e =
    let same = some_if-some (is_time hour minute second nanos) _ x e in
    (ap (λ t. t.hour) (sym same.1), ap (λ t. t.minute) (sym same.1), ap (λ t. t.second) (sym same.1), ap (λ t. t.subsec_nanosecond) (sym same.1))

pub clocks_spelled : ClocksAreSpelled
unfolding clock_of
clocks_spelled text time = (
  λ e.
      option_and_then_some _ (read_two text) time e λ hour at_hour after_hour.
      option_and_then_some _ (read_two_after hour.1 58) time after_hour λ minute at_minute after_minute.
      option_and_then_some _ (time_at hour.0 minute.0 0 0) time after_minute λ shown at_shown last.
      let h = read_two-spelled text hour at_hour in
      let m = read_two_after-spelled hour.1 58 minute at_minute in
      let ended = at_end shown time minute.1 last in
      let parts = time_at-spelled hour.0 minute.0 0 0 time (at_shown ∙ ap (λ t. Some t) ended.1) in
      record {
        time_in = (time.hour_in, time.minute_in);
        whole = (parts.2, parts.3);
        spelled = rw (parts.0, parts.1) cc;
      },
  λ s.
      let t = s.time_in in
      let e : text ≡ zero_padded 2 time.hour ++ (58 ∷ (zero_padded 2 time.minute ++ [])) = s.spelled in
      rw (
        e,
        read_two-of time.hour _ (omega arith),
        read_two_after-of 58 time.minute [] (omega arith),
        time_at-found time.hour time.minute 0 0 time refl refl s.whole.0 s.whole.1,
      ),
)

-- ---- moments

-- the text begins with the time of day, and rest comes behind it
record BeginsWithTime (text : List ℕ) (time : Time) (rest : List ℕ) : Type 0 where
  fraction : List ℕ
  of_fraction : SpellsFraction fraction time.subsec_nanosecond
  spelled : text ≡ hour_and_minute time ++ codes ":" ++ zero_padded 2 time.second ++ fraction ++ rest

read_time-spelled : (text : List ℕ) (p : Time × List ℕ) → read_time text ≡ Some p → BeginsWithTime text p.0 p.1
unfolding read_time
read_time-spelled text p e =
    option_and_then_some _ (read_two text) p e λ hour at_hour after_hour.
    option_and_then_some _ (read_two_after hour.1 58) p after_hour λ minute at_minute after_minute.
    option_and_then_some _ (read_two_after minute.1 58) p after_minute λ second at_second after_second.
    option_and_then_some _ (read_fraction second.1) p after_second λ nanos at_nanos after_nanos.
    option_and_then_some _ (time_at hour.0 minute.0 second.0 nanos.0) p after_nanos λ time at_time last.
    let h = read_two-spelled text hour at_hour in
    let m = read_two_after-spelled hour.1 58 minute at_minute in
    let s = read_two_after-spelled minute.1 58 second at_second in
    let f = read_fraction-spelled second.1 nanos at_nanos in
    let same : time ≡ p.0 = ap (λ q. q.0) (same_Some _ _ last) in
    let l : nanos.1 ≡ p.1 = ap (λ q. q.1) (same_Some _ _ last) in
    let parts = time_at-spelled hour.0 minute.0 second.0 nanos.0 p.0 (at_time ∙ ap (λ t. Some t) same) in
    record {
      fraction = f.0;
      of_fraction = rw parts.3 f.1;
      spelled = rw (parts.0, parts.1, parts.2) cc;
    }

read_time-of : (fraction rest : List ℕ) (time : Time) → SpellsFraction fraction time.subsec_nanosecond → EndsTime rest
    → read_time (hour_and_minute time ++ codes ":" ++ zero_padded 2 time.second ++ fraction ++ rest) ≡ Some (time, rest)
unfolding read_time
read_time-of fraction rest time of_fraction ends =
    let h = time.hour_in in
    let m = time.minute_in in
    let s = time.second_in in
    rw (
      read_two-of time.hour _ (omega arith),
      read_two_after-of 58 time.minute _ (omega arith),
      read_two_after-of 58 time.second _ (omega arith),
      read_fraction-of fraction rest time.subsec_nanosecond of_fraction ends,
      time_at-found time.hour time.minute time.second time.subsec_nanosecond time refl refl refl refl,
    )

after_mark-spelled : (mark : ℕ) (text rest : List ℕ) → after_mark mark text ≡ Some rest → text ≡ mark ∷ rest
unfolding after_mark
after_mark-spelled mark [] rest e = absurd (none-some rest e)
after_mark-spelled mark (b ∷ text) rest e =
    let h = if_passed (b == mark) _ rest e in
    let first : b ≡ mark = grind (arith, nat_tests, h.0) in
    let same = same_Some _ _ h.1 in
    cc

-- the text begins with the date and the time of day, and rest comes behind it
record BeginsWithDateTime (text : List ℕ) (shown : DateTime) (rest : List ℕ) : Type 0 where
  date : List ℕ
  clock : List ℕ
  of_date : SpellsDate date shown.date
  of_time : BeginsWithTime clock shown.time rest
  spelled : text ≡ date ++ (codes "T" ++ clock)

read_datetime-spelled : (text : List ℕ) (p : DateTime × List ℕ) → read_datetime text ≡ Some p → BeginsWithDateTime text p.0 p.1
unfolding read_datetime
read_datetime-spelled text p e =
    option_and_then_some _ (read_date text) p e λ date at_date after_date.
    option_and_then_some _ (after_mark 84 date.1) p after_date λ clock at_clock after_clock.
    option_and_then_some _ (read_time clock) p after_clock λ time at_time last.
    let d = read_date-spelled text date at_date in
    let m = after_mark-spelled 84 date.1 clock at_clock in
    let t = read_time-spelled clock time at_time in
    let same = same_Some _ _ last in
    subst (λ (q : DateTime × List ℕ). BeginsWithDateTime text q.0 q.1) same (record {
      date = d.0;
      clock = clock;
      of_date = d.1;
      of_time = t;
      spelled = d.2 ∙ ap (λ l. d.0 ++ l) m;
    })

read_datetime-of : (date fraction rest : List ℕ) (shown : DateTime) → SpellsDate date shown.date → SpellsFraction fraction shown.time.subsec_nanosecond → EndsTime rest
    → read_datetime (date ++ (codes "T" ++ (hour_and_minute shown.time ++ codes ":" ++ zero_padded 2 shown.time.second ++ fraction ++ rest))) ≡ Some (shown, rest)
unfolding read_datetime after_mark
read_datetime-of date fraction rest shown of_date of_fraction ends =
    rw (read_date-of date _ shown.date of_date, read_time-of fraction rest shown.time of_fraction ends)

utc_mark : (mark : List ℕ) → is_utc_mark mark ≡ true → IsUtcMark mark
utc_mark [] e = inl refl
utc_mark (b ∷ rest) e = by_test (bytes_eq (b ∷ rest) (codes "Z")) (bytes_eq (b ∷ rest) (codes "+00:00")) refl refl e
  where
    by_test : (z offset : Bool) → bytes_eq (b ∷ rest) (codes "Z") ≡ z → bytes_eq (b ∷ rest) (codes "+00:00") ≡ offset → (z || offset) ≡ true → IsUtcMark (b ∷ rest)
    by_test true offset p q e = inr (inl ((bytes_eq-Decides (b ∷ rest) (codes "Z")).0 p))
    by_test false true p q e = inr (inr ((bytes_eq-Decides (b ∷ rest) (codes "+00:00")).0 q))
    by_test false false p q e = absurd (grind (arith, e))

utc_mark-of : (mark : List ℕ) → IsUtcMark mark → is_utc_mark mark ≡ true
utc_mark-of mark (inl e) = rw e
utc_mark-of mark (inr (inl e)) = rw e
utc_mark-of mark (inr (inr e)) = rw e

utc_mark-ends : (mark : List ℕ) → IsUtcMark mark → EndsTime mark
unfolding digits_from read_fraction
utc_mark-ends mark (inl e) = rw e (record { no_digit = λ weight. refl; no_fraction = refl })
utc_mark-ends mark (inr (inl e)) = rw e (record { no_digit = λ weight. refl; no_fraction = refl })
utc_mark-ends mark (inr (inr e)) = rw e (record { no_digit = λ weight. refl; no_fraction = refl })

instant_at-spelled : (n : ℤ) (x : Timestamp) → instant_at n ≡ Some x → x.nanosecond ≡ n
unfolding instant_at
instant_at-spelled n x e = let same = some_if-some (is_instant n) _ x e in ap (λ t. t.nanosecond) (sym same.1)

regroup : (d t h c s f m : List ℕ) → d ++ t ++ h ++ c ++ s ++ f ++ m ≡ d ++ (t ++ (h ++ c ++ s ++ f ++ m))
regroup d t h c s f m = simp append_assoc

pub instants_spelled : InstantsAreSpelled
unfolding instant_of
instants_spelled text instant = (
  λ e.
      option_and_then_some _ (read_datetime text) instant e λ p at last.
      let found = read_datetime-spelled text p at in
      let time = found.of_time in
      let ended = if_passed (is_utc_mark p.1) _ instant last in
      let same = instant_at-spelled (civil_nanos p.0) instant ended.1 in
      let whole = regroup found.date (codes "T") (hour_and_minute p.0.time) (codes ":") (zero_padded 2 p.0.time.second) time.fraction p.1 in
      record {
        shown = p.0;
        date = found.date;
        fraction = time.fraction;
        mark = p.1;
        of_date = found.of_date;
        time_in = (p.0.time.hour_in, p.0.time.minute_in, p.0.time.second_in);
        of_fraction = time.of_fraction;
        of_mark = utc_mark p.1 ended.0;
        spelled = found.spelled ∙ ap (λ l. found.date ++ (codes "T" ++ l)) time.spelled ∙ sym whole;
        nanoseconds = same;
        in_range = rw (← same) instant.in_range;
      },
  λ s.
      let time = s.shown.time in
      let whole = regroup s.date (codes "T") (hour_and_minute time) (codes ":") (zero_padded 2 time.second) s.fraction s.mark in
      let read = read_datetime-of s.date s.fraction s.mark s.shown s.of_date s.of_fraction (utc_mark-ends s.mark s.of_mark) in
      let shown : read_datetime text ≡ Some (s.shown, s.mark) = ap read_datetime (s.spelled ∙ whole) ∙ read in
      rw (shown, utc_mark-of s.mark s.of_mark, instant_at-found (civil_nanos s.shown) instant s.nanoseconds),
)
