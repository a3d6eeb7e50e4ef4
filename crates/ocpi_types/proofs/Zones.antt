-- What `jiff` makes of an offset's seconds and of a rule's text, and that the names of a rule decide no offset.
use Rattle.std.proofs.Common.{◌≡◌, ℕ, ℤ, Bool, true, false, ◌&&◌, IsTrue, ◌↔◌, List, Option, Some, None, option_map, Result, Ok, Err, IsOk, IfOk, IsSome, if◌then◌else◌, refl, ap, sym, subst, arith, rules}
use Rattle.std.specs.Result.{result_ok}
use Rattle.std.proofs.Props.{props}
use Rattle.std.proofs.lemmas.Bool.Decides.{nat_tests}
use mathlib.Core.HLevel.{is_prop→PathP}
use Rattle.jiff.specs.Placed.{IsPosixZone}
use Rattle.jiff.specs.Types.{Offset, TimeZone as PlainZone, UTC, Unknown, Fixed, Posix, Tzif}
use Rattle.jiff.specs.Words.{IsOffsetSeconds, IsWithin, read_whole, tz_view}
use Rattle.jiff_tz.specs.PosixDay.{is_rule_day}
use Rattle.jiff_tz.specs.PosixRule.{dst_at_by, in_window, utc_window, match_some}
use Rattle.jiff_tz.specs.PosixText.{TzText, dst_view, day_time_view}
use Rattle.jiff_tz.specs.Year.{year_of_nanos}
use Rattle.jiff_tz.specs.Zone.{offset_at}
use Rattle.jiff_tz.specs.declared.posix.DayTime.{DayTime}
use Rattle.jiff_tz.specs.declared.posix.Dst.{Dst}
use Rattle.jiff_tz.specs.declared.posix.TimeZone.{TimeZone as Rule}
use Rattle.ocpi_json.specs.SomeIf.{some_if}
use Rattle.ocpi_types.specs.Zone.{◌>>=◌, is_within, offset_of, day_time_of, dst_of, dst_if_any, rule_of, rule_zone_of, nameless_dst, nameless_rule, nameless}
use Rattle.ocpi_types.specs.Inner.ZoneRanges.{offset_in}

some_if-passed : {X : Type 0} (b : Bool) (f : IsTrue b → X) (x : X) → IsTrue b → ((h : IsTrue b) → f h ≡ x) → some_if b f ≡ Some x
some_if-passed true f x passed same = ap Some (same refl)
some_if-passed false f x passed same = cc

some_if-failed : {X : Type 0} (b : Bool) (f : IsTrue b → X) → (IsTrue b → ⊥) → some_if b f ≡ None
some_if-failed true f failed = absurd (failed refl)
some_if-failed false f failed = refl

-- ---- offsets

same_offset : (a b : Offset) → a.seconds ≡ b.seconds → a ≡ b
same_offset a b p = λ i. record {
  seconds = p i;
  in_range = is_prop→PathP (λ j. IsOffsetSeconds (p j)) (λ j. hlevel props) a.in_range b.in_range i;
}

is_within_offset : (n : ℤ) → IsOffsetSeconds n → IsTrue (is_within 93_599 n)
is_within_offset n h = grind (arith, nat_tests)

offset_found : (n : ℤ) (x : Offset) → x.seconds ≡ n → offset_of n ≡ Some x
unfolding offset_of
offset_found n x p =
    let h : IsOffsetSeconds n = subst IsOffsetSeconds p x.in_range in
    some_if-passed (is_within 93_599 n) _ x (is_within_offset n h) (λ _. same_offset _ x (sym p))

no_offset : (n : ℤ) → (IsOffsetSeconds n → ⊥) → offset_of n ≡ None
unfolding offset_of
no_offset n absent = some_if-failed (is_within 93_599 n) _ (λ h. absent (offset_in n h))

pub offset_made : {E : Type 0} (n : ℤ) (r : Result Offset E) → (IsOk r ↔ IsOffsetSeconds n) → IfOk r (λ o. o.seconds ≡ n) → result_ok r ≡ offset_of n
offset_made n (Ok x) succeeds value = sym (offset_found n x value)
offset_made n (Err e) succeeds value =
    sym (no_offset n (λ h. let ok = succeeds.1 h in cc))

-- ---- rules

both : (a b : Bool) → IsTrue a → IsTrue b → IsTrue (a && b)
both true true p q = refl
both true false p q = q
both false b p q = p

within : (n : ℤ) → IsWithin 604_799 n → IsTrue (is_within 604_799 n)
within n h = grind (arith, nat_tests)

same_day_time : (a b : DayTime) → a.date ≡ b.date → a.time ≡ b.time → a ≡ b
same_day_time a b p q = λ i. record {
  date = p i;
  time = q i;
  date_in = is_prop→PathP (λ j. IsTrue (is_rule_day (p j))) (λ j. hlevel props) a.date_in b.date_in i;
  time_in = is_prop→PathP (λ j. IsWithin 604_799 (q j)) (λ j. hlevel props) a.time_in b.time_in i;
}

day_time_found : (d : DayTime) → day_time_of (day_time_view d) ≡ Some d
unfolding day_time_of
day_time_found d =
    some_if-passed (is_rule_day d.date && is_within 604_799 d.time) _ d
    (both (is_rule_day d.date) (is_within 604_799 d.time) d.date_in (within d.time d.time_in))
    (λ _. same_day_time _ d refl refl)

dst_found : (d : Dst) → dst_of (dst_view d) ≡ Some (nameless_dst d)
unfolding dst_of
dst_found d =
    rw (offset_found d.offset.seconds d.offset refl, day_time_found d.rule.start, day_time_found d.rule.end) refl

dst_if_any_found : (d : Option Dst) → dst_if_any (option_map dst_view d) ≡ Some (option_map nameless_dst d)
dst_if_any_found None = refl
dst_if_any_found (Some d) = rw (dst_found d) refl

rule_found : (r : Rule) → rule_of (tz_view r) ≡ Some (nameless_rule r)
unfolding rule_of
rule_found r = rw (offset_found r.std_offset.seconds r.std_offset refl, dst_if_any_found r.dst) refl

pub rule_read : (text : List ℕ) (z : PlainZone) → IsPosixZone text z → Some (nameless z) ≡ rule_zone_of text
unfolding rule_zone_of
rule_read text (Posix r) h = rw (h, rule_found r) refl
rule_read text UTC h = absurd h
rule_read text Unknown h = absurd h
rule_read text (Fixed o) h = absurd h
rule_read text (Tzif t) h = absurd h

no_rule_in : (o : Option TzText) → (IsSome o → ⊥) → None ≡ (o >>= (λ read. rule_of read >>= (λ rule. Some (Posix rule))))
no_rule_in None h = refl
no_rule_in (Some t) h = absurd (h (search rules))

pub no_rule_read : (text : List ℕ) → (IsSome (read_whole text) → ⊥) → None ≡ rule_zone_of text
unfolding rule_zone_of
no_rule_read text h = no_rule_in (read_whole text) h

-- ---- names

dst_chosen : (std : Offset) (d : Dst) (b : Bool) → match_some (if b then Some (nameless_dst d) else None) std (λ x. x.offset) ≡ match_some (if b then Some d else None) std (λ x. x.offset)
dst_chosen std d true = refl
dst_chosen std d false = refl

dst_in_force : (std : Offset) (d : Option Dst) (n : ℤ) → match_some (dst_at_by std (option_map nameless_dst d) n) std (λ x. x.offset) ≡ match_some (dst_at_by std d n) std (λ x. x.offset)
unfolding utc_window
dst_in_force std None n = refl
dst_in_force std (Some d) n = dst_chosen std d (in_window (utc_window d (year_of_nanos n) std) n)

pub offset_without_names : (z : PlainZone) (n : ℤ) → offset_at (nameless z) n ≡ offset_at z n
unfolding offset_at
offset_without_names UTC n = refl
offset_without_names Unknown n = refl
offset_without_names (Fixed o) n = refl
offset_without_names (Posix r) n = ap (λ o. o.seconds) (dst_in_force r.std_offset r.dst n)
offset_without_names (Tzif t) n = refl
