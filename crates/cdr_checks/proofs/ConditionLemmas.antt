-- The conditions of a CDR hold if and only if nothing is found that breaks them.
use Rattle.std.proofs.Common.{◌≡◌, ◌∙◌, ℕ, ℤ, pos, negsuc, ◌+◌, Bool, true, false, not, ◌&&◌, ◌||◌, List, [], ◌∷◌, ◌++◌, refl, sym, ap, Option, Some, None, is_none, is_some, option_and_then, nat_le, nat_lt, int_le, int_lt, if◌then◌else◌}
use Rattle.std.specs.List.{list_all, list_any}
use Rattle.std.specs.Option.{option_map_or}
use Rattle.std.proofs.lemmas.Bool.{le-leb, lt-leb, ltb-false, ltb-true}
use Rattle.jiff.specs.Types.{Timestamp}
use Rattle.ocpi_json.specs.declared.name.Name.{Name}
use Rattle.ocpi_json.specs.declared.name.Name.TheVariants.{MaxCurrent, MaxPower, MinCurrent, MinPower}
use Rattle.ocpi_types.specs.declared.cdr.Cdr.{Cdr}
use Rattle.ocpi_types.specs.declared.charging_period.ChargingPeriod.{ChargingPeriod}
use Rattle.ocpi_types.specs.declared.dimension.Dimension.{Dimension}
use Rattle.ocpi_types.specs.declared.element.Element.{Element}
use Rattle.ocpi_types.specs.declared.restrictions.Restrictions.{Restrictions}
use Rattle.ocpi_types.specs.declared.tariff.Tariff.{Tariff}
use Rattle.ocpi_types.specs.Currency.{same_currency}
use Rattle.tariff_elements.specs.FirstOf.{first_from, or_later}
use Rattle.tariff_elements.specs.Support.{bound_of, electric_bound, unsupported}
use Rattle.cdr_rating.specs.Pricing.{lacks_its_tariff, lacks_tariff, tariff_of}
use Rattle.cdr_checks.specs.CdrConditions.{counts_reservation, currency_but, id_not_given, other_currency, out_of_order, out_of_order_from, reservation, reserved, reserved_in, tariff_not_given, unsupported_tariff}
use Rattle.cdr_checks.specs.Conditions.{are_in_order, has_dates_in_order, has_electric_bound, has_no_reservation, has_one_currency, has_supported_tariffs, is_electric, is_reservation, is_supported}

-- ---- tests of an option

none_is : {X : Type 0} (o : Option X) → is_none o ≡ not (is_some o)
none_is None = refl
none_is (Some x) = refl

some_if : {X : Type 0} (b : Bool) (x : X) → is_some (if b then Some x else None) ≡ b
some_if true x = refl
some_if false x = refl

none_if : {X : Type 0} (b : Bool) (x : X) → is_none (if b then None else Some x) ≡ b
none_if true x = refl
none_if false x = refl

none_unless : {X : Type 0} (b : Bool) (x : X) (rest : Option X) → is_none (if b then Some x else rest) ≡ (not b && is_none rest)
none_unless true x rest = refl
none_unless false x rest = refl

-- ---- the first of a list

module _ {X Y : Type 0} (say : X → Option Y) where
  -- nothing is said if and only if each holds
  none_first : (holds : X → Bool) → ((x : X) → is_none (say x) ≡ holds x) → (number : ℕ) (xs : List X) → is_none (first_from say number xs) ≡ list_all holds xs
  none_first holds each number [] = refl
  none_first holds each number (x ∷ xs) =
      by (say x) (first_from say (number + 1) xs) ∙ (ap (λ (b : Bool). b && is_none (first_from say (number + 1) xs)) (each x)
      ∙ ap (λ (b : Bool). holds x && b) (none_first holds each (number + 1) xs))
    where
      by : (o : Option Y) (later : Option (ℕ × Y)) → is_none (or_later number o later) ≡ (is_none o && is_none later)
      by None later = refl
      by (Some y) later = refl

  -- something is said if and only if one breaks it
  some_first : (breaks : X → Bool) → ((x : X) → is_some (say x) ≡ breaks x) → (number : ℕ) (xs : List X) → is_some (first_from say number xs) ≡ list_any breaks xs
  some_first breaks each number [] = refl
  some_first breaks each number (x ∷ xs) =
      by (say x) (first_from say (number + 1) xs) ∙ (ap (λ (b : Bool). b || is_some (first_from say (number + 1) xs)) (each x)
      ∙ ap (λ (b : Bool). breaks x || b) (some_first breaks each (number + 1) xs))
    where
      by : (o : Option Y) (later : Option (ℕ × Y)) → is_some (or_later number o later) ≡ (is_some o || is_some later)
      by None later = refl
      by (Some y) later = refl

-- ---- its tariffs

pub one_currency : (cdr : Cdr) → is_none (other_currency cdr) ≡ has_one_currency cdr
one_currency cdr =
    none_first (currency_but cdr.currency) (λ (tariff : Tariff). same_currency tariff.currency cdr.currency)
    (λ tariff. none_if (same_currency tariff.currency cdr.currency) tariff.currency) 0 cdr.tariffs

pub tariff_lacking : (cdr : Cdr) → is_some (tariff_not_given cdr) ≡ lacks_tariff cdr
tariff_lacking cdr =
    some_first (id_not_given cdr) (lacks_its_tariff cdr) (λ period. by period.tariff_id (not (is_some (tariff_of cdr period)))) 0 cdr.charging_periods
  where
    by : (id : Option (List ℕ)) (lacks : Bool) → is_some (if is_some id && lacks then id else None) ≡ (is_some id && lacks)
    by None lacks = refl
    by (Some id) true = refl
    by (Some id) false = refl

one_of_four : (a b c d : Bool) → is_some (if a then Some MinCurrent else if b then Some MaxCurrent else if c then Some MinPower else if d then Some MaxPower else None) ≡ (a || b || c || d)
one_of_four true b c d = refl
one_of_four false true c d = refl
one_of_four false false true d = refl
one_of_four false false false true = refl
one_of_four false false false false = refl

bounded : (element : Element) → is_some (bound_of element) ≡ has_electric_bound element
bounded element = by element.restrictions
  where
    by : (restrictions : Option Restrictions) → is_some (option_and_then (λ r. electric_bound r.electric) restrictions) ≡ option_map_or (λ r. is_electric r.electric) restrictions false
    by None = refl
    by (Some r) = one_of_four r.electric.min_current r.electric.max_current r.electric.min_power r.electric.max_power

pub supported : (tariff : Tariff) → is_none (unsupported tariff) ≡ is_supported tariff
supported tariff = none_is (unsupported tariff) ∙ ap not (some_first bound_of has_electric_bound bounded 0 tariff.elements)

not_not : (b : Bool) → not (not b) ≡ b
not_not true = refl
not_not false = refl

-- by whether a bound is found
pub told_supported : (tariff : Tariff) (found : Option (ℕ × Name)) (b : Bool) → found ≡ unsupported tariff → is_some found ≡ not b → b ≡ is_supported tariff
told_supported tariff found b same told = sym (not_not b) ∙ (sym (ap not told) ∙ (sym (none_is found) ∙ (ap is_none same ∙ supported tariff)))

pub all_supported : (cdr : Cdr) → is_none (unsupported_tariff cdr) ≡ has_supported_tariffs cdr
all_supported cdr = none_first unsupported is_supported supported 0 cdr.tariffs

-- ---- its moments

not_less : (a b : ℕ) → nat_le b a ≡ not (nat_lt a b)
not_less a b = by (nat_lt a b) refl
  where
    by : (less : Bool) → nat_lt a b ≡ less → nat_le b a ≡ not less
    by true e = lt-leb b a (ltb-true a b e)
    by false e = le-leb b a (ltb-false a b e)

not_before : (a b : ℤ) → int_le b a ≡ not (int_lt a b)
not_before (pos a) (pos b) = not_less a b
not_before (pos a) (negsuc b) = refl
not_before (negsuc a) (pos b) = refl
not_before (negsuc a) (negsuc b) = not_less b a

in_order_from : (number : ℕ) (latest : Timestamp) (periods : List ChargingPeriod) (end : Timestamp)
    → is_none (out_of_order_from number latest periods end) ≡ are_in_order latest.nanosecond periods end.nanosecond
in_order_from number latest [] end =
    none_unless (int_lt end.nanosecond latest.nanosecond) _ None ∙ ap (λ (b : Bool). b && true) (sym (not_before end.nanosecond latest.nanosecond))
in_order_from number latest (period ∷ later) end =
    let start = period.start_date_time in
    let rest = out_of_order_from (number + 1) start later end in
    none_unless (int_lt start.nanosecond latest.nanosecond) _ rest
    ∙ (ap (λ (b : Bool). b && is_none rest) (sym (not_before start.nanosecond latest.nanosecond))
    ∙ ap (λ (b : Bool). int_le latest.nanosecond start.nanosecond && b) (in_order_from (number + 1) start later end))

pub in_order : (cdr : Cdr) → is_none (out_of_order cdr) ≡ has_dates_in_order cdr
in_order cdr = in_order_from 0 cdr.start_date_time cdr.charging_periods cdr.end_date_time

-- ---- its volumes

reserves : (counted : Dimension) → is_some (reserved counted) ≡ is_reservation counted
reserves counted = some_if (counts_reservation counted.kind && int_lt (pos 0) counted.volume) counted.volume

pub not_reserved : (cdr : Cdr) → is_none (reservation cdr) ≡ has_no_reservation cdr
not_reserved cdr =
    none_is (reservation cdr)
    ∙ ap not
    (some_first reserved_in (λ (period : ChargingPeriod). list_any is_reservation period.dimensions)
    (λ period. some_first reserved is_reservation reserves 0 period.dimensions) 0 cdr.charging_periods)
