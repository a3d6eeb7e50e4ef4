-- The conditions of a CDR that is no Credit CDR, each over the whole CDR (OCPI 2.2.1, CDR object). `CdrConditions` states what is found
-- if one does not hold.
use Rattle.std.specs.Prelude.{ℤ, pos, int_le, int_lt, Bool, false, not, ◌&&◌, ◌||◌, List, [], ◌∷◌, ◌++◌, map}
use Rattle.std.specs.Cmp.Lexicographic.{pointwise}
use Rattle.std.specs.List.{list_all, list_any}
use Rattle.std.specs.Option.{option_map_or}
use Rattle.ocpi_types.specs.declared.cdr.Cdr.{Cdr}
use Rattle.ocpi_types.specs.declared.charging_period.ChargingPeriod.{ChargingPeriod}
use Rattle.ocpi_types.specs.declared.dimension.Dimension.{Dimension}
use Rattle.ocpi_types.specs.declared.element.Element.{Element}
use Rattle.ocpi_types.specs.declared.restrictions.ElectricBounds.{ElectricBounds}
use Rattle.ocpi_types.specs.declared.tariff.Tariff.{Tariff}
use Rattle.ocpi_types.specs.Currency.{same_currency}
use Rattle.cdr_rating.specs.Pricing.{lacks_tariff}
use Rattle.cdr_checks.specs.CdrConditions.{counts_reservation}

-- each of its tariffs has its currency
abbrev pub has_one_currency : Cdr → Bool
has_one_currency cdr = list_all (λ tariff. same_currency tariff.currency cdr.currency) cdr.tariffs

abbrev pub starts : List ChargingPeriod → List ℤ
starts periods = map (λ period. period.start_date_time.nanosecond) periods

-- a start, the starts of charging periods, an end: none is before the one in front of it
abbrev pub are_in_order : ℤ → List ChargingPeriod → ℤ → Bool
are_in_order start periods end = pointwise int_le (start ∷ starts periods) (starts periods ++ end ∷ [])

abbrev pub has_dates_in_order : Cdr → Bool
has_dates_in_order cdr = are_in_order cdr.start_date_time.nanosecond cdr.charging_periods cdr.end_date_time.nanosecond

-- it has each tariff that a charging period names
abbrev pub has_tariffs_given : Cdr → Bool
has_tariffs_given cdr = not (lacks_tariff cdr)

-- a bound on current or power is given
abbrev pub is_electric : ElectricBounds → Bool
is_electric given = given.min_current || given.max_current || given.min_power || given.max_power

abbrev pub has_electric_bound : Element → Bool
has_electric_bound element = option_map_or (λ restrictions. is_electric restrictions.electric) element.restrictions false

-- no element has a bound on current or power
abbrev pub is_supported : Tariff → Bool
is_supported tariff = not (list_any has_electric_bound tariff.elements)

-- so of each of its tariffs
abbrev pub has_supported_tariffs : Cdr → Bool
has_supported_tariffs cdr = list_all is_supported cdr.tariffs

-- a RESERVATION_TIME volume above 0
abbrev pub is_reservation : Dimension → Bool
is_reservation counted = counts_reservation counted.kind && int_lt (pos 0) counted.volume

-- no charging period has one
abbrev pub has_no_reservation : Cdr → Bool
has_no_reservation cdr = not (list_any (λ period. list_any is_reservation period.dimensions) cdr.charging_periods)
