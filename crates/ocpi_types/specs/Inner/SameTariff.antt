-- The test whether two tariffs have the same content, member by member.
use Rattle.std.specs.Prelude.{Bool, ◌&&◌, ◌==◌}
use Rattle.std.specs.Bool.{beq}
use Rattle.std.specs.Cmp.Lexicographic.{pointwise}
use Rattle.std.specs.Option.{option_eq}
use Rattle.std.specs.Ordering.{int_eq}
use Rattle.std.specs.Str.{bytes_eq}
use Rattle.jiff.specs.Types.{Date, Time, Timestamp}
use Rattle.ocpi_json.specs.Folded.{same_folded}
use Rattle.ocpi_types.specs.Component.{same_component_kind}
use Rattle.ocpi_types.specs.Currency.{same_currency}
use Rattle.ocpi_types.specs.DayOfWeek.{same_day}
use Rattle.ocpi_types.specs.Party.{same_party}
use Rattle.ocpi_types.specs.declared.component.PriceComponent.{PriceComponent}
use Rattle.ocpi_types.specs.declared.element.Element.{Element}
use Rattle.ocpi_types.specs.declared.restrictions.ElectricBounds.{ElectricBounds}
use Rattle.ocpi_types.specs.declared.restrictions.Restrictions.{Restrictions}
use Rattle.ocpi_types.specs.declared.tariff.Tariff.{Tariff}

abbrev pub same_time : Time → Time → Bool
same_time a b =
    (a.hour == b.hour) && (a.minute == b.minute) && (a.second == b.second)
    && (a.subsec_nanosecond == b.subsec_nanosecond)

abbrev pub same_date : Date → Date → Bool
same_date a b = int_eq a.year b.year && (a.month == b.month) && (a.day == b.day)

abbrev pub same_instant : Timestamp → Timestamp → Bool
same_instant a b = int_eq a.nanosecond b.nanosecond

abbrev pub same_component : PriceComponent → PriceComponent → Bool
same_component a b = same_component_kind a.kind b.kind && (a.price == b.price) && (a.step_size == b.step_size)

abbrev pub same_bounds : ElectricBounds → ElectricBounds → Bool
same_bounds a b =
    beq a.min_current b.min_current && beq a.max_current b.max_current && beq a.min_power b.min_power
    && beq a.max_power b.max_power

-- a member that is missing is the same as one that is missing, and as no other
unfoldable pub same_restrictions : Restrictions → Restrictions → Bool
same_restrictions a b =
    option_eq same_time a.start_time b.start_time && option_eq same_time a.end_time b.end_time
    && option_eq same_date a.start_date b.start_date && option_eq same_date a.end_date b.end_date
    && option_eq ◌==◌ a.min_kwh b.min_kwh && option_eq ◌==◌ a.max_kwh b.max_kwh
    && option_eq ◌==◌ a.min_duration b.min_duration && option_eq ◌==◌ a.max_duration b.max_duration
    && pointwise same_day a.day_of_week b.day_of_week && option_eq bytes_eq a.reservation b.reservation
    && same_bounds a.electric b.electric

unfoldable pub same_element : Element → Element → Bool
same_element a b =
    pointwise same_component a.price_components b.price_components
    && option_eq same_restrictions a.restrictions b.restrictions

unfoldable pub same_tariff : Tariff → Tariff → Bool
same_tariff a b =
    same_party a.operator b.operator && same_folded a.id b.id && same_currency a.currency b.currency
    && option_eq ◌==◌ a.min_price b.min_price && option_eq ◌==◌ a.max_price b.max_price
    && pointwise same_element a.elements b.elements && same_instant a.last_updated b.last_updated
