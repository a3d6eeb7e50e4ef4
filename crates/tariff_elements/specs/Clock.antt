-- Which tariffs ask what a clock shows.
use Rattle.std.specs.Prelude.{◌≡◌, ◌==◌, Bool, false, not, ◌&&◌, ◌||◌, is_some, length}
use Rattle.std.specs.List.{list_any}
use Rattle.std.specs.Option.{option_map_or}
use Rattle.ocpi_types.specs.declared.component.ComponentKind.{ComponentKind}
use Rattle.ocpi_types.specs.declared.element.Element.{Element}
use Rattle.ocpi_types.specs.declared.restrictions.Restrictions.{Restrictions}
use Rattle.ocpi_types.specs.declared.tariff.Tariff.{Tariff}
use Rattle.tariff_elements.specs.Active.{active, component_of}
use Rattle.tariff_elements.specs.LocalTime.{LocalMoment}

-- the date, the day of the week or the time of day is restricted
abbrev pub has_clock_bound : Restrictions → Bool
has_clock_bound r =
    is_some r.start_time || is_some r.end_time || is_some r.start_date || is_some r.end_date || not (length r.day_of_week == 0)

-- the element has a component of the kind and is so restricted
abbrev pub is_by_clock : ComponentKind → Element → Bool
is_by_clock kind element = is_some (component_of kind element) && option_map_or has_clock_bound element.restrictions false

-- an element of the tariff is
abbrev pub asks_clock : Tariff → ComponentKind → Bool
asks_clock tariff kind = list_any (is_by_clock kind) tariff.elements

-- the same component of the kind is active at all moments with the same energy and seconds of the session
abbrev pub IsActiveAnyTime : Tariff → ComponentKind → Type 0
IsActiveAnyTime tariff kind =
    (m n : LocalMoment) → m.energy ≡ n.energy → m.seconds ≡ n.seconds → active tariff kind m ≡ active tariff kind n
