-- Which tariffs cannot be judged: what a bound on current or power decides is not in the data of a session.
use Rattle.std.specs.Prelude.{ℕ, Option, Some, None, option_and_then, if◌then◌else◌}
use Rattle.ocpi_json.specs.declared.name.Name.{Name}
use Rattle.ocpi_json.specs.declared.name.Name.TheVariants.{MinCurrent, MaxCurrent, MinPower, MaxPower}
use Rattle.ocpi_types.specs.declared.element.Element.{Element}
use Rattle.ocpi_types.specs.declared.restrictions.ElectricBounds.{ElectricBounds}
use Rattle.ocpi_types.specs.declared.tariff.Tariff.{Tariff}
use Rattle.tariff_elements.specs.FirstOf.{first_of}

-- the first of the four that is given, in the order in which they are read
abbrev pub electric_bound : ElectricBounds → Option Name
electric_bound given =
    if given.min_current then Some MinCurrent
    else if given.max_current then Some MaxCurrent
    else if given.min_power then Some MinPower
    else if given.max_power then Some MaxPower
    else None

abbrev pub bound_of : Element → Option Name
bound_of element = option_and_then (λ restrictions. electric_bound restrictions.electric) element.restrictions

-- the number of the first element that has such a bound, and the first that it has
abbrev pub unsupported : Tariff → Option (ℕ × Name)
unsupported tariff = first_of bound_of tariff.elements
