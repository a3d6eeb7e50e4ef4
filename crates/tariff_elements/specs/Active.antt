-- Which component of a tariff is active (OCPI 2.2.1, TariffElement object).
use Rattle.std.specs.Prelude.{Bool, true, ◌&&◌, is_some, find, List, Option, option_and_then}
use Rattle.std.specs.Option.{option_map_or}
use Rattle.ocpi_types.specs.Component.{same_component_kind}
use Rattle.ocpi_types.specs.declared.component.ComponentKind.{ComponentKind}
use Rattle.ocpi_types.specs.declared.component.PriceComponent.{PriceComponent}
use Rattle.ocpi_types.specs.declared.element.Element.{Element}
use Rattle.ocpi_types.specs.declared.tariff.Tariff.{Tariff}
use Rattle.tariff_elements.specs.LocalTime.{LocalMoment}
use Rattle.tariff_elements.specs.Matching.{matches}

-- the component of the kind in an element, the first where there are several
abbrev pub component_of : ComponentKind → Element → Option PriceComponent
component_of kind element = find (λ component. same_component_kind component.kind kind) element.price_components

-- the element's restrictions hold, or it has none
abbrev pub applies : LocalMoment → Element → Bool
applies m element = option_map_or (λ restrictions. matches restrictions m) element.restrictions true

-- the first element that has a component of the kind and applies
abbrev pub chosen : List Element → ComponentKind → LocalMoment → Option Element
chosen elements kind m =
    find (λ element. is_some (component_of kind element) && applies m element) elements

-- its component of the kind
abbrev pub active : Tariff → ComponentKind → LocalMoment → Option PriceComponent
active tariff kind m = option_and_then (component_of kind) (chosen tariff.elements kind m)
