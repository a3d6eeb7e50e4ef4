-- A tariff element (OCPI 2.2.1, TariffElement object): 1 to 16 price components, and when they apply.
use Rattle.std.specs.Prelude.{Result, Ok}
use Rattle.json.specs.Json.{Json as Data}
use Rattle.ocpi_json.specs.Fields.{list, object, optional, required}
use Rattle.ocpi_json.specs.Members.{◌>>=◌, each, if_any, inside}
use Rattle.ocpi_json.specs.declared.member_fault.MemberFault.{MemberFault}
use Rattle.ocpi_json.specs.declared.name.Name.TheVariants as name
use Rattle.ocpi_types.specs.Component.{component_at}
use Rattle.ocpi_types.specs.Restrictions.{restrictions_at}
use Rattle.ocpi_types.specs.declared.element.Element.{Element}

unfoldable pub element_at : Data → Result Element MemberFault
element_at node = do
  items ← required (list 1 16) name.PriceComponents node
  price_components ← each name.PriceComponents component_at items
  found ← optional object name.Restrictions node
  restrictions ← if_any (λ object. inside name.Restrictions (restrictions_at object)) found
  Ok (record { price_components = price_components; restrictions = restrictions })
