-- A tariff (OCPI 2.2.1, Tariff object).
use Rattle.std.specs.Prelude.{ℕ, Option, Result, Ok}
use Rattle.json.specs.Json.{Json as Data}
use Rattle.ocpi_json.specs.Fields.{ascii, list, moment, object, optional, required}
use Rattle.ocpi_json.specs.Members.{◌>>=◌, each, if_any, inside}
use Rattle.ocpi_json.specs.declared.member_fault.MemberFault.{MemberFault}
use Rattle.ocpi_json.specs.declared.name.Name.{Name}
use Rattle.ocpi_json.specs.declared.name.Name.TheVariants as name
use Rattle.ocpi_types.specs.Currency.{a_currency}
use Rattle.ocpi_types.specs.Element.{element_at}
use Rattle.ocpi_types.specs.Members.{quantity}
use Rattle.ocpi_types.specs.Party.{party_at}
use Rattle.ocpi_types.specs.declared.tariff.Tariff.{Tariff}

-- a price without tax, in millionths of the currency unit, where the member is there (OCPI 2.2.1, Price object)
unfoldable pub price_at : Name → Data → Result (Option ℕ) MemberFault
price_at n node = do
  found ← optional object n node
  if_any (λ object. inside n (required quantity name.ExclVat object)) found

unfoldable pub tariff_at : Data → Result Tariff MemberFault
tariff_at node = do
  operator ← party_at node
  id ← required (ascii 36) name.Id node
  currency ← required a_currency name.Currency node
  min_price ← price_at name.MinPrice node
  max_price ← price_at name.MaxPrice node
  items ← required (list 1 100) name.Elements node
  elements ← each name.Elements element_at items
  last_updated ← required moment name.LastUpdated node
  Ok (record {
    operator = operator;
    id = id;
    currency = currency;
    min_price = min_price;
    max_price = max_price;
    elements = elements;
    last_updated = last_updated;
  })
