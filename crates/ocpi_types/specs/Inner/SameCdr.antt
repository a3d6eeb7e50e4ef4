-- The test whether two CDRs have the same content, member by member.
use Rattle.std.specs.Prelude.{Bool, ◌&&◌}
use Rattle.std.specs.Cmp.Lexicographic.{pointwise}
use Rattle.std.specs.Option.{option_eq}
use Rattle.std.specs.Ordering.{int_eq}
use Rattle.ocpi_json.specs.Folded.{same_folded}
use Rattle.ocpi_types.specs.CdrToken.{same_method}
use Rattle.ocpi_types.specs.Currency.{same_currency}
use Rattle.ocpi_types.specs.Dimension.{same_dimension_kind}
use Rattle.ocpi_types.specs.Party.{same_party}
use Rattle.ocpi_types.specs.Inner.SameTariff.{same_instant, same_tariff}
use Rattle.ocpi_types.specs.TokenKind.{same_token_kind}
use Rattle.ocpi_types.specs.declared.cdr.Cdr.{Cdr}
use Rattle.ocpi_types.specs.declared.cdr_token.CdrToken.{CdrToken}
use Rattle.ocpi_types.specs.declared.charging_period.ChargingPeriod.{ChargingPeriod}
use Rattle.ocpi_types.specs.declared.dimension.Dimension.{Dimension}

abbrev pub same_cdr_token : CdrToken → CdrToken → Bool
same_cdr_token a b =
    same_party a.provider b.provider && same_folded a.uid b.uid && same_token_kind a.kind b.kind
    && same_folded a.contract_id b.contract_id

abbrev pub same_dimension : Dimension → Dimension → Bool
same_dimension a b = same_dimension_kind a.kind b.kind && int_eq a.volume b.volume

unfoldable pub same_period : ChargingPeriod → ChargingPeriod → Bool
same_period a b =
    same_instant a.start_date_time b.start_date_time && pointwise same_dimension a.dimensions b.dimensions
    && option_eq same_folded a.tariff_id b.tariff_id

-- a member that is missing is the same as one that is missing, and as no other
unfoldable pub same_cdr : Cdr → Cdr → Bool
same_cdr a b =
    same_party a.operator b.operator && same_folded a.id b.id
    && same_instant a.start_date_time b.start_date_time && same_instant a.end_date_time b.end_date_time
    && same_cdr_token a.cdr_token b.cdr_token && same_method a.auth_method b.auth_method
    && option_eq same_folded a.authorization_reference b.authorization_reference
    && same_currency a.currency b.currency && pointwise same_tariff a.tariffs b.tariffs
    && pointwise same_period a.charging_periods b.charging_periods && int_eq a.total_cost b.total_cost
    && int_eq a.total_energy b.total_energy && int_eq a.total_time b.total_time
    && option_eq same_folded a.credit b.credit && same_instant a.last_updated b.last_updated
