-- The first member in which two objects with the same key differ, in the order of reading.
use Rattle.std.specs.Prelude.{◌≡◌, ◌==◌, Bool, true, not, List, [], ◌∷◌, ◌++◌, Option, find, is_none, is_some, option_map}
use Rattle.std.specs.Bool.{beq}
use Rattle.std.specs.Cmp.Lexicographic.{pointwise}
use Rattle.std.specs.Option.{option_eq}
use Rattle.std.specs.Ordering.{int_eq}
use Rattle.ocpi_json.specs.Folded.{same_folded}
use Rattle.ocpi_json.specs.declared.name.Name.{Name}
use Rattle.ocpi_json.specs.declared.name.Name.TheVariants as name
use Rattle.ocpi_types.specs.CdrToken.{same_method}
use Rattle.ocpi_types.specs.Currency.{same_currency}
use Rattle.ocpi_types.specs.Party.{same_party}
use Rattle.ocpi_types.specs.SameCdr.{same_cdr}
use Rattle.ocpi_types.specs.SameTariff.{same_tariff}
use Rattle.ocpi_types.specs.Inner.SameCdr.{same_cdr_token, same_period}
use Rattle.ocpi_types.specs.Inner.SameTariff.{same_element, same_instant}
use Rattle.ocpi_types.specs.declared.cdr.Cdr.{Cdr}
use Rattle.ocpi_types.specs.declared.tariff.Tariff.{Tariff}

-- of members with whether they agree, the name of the first that does not
abbrev pub first_difference : List (Name × Bool) → Option Name
first_difference members = option_map (λ member. member.0) (find (λ member. not member.1) members)

-- ---- CDRs

-- those before the tariffs, the operator and the id aside
abbrev pub first_members : Cdr → Cdr → List (Name × Bool)
first_members a b =
    (name.StartDateTime, same_instant a.start_date_time b.start_date_time)
    ∷ (name.EndDateTime, same_instant a.end_date_time b.end_date_time)
    ∷ (name.CdrToken, same_cdr_token a.cdr_token b.cdr_token)
    ∷ (name.AuthMethod, same_method a.auth_method b.auth_method)
    ∷ (name.AuthorizationReference, option_eq same_folded a.authorization_reference b.authorization_reference)
    ∷ (name.Currency, same_currency a.currency b.currency)
    ∷ []

abbrev pub later_members : Cdr → Cdr → List (Name × Bool)
later_members a b =
    (name.Tariffs, pointwise same_tariff a.tariffs b.tariffs)
    ∷ (name.ChargingPeriods, pointwise same_period a.charging_periods b.charging_periods)
    ∷ (name.TotalCost, int_eq a.total_cost b.total_cost)
    ∷ (name.TotalEnergy, int_eq a.total_energy b.total_energy)
    ∷ (name.TotalTime, int_eq a.total_time b.total_time)
    ∷ (name.Credit, beq (is_some a.credit) (is_some b.credit))
    ∷ (name.CreditReferenceId, option_eq same_folded a.credit b.credit)
    ∷ (name.LastUpdated, same_instant a.last_updated b.last_updated)
    ∷ []

-- the first member in which two CDRs of one operator and id differ
unfoldable pub difference_of_cdrs : Cdr → Cdr → Option Name
difference_of_cdrs a b = first_difference (first_members a b ++ later_members a b)

-- ---- tariffs

-- the operator, the id and `last_updated` aside
abbrev pub tariff_members : Tariff → Tariff → List (Name × Bool)
tariff_members a b =
    (name.Currency, same_currency a.currency b.currency)
    ∷ (name.MinPrice, option_eq ◌==◌ a.min_price b.min_price)
    ∷ (name.MaxPrice, option_eq ◌==◌ a.max_price b.max_price)
    ∷ (name.Elements, pointwise same_element a.elements b.elements)
    ∷ []

-- the first member in which two tariffs of one operator, id and `last_updated` differ
unfoldable pub difference_of_tariffs : Tariff → Tariff → Option Name
difference_of_tariffs a b = first_difference (tariff_members a b)

-- ---- laws

-- objects with the same key have the same content if and only if they differ in no member
abbrev pub CdrsWithoutDifferenceAreSame : Type 0
CdrsWithoutDifferenceAreSame =
    (a b : Cdr) → same_party a.operator b.operator ≡ true → same_folded a.id b.id ≡ true →
    is_none (difference_of_cdrs a b) ≡ same_cdr a b

abbrev pub TariffsWithoutDifferenceAreSame : Type 0
TariffsWithoutDifferenceAreSame =
    (a b : Tariff) → same_party a.operator b.operator ≡ true → same_folded a.id b.id ≡ true →
    same_instant a.last_updated b.last_updated ≡ true → is_none (difference_of_tariffs a b) ≡ same_tariff a b
