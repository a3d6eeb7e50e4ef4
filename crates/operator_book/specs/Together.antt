-- What is owed, with one obligation for each provider and currency.
use Rattle.std.specs.Prelude.{ℕ, List, Option, None, Some, flat_map, if◌then◌else◌}
use Rattle.std.specs.Option.{option_to_list}
use Rattle.ocpi_types.specs.declared.config.Provider.{Provider}
use Rattle.ocpi_types.specs.declared.party.Party.{Party}
use Rattle.netting_positions.specs.SameSums.{is_any_between, owed_between}
use Rattle.netting_positions.specs.declared.obligation.Obligation.{Obligation}

-- what the provider owes the operator in the currency as one obligation, where there is any
abbrev pub together : Party → List Obligation → Party → List ℕ → Option Obligation
together operator obligations provider currency =
    if is_any_between operator provider currency obligations then Some (record {
      operator = operator;
      provider = provider;
      currency = currency;
      amount = owed_between operator provider currency obligations;
    }) else None

-- in each of these currencies
abbrev pub owed_by : Party → List Obligation → List (List ℕ) → Party → List Obligation
owed_by operator obligations currencies provider =
    flat_map (λ currency. option_to_list (together operator obligations provider currency)) currencies

-- by each of these providers
abbrev pub owed_by_all : Party → List Obligation → List (List ℕ) → List Provider → List Obligation
owed_by_all operator obligations currencies providers =
    flat_map (λ provider. owed_by operator obligations currencies provider.party) providers
