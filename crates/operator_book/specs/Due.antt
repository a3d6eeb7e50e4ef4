-- What an operator is owed of a period.
use Rattle.std.specs.Prelude.{ℕ, Bool, ◌&&◌, List, filter}
use Rattle.ocpi_types.specs.declared.config.Config.{Config}
use Rattle.ocpi_types.specs.declared.party.Party.{Party}
use Rattle.ocpi_types.specs.Config.{has_currency_among, is_provider}
use Rattle.ocpi_types.specs.Party.{same_party}
use Rattle.netting_positions.specs.declared.obligation.Obligation.{Obligation}
use Rattle.plain_house.specs.declared.entry.BookEntry.{BookEntry}
use Rattle.plain_house.specs.Obligations.{obligations}

-- the obligations of the period to that operator
abbrev pub due : Party → ℕ → List BookEntry → List Obligation
due operator period entries = filter (λ obligation. same_party obligation.operator operator) (obligations period entries)

-- a provider of the configuration owes it, in one of its currencies
abbrev pub is_of_provider : Config → Obligation → Bool
is_of_provider config obligation =
    is_provider config obligation.provider && has_currency_among config.currencies obligation.currency
