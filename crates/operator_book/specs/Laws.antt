-- What follows from the definitions.
use Rattle.std.specs.Prelude.{◌≡◌, ◌≤◌, ℕ, true, List}
use Rattle.std.specs.List.{list_all}
use Rattle.ocpi_types.specs.declared.config.Config.{Config}
use Rattle.ocpi_types.specs.declared.party.Party.{Party}
use Rattle.ocpi_types.specs.Config.{alike_providers}
use Rattle.ocpi_types.specs.Currency.{same_currency}
use Rattle.ocpi_types.specs.Different.{all_different}
use Rattle.netting_positions.specs.Netting.{total_size}
use Rattle.netting_positions.specs.SameSums.{OweAlike}
use Rattle.plain_house.specs.declared.entry.BookEntry.{BookEntry}
use Rattle.operator_book.specs.Due.{due, is_of_provider}
use Rattle.operator_book.specs.Together.{owed_by_all}

-- where no two currencies and no two providers of a configuration are the same, and its providers owe what is due, it owes alike
-- with one obligation for each provider and currency
abbrev pub SumsOweAlike : Type 0
SumsOweAlike =
    (config : Config) (operator : Party) (period : ℕ) (entries : List BookEntry) →
    all_different same_currency config.currencies ≡ true → all_different alike_providers config.providers ≡ true →
    list_all (is_of_provider config) (due operator period entries) ≡ true →
    OweAlike (owed_by_all operator (due operator period entries) config.currencies config.providers) (due operator period entries)

-- and is no larger so
abbrev pub SumsAreNoLarger : Type 0
SumsAreNoLarger =
    (config : Config) (operator : Party) (period : ℕ) (entries : List BookEntry) →
    all_different same_currency config.currencies ≡ true → all_different alike_providers config.providers ≡ true →
    total_size (owed_by_all operator (due operator period entries) config.currencies config.providers) ≤ total_size (due operator period entries)
