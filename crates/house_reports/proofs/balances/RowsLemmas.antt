-- Rows of bookings that are narrowed step by step are the rows of their keys.
use Rattle.std.proofs.Common.{◌≡◌, ℕ, suc, ◌+◌, List, [], ◌∷◌, ◌++◌, ◌&&◌, refl, ap, ap₂, sym, ◌∙◌, arith, filter, map}
use Rattle.std.specs.Prelude.{flat_map}
use Rattle.std.proofs.lemmas.List.Concat.{flat_map-append}
use Rattle.std.proofs.lemmas.List.Folds.{flat_map-map}
use Rattle.ocpi_types.specs.Currency.{same_currency}
use Rattle.ocpi_types.specs.Party.{same_party}
use Rattle.ocpi_types.specs.declared.config.Config.{Config}
use Rattle.ocpi_types.specs.declared.party.Party.{Party}
use Rattle.cdr_checks.specs.declared.request.Settlement.{Settlement}
use Rattle.house_reports.specs.balances.Balances.{is_of, operators, key_of, row_keys, row_keys_in, providers, row_at, row_of}
use Rattle.house_reports.specs.balances.Inner.Narrowed.{of_currency, of_operator, of_period, of_provider, rows_of_currency, rows_of_operator, rows_of_period}
use Rattle.house_reports.specs.balances.Laws.{is_in}
use Rattle.house_reports.specs.declared.balances.booking.Booking.{Booking}
use Rattle.house_reports.specs.declared.balances.row.Row.{Row}
use Rattle.house_reports.proofs.balances.ListLemmas.{filter-filter, flat_map-flat_map, flat_map_alike}

module _ (settlements : List Settlement) (bookings : List Booking) (period : ℕ) where
  narrowed : (currency : List ℕ) (operator provider : Party)
      → of_provider provider (of_operator operator (of_currency currency (of_period period bookings))) ≡ filter (is_of (key_of period currency operator provider)) bookings
  narrowed currency operator provider =
      ap (λ found. of_provider provider (of_operator operator found)) (filter-filter (λ b. same_currency b.currency currency) (is_in period) bookings)
      ∙ ap (of_provider provider) (filter-filter (λ b. same_party b.operator operator) (λ b. is_in period b && same_currency b.currency currency) bookings)
      ∙ filter-filter (λ b. same_party b.provider provider) (λ b. is_in period b && same_currency b.currency currency && same_party b.operator operator) bookings

  module _ (currency : List ℕ) (operator : Party) (providers : List Party) where
    of_operator_rows : rows_of_operator settlements period currency operator providers (of_operator operator (of_currency currency (of_period period bookings)))
        ≡ flat_map (row_at settlements bookings) (map (key_of period currency operator) providers)
    of_operator_rows =
        flat_map_alike (λ provider. row_of settlements (key_of period currency operator provider) (of_provider provider (of_operator operator (of_currency currency (of_period period bookings)))))
        (λ provider. row_at settlements bookings (key_of period currency operator provider)) (λ provider. ap (row_of settlements (key_of period currency operator provider)) (narrowed currency operator provider)) providers
        ∙ sym (flat_map-map (row_at settlements bookings) (key_of period currency operator) providers)

  module _ (currency : List ℕ) (operators providers : List Party) where
    of_currency_rows : rows_of_currency settlements period currency operators providers (of_currency currency (of_period period bookings))
        ≡ flat_map (row_at settlements bookings) (flat_map (λ operator. map (key_of period currency operator) providers) operators)
    of_currency_rows =
        flat_map_alike (λ operator. rows_of_operator settlements period currency operator providers (of_operator operator (of_currency currency (of_period period bookings))))
        (λ operator. flat_map (row_at settlements bookings) (map (key_of period currency operator) providers)) (λ operator. of_operator_rows currency operator providers) operators
        ∙ sym (flat_map-flat_map (row_at settlements bookings) (λ operator. map (key_of period currency operator) providers) operators)

  rows_in : (config : Config) → rows_of_period settlements period config.currencies (operators config) (providers config) (of_period period bookings) ≡ flat_map (row_at settlements bookings) (row_keys_in config period)
  rows_in config =
      flat_map_alike (λ currency. rows_of_currency settlements period currency (operators config) (providers config) (of_currency currency (of_period period bookings)))
      (λ currency. flat_map (row_at settlements bookings) (flat_map (λ operator. map (key_of period currency operator) (providers config)) (operators config)))
      (λ currency. of_currency_rows currency (operators config) (providers config)) config.currencies
      ∙ sym (flat_map-flat_map (row_at settlements bookings) (λ currency. flat_map (λ operator. map (key_of period currency operator) (providers config)) (operators config)) config.currencies)

-- the rows of one period more
pub rows_step : (config : Config) (settlements : List Settlement) (bookings : List Booking) (period next : ℕ) (before after added : List Row) → next ≡ period + 1
    → added ≡ rows_of_period settlements period config.currencies (operators config) (providers config) (of_period period bookings)
    → after ≡ before ++ added → before ≡ flat_map (row_at settlements bookings) (row_keys config period) → after ≡ flat_map (row_at settlements bookings) (row_keys config next)
rows_step config settlements bookings period next before after added next_is added_is after_is before_is =
    after_is ∙ ap₂ (λ (l m : List Row). l ++ m) before_is (added_is ∙ rows_in settlements bookings period config)
    ∙ sym (flat_map-append (row_at settlements bookings) (row_keys config period) (row_keys_in config period))
    ∙ ap (λ n. flat_map (row_at settlements bookings) (row_keys config n)) (is_next period next next_is)
  where
    is_next : (n m : ℕ) → m ≡ n + 1 → suc n ≡ m
    is_next n m e = omega (arith, e)

-- ---- no row if nothing is booked

pub none_of_operator : (settlements : List Settlement) (period : ℕ) (currency : List ℕ) (operator : Party) (providers : List Party)
    → rows_of_operator settlements period currency operator providers [] ≡ []
none_of_operator settlements period currency operator [] = refl
none_of_operator settlements period currency operator (provider ∷ providers) = none_of_operator settlements period currency operator providers

pub none_of_currency : (settlements : List Settlement) (period : ℕ) (currency : List ℕ) (operators providers : List Party)
    → rows_of_currency settlements period currency operators providers [] ≡ []
none_of_currency settlements period currency [] providers = refl
none_of_currency settlements period currency (operator ∷ operators) providers =
    ap (λ (l : List Row). l ++ rows_of_currency settlements period currency operators providers []) (none_of_operator settlements period currency operator providers)
    ∙ none_of_currency settlements period currency operators providers

pub none_of_period : (settlements : List Settlement) (period : ℕ) (currencies : List (List ℕ)) (operators providers : List Party)
    → rows_of_period settlements period currencies operators providers [] ≡ []
none_of_period settlements period [] operators providers = refl
none_of_period settlements period (currency ∷ currencies) operators providers =
    ap (λ (l : List Row). l ++ rows_of_period settlements period currencies operators providers []) (none_of_currency settlements period currency operators providers)
    ∙ none_of_period settlements period currencies operators providers
