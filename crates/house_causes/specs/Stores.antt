-- Whose store is full, and the configured limit.
use Rattle.std.specs.Prelude.{ℕ, Option, None}
use Rattle.ocpi_types.specs.declared.config.Config.{Config}
use Rattle.ocpi_types.specs.declared.party.Party.{Party}
use Rattle.ocpi_types.specs.declared.refusal.Store.{Store}
use Rattle.ocpi_types.specs.declared.refusal.Store.TheVariants as store
use Rattle.cdr_checks.specs.declared.request.Command.{Command}
use Rattle.cdr_checks.specs.Parties.{operator_of_command, provider_of_command}
use Rattle.house_causes.specs.declared.house_cause.HouseCause.{HouseCause}
use Rattle.house_causes.specs.declared.house_cause.HouseReason.TheVariants as reason

abbrev pub limit_of : Config → Store → ℕ
limit_of config store.Cdrs = config.limits.cdrs
limit_of config store.Tariffs = config.limits.tariffs
limit_of config store.Account = config.limits.entries
limit_of config store.Order = config.limits.order
limit_of config store.Periods = config.limits.periods

-- the operator of a book, the provider of an account
abbrev pub party_of : Command → Store → Option Party
party_of command store.Cdrs = operator_of_command command
party_of command store.Tariffs = operator_of_command command
party_of command store.Account = provider_of_command command
party_of command store.Order = None
party_of command store.Periods = None

abbrev pub full : Config → Command → Store → HouseCause
full config command what = record {
  place = None;
  reason = reason.Full what (party_of command what) (limit_of config what);
  event = None;
}
