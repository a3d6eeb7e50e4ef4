-- Whose book and whose account keep an event.
use Rattle.std.specs.Prelude.{ℕ, Option, Some, None, option_map}
use Rattle.ocpi_types.specs.declared.config.Config.{Config}
use Rattle.ocpi_types.specs.declared.party.Party.{Party}
use Rattle.plain_house.specs.declared.event.Event.{Event}
use Rattle.plain_house.specs.declared.event.Event.TheVariants as event
use Rattle.period_order.specs.Places.{operator_number, provider_number}

-- the operator in whose book the event has an entry, if it has one
abbrev pub operator_of_event : Event → Option Party
operator_of_event (event.Tariff tariff) = Some tariff.operator
operator_of_event (event.Token token) = None
operator_of_event (event.Authorised hold) = None
operator_of_event (event.Released release) = None
operator_of_event (event.Cdr cdr cost) = Some cdr.operator
operator_of_event (event.Credit cdr amount) = Some cdr.operator
operator_of_event (event.Settled settlement) = None
operator_of_event (event.Closed period) = None

-- the provider in whose account it has one
abbrev pub provider_of_event : Event → Option Party
provider_of_event (event.Tariff tariff) = None
provider_of_event (event.Token token) = Some token.provider
provider_of_event (event.Authorised hold) = Some hold.provider
provider_of_event (event.Released release) = Some release.provider
provider_of_event (event.Cdr cdr cost) = Some cdr.cdr_token.provider
provider_of_event (event.Credit cdr amount) = Some cdr.cdr_token.provider
provider_of_event (event.Settled settlement) = Some settlement.provider
provider_of_event (event.Closed period) = None

-- the number of its book, and that of its account
abbrev pub book_of_event : Config → Event → Option ℕ
book_of_event config event = option_map (operator_number config) (operator_of_event event)

abbrev pub account_of_event : Config → Event → Option ℕ
account_of_event config event = option_map (provider_number config) (provider_of_event event)
