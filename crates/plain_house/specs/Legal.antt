-- The lists of events that a house can have.
use Rattle.std.specs.Prelude.{◌≡◌, ℕ, List, [], ◌∷◌, ◌++◌, Some, true}
use Rattle.ocpi_types.specs.declared.config.Config.{Config}
use Rattle.ocpi_types.specs.Config.{is_operator, is_provider}
use Rattle.cdr_checks.specs.declared.request.Command.{Command}
use Rattle.cdr_checks.specs.Admission.{IsAdmitted}
use Rattle.plain_house.specs.declared.event.Event.{Event}
use Rattle.plain_house.specs.declared.event.Event.TheVariants as event
use Rattle.plain_house.specs.Known.{Known, known}
use Rattle.plain_house.specs.House.{verdict, events_after}

-- the event is the one that some admitted command adds by what is known
abbrev pub IsGivenBy : Config → Known → Event → Type 0
IsGivenBy config known event =
    (command : Command) × IsAdmitted config command × ((verdict config known command).event ≡ Some event)

-- the event is of parties that the configuration has, and a close is that of the period
abbrev pub IsOfConfigured : Config → ℕ → Event → Type 0
IsOfConfigured config period (event.Tariff tariff) = is_operator config tariff.operator ≡ true
IsOfConfigured config period (event.Token token) = is_provider config token.provider ≡ true
IsOfConfigured config period (event.Authorised hold) = is_provider config hold.provider ≡ true
IsOfConfigured config period (event.Released release) = is_provider config release.provider ≡ true
IsOfConfigured config period (event.Cdr cdr cost) = (is_operator config cdr.operator ≡ true) × (is_provider config cdr.cdr_token.provider ≡ true)
IsOfConfigured config period (event.Credit cdr amount) = (is_operator config cdr.operator ≡ true) × (is_provider config cdr.cdr_token.provider ≡ true)
IsOfConfigured config period (event.Settled settlement) = is_provider config settlement.provider ≡ true
IsOfConfigured config period (event.Closed closed) = closed ≡ period

-- so is each event that an admitted command adds, with the period that is current then
abbrev pub EventsAreOfConfigured : Type 0
EventsAreOfConfigured = (config : Config) (known : Known) (event : Event) → IsGivenBy config known event → IsOfConfigured config known.period event

-- by the events before it
abbrev pub IsGiven : Config → List Event → Event → Type 0
IsGiven config before event = IsGivenBy config (known before) event

-- each event is given on those before it
unfoldable pub IsLegal : Config → List Event → Type 0
IsLegal config events =
    (before : List Event) (event : Event) (later : List Event) → events ≡ before ++ event ∷ later → IsGiven config before event

-- what stands before an event of a legal list is legal
abbrev pub LegalListsBeginLegally : Type 0
LegalListsBeginLegally = (config : Config) (before later : List Event) → IsLegal config (before ++ later) → IsLegal config before

-- the list after an admitted command is legal again
abbrev pub CommandsKeepListsLegal : Type 0
CommandsKeepListsLegal =
    (config : Config) (events : List Event) (command : Command) → IsLegal config events → IsAdmitted config command →
    IsLegal config (events_after config events command)

-- a list without events is legal
abbrev pub EmptyListsAreLegal : Type 0
EmptyListsAreLegal = (config : Config) → IsLegal config []
