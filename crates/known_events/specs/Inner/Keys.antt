-- The keys that events have.
use Rattle.std.specs.Prelude.{Option, None, Some, option_map}
use Rattle.ocpi_types.specs.declared.cdr.Cdr.{Cdr}
use Rattle.plain_house.specs.declared.event.Event.{Event}
use Rattle.plain_house.specs.declared.event.Event.TheVariants as event
use Rattle.known_events.specs.declared.keys.CreditedKey.{CreditedKey}
use Rattle.known_events.specs.declared.keys.OwnKey.{OwnKey}
use Rattle.known_events.specs.declared.keys.OwnKey.TheVariants as own
use Rattle.known_events.specs.declared.keys.EndKey.{EndKey}
use Rattle.known_events.specs.declared.keys.EndKey.TheVariants as end

-- what an event adds; a release and a close add nothing
abbrev pub own_key : Event → Option OwnKey
own_key (event.Tariff tariff) = Some (own.Version tariff.operator tariff.id tariff.last_updated)
own_key (event.Token token) = Some (own.Token token.provider token.uid)
own_key (event.Authorised hold) = Some (own.Hold hold.provider hold.reference)
own_key (event.Released release) = None
own_key (event.Cdr cdr cost) = Some (own.Cdr cdr.operator cdr.id)
own_key (event.Credit cdr amount) = Some (own.Cdr cdr.operator cdr.id)
own_key (event.Settled settlement) = Some (own.Settlement settlement.provider settlement.currency settlement.period)
own_key (event.Closed period) = None

abbrev pub credited_by : Cdr → Option CreditedKey
credited_by cdr = option_map (λ id. record { operator = cdr.operator; id = id }) cdr.credit

-- the CDR that a CDR or Credit CDR credits
abbrev pub credited_key : Event → Option CreditedKey
credited_key (event.Tariff tariff) = None
credited_key (event.Token token) = None
credited_key (event.Authorised hold) = None
credited_key (event.Released release) = None
credited_key (event.Cdr cdr cost) = credited_by cdr
credited_key (event.Credit cdr amount) = credited_by cdr
credited_key (event.Settled settlement) = None
credited_key (event.Closed period) = None

abbrev pub used_by : Cdr → Option EndKey
used_by cdr = option_map (λ reference. end.Use cdr.operator cdr.cdr_token.provider cdr.currency reference) cdr.authorization_reference

-- the hold that an event ends; a Credit CDR ends none
abbrev pub end_key : Event → Option EndKey
end_key (event.Tariff tariff) = None
end_key (event.Token token) = None
end_key (event.Authorised hold) = None
end_key (event.Released release) = Some (end.Release release.operator release.provider release.reference)
end_key (event.Cdr cdr cost) = used_by cdr
end_key (event.Credit cdr amount) = None
end_key (event.Settled settlement) = None
end_key (event.Closed period) = None

-- what gives the hold
abbrev pub hold_key : EndKey → OwnKey
hold_key (end.Release operator provider reference) = own.Hold provider reference
hold_key (end.Use operator provider currency reference) = own.Hold provider reference
