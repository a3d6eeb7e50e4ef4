-- What is asked of the parties, the platform and the currency of a request.
use Rattle.std.specs.Prelude.{ℕ, List, Result, is_some, if◌then◌else◌}
use Rattle.ocpi_json.specs.declared.name.Name.TheVariants as name
use Rattle.ocpi_types.specs.declared.config.Config.{Config}
use Rattle.ocpi_types.specs.declared.party.Party.{Party}
use Rattle.ocpi_types.specs.Config.{has_currency, is_hub, is_operator, is_party, is_provider, may_act_for, platform_of}
use Rattle.cdr_checks.specs.declared.cause.Cause.{Cause}
use Rattle.cdr_checks.specs.declared.cause.Reason.{Reason}
use Rattle.cdr_checks.specs.declared.cause.Reason.TheVariants.{ActsNotFor, NoHub, NoOperator, NoParty, NoProvider, UnknownCurrency, UnknownPlatform}
use Rattle.cdr_checks.specs.declared.place.Place.{Place}
use Rattle.cdr_checks.specs.FirstRefusal.{ensure}
use Rattle.cdr_checks.specs.Place.{at}

-- ---- parties, each named at a place

abbrev pub no_operator : Place → Party → Cause
no_operator place party = record { place = place; reason = NoOperator party }

abbrev pub known_operator : Config → Place → Party → Result Unit Cause
known_operator config place party = ensure (is_operator config party) (no_operator place party)

abbrev pub known_provider : Config → Place → Party → Result Unit Cause
known_provider config place party = ensure (is_provider config party) (record { place = place; reason = NoProvider party })

abbrev pub known_party : Config → Place → Party → Result Unit Cause
known_party config place party = ensure (is_party config party) (record { place = place; reason = NoParty party })

-- ---- the platform

-- the platform is not configured, or else this is its reason
abbrev pub lacks_right : Config → List ℕ → Reason → Cause
lacks_right config platform reason =
    record { place = at name.Platform; reason = if is_some (platform_of config platform) then reason else UnknownPlatform platform }

abbrev pub may_act : Config → List ℕ → Party → Result Unit Cause
may_act config platform party = ensure (may_act_for config platform party) (lacks_right config platform (ActsNotFor platform party))

abbrev pub is_a_hub : Config → List ℕ → Result Unit Cause
is_a_hub config platform = ensure (is_hub config platform) (lacks_right config platform (NoHub platform))

-- ---- the currency

abbrev pub known_currency : Config → Place → List ℕ → Result Unit Cause
known_currency config place currency = ensure (has_currency config currency) (record { place = place; reason = UnknownCurrency currency })
