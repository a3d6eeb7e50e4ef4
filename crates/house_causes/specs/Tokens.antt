-- Why a token does not authorise.
use Rattle.std.specs.Prelude.{Option, None, Some, List}
use Rattle.ocpi_json.specs.declared.name.Name.TheVariants as name
use Rattle.ocpi_types.specs.declared.token.Token.{Token}
use Rattle.cdr_checks.specs.Place.{at}
use Rattle.cdr_checks.specs.declared.request.Authorize.{Authorize}
use Rattle.plain_house.specs.Happened.{puts}
use Rattle.plain_house.specs.declared.event.Event.{Event}
use Rattle.plain_house.specs.declared.event.Event.TheVariants as event
use Rattle.house_causes.specs.First.{◌>>=◌, Numbered, first_that}
use Rattle.house_causes.specs.HouseCause.{cause_at}
use Rattle.house_causes.specs.declared.house_cause.HouseCause.{HouseCause}
use Rattle.house_causes.specs.declared.house_cause.HouseReason.TheVariants as reason

abbrev pub token_of : Event → Option Token
token_of (event.Tariff tariff) = None
token_of (event.Token token) = Some token
token_of (event.Authorised hold) = None
token_of (event.Released release) = None
token_of (event.Cdr cdr cost) = None
token_of (event.Credit cdr amount) = None
token_of (event.Settled settlement) = None
token_of (event.Closed period) = None

-- by the first token of this provider and uid, of whatever type
abbrev pub why_unknown : Authorize → Option Numbered → Option HouseCause
why_unknown ask None = Some (cause_at (at name.Uid) (reason.NotPut ask.uid))
why_unknown ask (Some put) = do
  token ← token_of put.event
  Some (record { place = Some (at name.Type); reason = reason.OfAnotherType ask.kind token.kind; event = Some put.at })

unfoldable pub unknown_token : List Event → Authorize → Option HouseCause
unknown_token events ask = why_unknown ask (first_that (puts ask) events)

abbrev pub blocked : Authorize → HouseCause
blocked ask = cause_at (at name.Uid) (reason.NotValid ask.uid)
