-- The command that adds an event. An event determines it, except the token of an authorisation.
use Rattle.std.specs.Prelude.{◌≡◌, Some}
use Rattle.ocpi_types.specs.declared.cdr.Cdr.{Cdr}
use Rattle.ocpi_types.specs.declared.config.Config.{Config}
use Rattle.cdr_checks.specs.Checked.{Checked}
use Rattle.cdr_checks.specs.declared.request.Authorize.{Authorize}
use Rattle.cdr_checks.specs.declared.request.Command.{Command}
use Rattle.cdr_checks.specs.declared.request.Command.TheVariants as command
use Rattle.plain_house.specs.declared.event.Event.{Event}
use Rattle.plain_house.specs.declared.event.Event.TheVariants as event
use Rattle.plain_house.specs.declared.event.Hold.{Hold}
use Rattle.plain_house.specs.House.{verdict}
use Rattle.plain_house.specs.Known.{Known}

-- an authorisation by the hold's operator, of some token of its provider, in its currency
pub record IsAuthorizeOf (hold : Hold) (done : Command) : Type 0 where
  pub ask : Authorize
  pub is_it : done ≡ command.Authorize ask
  pub operator : ask.operator ≡ hold.operator
  pub provider : ask.provider ≡ hold.provider
  pub currency : ask.currency ≡ hold.currency

-- a post of the CDR
pub record IsPostOf (cdr : Cdr) (done : Command) : Type 0 where
  pub checked : Checked
  pub is_it : done ≡ command.Post checked
  pub cdr_is : checked.cdr ≡ cdr

abbrev pub IsCommandOf : Event → Command → Type 0
IsCommandOf (event.Tariff tariff) done = done ≡ command.PutTariff tariff
IsCommandOf (event.Token token) done = done ≡ command.PutToken token
IsCommandOf (event.Authorised hold) done = IsAuthorizeOf hold done
IsCommandOf (event.Released release) done = done ≡ command.Release release
IsCommandOf (event.Cdr cdr cost) done = IsPostOf cdr done
IsCommandOf (event.Credit cdr amount) done = IsPostOf cdr done
IsCommandOf (event.Settled settlement) done = done ≡ command.Settle settlement
IsCommandOf (event.Closed period) done = done ≡ command.Close (record { period = period })

-- under every configuration and in every state, only this command adds the event
abbrev pub CommandsAreDetermined : Type 0
CommandsAreDetermined =
    (config : Config) (known : Known) (done : Command) (event : Event) → (verdict config known done).event ≡ Some event → IsCommandOf event done
