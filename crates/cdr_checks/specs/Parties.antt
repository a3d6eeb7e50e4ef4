-- Whose book and whose account a command looks into.
use Rattle.std.specs.Prelude.{◌≡◌, true, Option, Some, None}
use Rattle.ocpi_types.specs.declared.config.Config.{Config}
use Rattle.ocpi_types.specs.declared.party.Party.{Party}
use Rattle.ocpi_types.specs.Config.{is_operator, is_provider}
use Rattle.cdr_checks.specs.declared.request.Command.{Command}
use Rattle.cdr_checks.specs.declared.request.Command.TheVariants as command
use Rattle.cdr_checks.specs.Admission.{IsAdmitted}

-- the operator whose book it is; a close and a statement look into all books
abbrev pub operator_of_command : Command → Option Party
operator_of_command (command.PutTariff tariff) = Some tariff.operator
operator_of_command (command.PutToken token) = None
operator_of_command (command.Authorize ask) = None
operator_of_command (command.Release release) = None
operator_of_command (command.Post checked) = Some checked.cdr.operator
operator_of_command (command.Close close) = None
operator_of_command (command.Settle settlement) = None
operator_of_command (command.Exposure ask) = None
operator_of_command (command.Find find) = Some find.operator
operator_of_command (command.Statement ask) = None

-- the provider whose account it is
abbrev pub provider_of_command : Command → Option Party
provider_of_command (command.PutTariff tariff) = None
provider_of_command (command.PutToken token) = Some token.provider
provider_of_command (command.Authorize ask) = Some ask.provider
provider_of_command (command.Release release) = Some release.provider
provider_of_command (command.Post checked) = Some checked.cdr.cdr_token.provider
provider_of_command (command.Close close) = None
provider_of_command (command.Settle settlement) = Some settlement.provider
provider_of_command (command.Exposure ask) = Some ask.provider
provider_of_command (command.Find find) = None
provider_of_command (command.Statement ask) = None

-- the configuration has them
pub record HasParties (config : Config) (command : Command) : Type 0 where
  pub operator : (operator : Party) → operator_of_command command ≡ Some operator → is_operator config operator ≡ true
  pub provider : (provider : Party) → provider_of_command command ≡ Some provider → is_provider config provider ≡ true

-- so it does of every command that is admitted
abbrev pub CommandsHaveParties : Type 0
CommandsHaveParties = (config : Config) (command : Command) → IsAdmitted config command → HasParties config command
