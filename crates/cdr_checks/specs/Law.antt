-- What follows from the definitions.
use Rattle.std.specs.Prelude.{◌≡◌, ◌≤◌, ◌^◌, true, Some, unwrap_or}
use Rattle.ocpi_types.specs.declared.cdr.Cdr.{Cdr}
use Rattle.ocpi_types.specs.declared.config.Config.{Config}
use Rattle.ocpi_types.specs.declared.config.Operator.{Operator}
use Rattle.ocpi_types.specs.Config.{has_currency, is_provider, operator_of}
use Rattle.tariff_elements.specs.FirstOf.{IsFirstOf}
use Rattle.tariff_elements.specs.Support.{unsupported}
use Rattle.cdr_checks.specs.Admission.{IsAdmitted}
use Rattle.cdr_checks.specs.CdrConditions.{currency_but, id_not_given, other_currency, reservation, reserved_in, tariff_not_given, unsupported_tariff}
use Rattle.cdr_checks.specs.Checked.{Checked, IsCostOf}
use Rattle.cdr_checks.specs.declared.request.Command.TheVariants as command

-- a CDR of a configured operator and provider in a configured currency, with its operator's zone and what its session costs,
-- which is at most 10^12 ten-thousandths
pub record IsChecked (config : Config) (checked : Checked) : Type 0 where
  pub operator : Operator
  pub has_operator : operator_of config checked.cdr.operator ≡ Some operator
  pub has_provider : is_provider config checked.cdr.cdr_token.provider ≡ true
  pub has_currency : has_currency config checked.cdr.currency ≡ true
  pub in_zone : checked.zone ≡ operator.zone
  pub at_cost : IsCostOf checked.cost checked.cdr checked.zone
  pub within : unwrap_or checked.cost 0 ≤ 10 ^ 12

abbrev pub PostsAreChecked : Type 0
PostsAreChecked = (config : Config) (checked : Checked) → IsAdmitted config (command.Post checked) → IsChecked config checked

-- what is found of a CDR is the first of its tariffs and of its charging periods
pub record FindsTheFirst (cdr : Cdr) : Type 0 where
  pub currency : IsFirstOf (currency_but cdr.currency) cdr.tariffs (other_currency cdr)
  pub tariff : IsFirstOf (id_not_given cdr) cdr.charging_periods (tariff_not_given cdr)
  pub bound : IsFirstOf unsupported cdr.tariffs (unsupported_tariff cdr)
  pub volume : IsFirstOf reserved_in cdr.charging_periods (reservation cdr)

abbrev pub FirstsAreFound : Type 0
FirstsAreFound = (cdr : Cdr) → FindsTheFirst cdr
