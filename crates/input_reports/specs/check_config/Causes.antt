-- Why a member of a configuration is passed over.
use Rattle.std.specs.Prelude.{Bool, true, false, Option, Some, None, ◌&&◌, if◌then◌else◌}
use Rattle.ocpi_json.specs.declared.name.Name.{Name}
use Rattle.ocpi_json.specs.declared.name.Name.TheVariants.{PairLimits, CreditWindow}
use Rattle.input_reports.specs.declared.check_config.passed_over.Cause.{Cause}
use Rattle.input_reports.specs.declared.check_config.passed_over.Cause.TheVariants.{Unknown, OfVersion2, Repeated}

abbrev pub is_of_version_2 : Name → Bool
is_of_version_2 PairLimits = true
is_of_version_2 CreditWindow = true
is_of_version_2 called = false

-- of a member whose name is known or not, in a configuration of version 1 or not, with another of its name behind it or not
abbrev pub cause : Option Name → Bool → Bool → Option Cause
cause None is_version_1 is_repeated = Some Unknown
cause (Some called) is_version_1 is_repeated =
    if is_version_1 && is_of_version_2 called then Some OfVersion2 else if is_repeated then Some Repeated else None
