-- The members of a configuration in groups, as they are read.
use Rattle.std.specs.Prelude.{ℕ, Result, Ok, unwrap_or}
use Rattle.json.specs.Json.{Json as Data}
use Rattle.ocpi_json.specs.Fields.{optional, required, whole}
use Rattle.ocpi_json.specs.Members.{◌>>=◌}
use Rattle.ocpi_json.specs.declared.member_fault.MemberFault.{MemberFault}
use Rattle.ocpi_json.specs.declared.name.Name.TheVariants as name
use Rattle.ocpi_types.specs.ConfigText.{listed_at, platforms_at, house_limits_at, pair_limits_at, credit_window_at}
use Rattle.ocpi_types.specs.declared.config.Config.{Config}
use Rattle.ocpi_types.specs.declared.config.parts.Listed.{Listed}
use Rattle.ocpi_types.specs.declared.config.reading.Stated.{Stated}

unfoldable pub stated_at : ℕ → Listed → Data → Result Stated MemberFault
stated_at version listed node = do
  platforms ← platforms_at listed node
  limits ← house_limits_at node
  pair_limits ← pair_limits_at version listed node
  credit_window ← credit_window_at version node
  Ok (record { platforms = platforms; limits = limits; pair_limits = pair_limits; credit_window = credit_window })

abbrev pub config_from : ℕ → Listed → Stated → Config
config_from tolerance listed stated = record {
  tolerance = tolerance;
  currencies = listed.currencies;
  operators = listed.operators;
  providers = listed.providers;
  platforms = stated.platforms;
  limits = stated.limits;
  pair_limits = stated.pair_limits;
  credit_window = stated.credit_window;
}

unfoldable pub config_in_parts : Data → Result Config MemberFault
config_in_parts node = do
  version ← required (whole 1 2) name.Version node
  tolerance ← optional (whole 0 1_000_000_000_000) name.Tolerance node
  listed ← listed_at node
  stated ← stated_at version listed node
  Ok (config_from (unwrap_or tolerance 100) listed stated)
