-- The configuration under which the events of a stream's house are legal.
use Rattle.std.specs.Prelude.{Bool, true, false}
use Rattle.ocpi_types.specs.declared.config.Config.{Config}
use Rattle.new_configuration.specs.Loosened.{loosened}
use Rattle.line_streams.specs.declared.in_force.InForce.{InForce}

abbrev pub base_if : Bool → Config → Config
base_if true config = loosened config
base_if false config = config

abbrev pub base_of : InForce → Config
base_of in_force = base_if in_force.is_lowered in_force.config
