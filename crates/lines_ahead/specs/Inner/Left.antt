-- Lines that are read, and not yet answered.
use Rattle.std.specs.Prelude.{All}
use Rattle.lines_ahead.specs.ReadLines.{IsRead}
use Rattle.lines_ahead.specs.declared.left.Left.{Left}
use Rattle.ocpi_types.specs.declared.config.Config.{Config}

abbrev pub AreLeft : Config → Left → Type 0
AreLeft config left = All (IsRead config left.bytes.value.items) left.lines.rest.items
