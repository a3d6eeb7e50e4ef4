-- How dimensions are kept.
use Rattle.std.specs.Prelude.{List}
use Rattle.ocpi_types.specs.declared.dimension.Dimension.{Dimension}
use Rattle.ocpi_types.specs.declared.dimensions.Kept.{Kept}
use Rattle.ocpi_types.specs.declared.dimensions.Kept.TheVariants as kept

abbrev pub dimensions_of : Kept → List Dimension
dimensions_of (kept.One dimensions) = dimensions
dimensions_of (kept.Two dimensions) = dimensions
dimensions_of (kept.Any dimensions) = dimensions
