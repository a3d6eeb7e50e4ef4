-- How tariffs are kept.
use Rattle.std.specs.Prelude.{List, [], ◌∷◌}
use Rattle.ocpi_types.specs.declared.tariff.Tariff.{Tariff}
use Rattle.ocpi_types.specs.declared.tariffs.Kept.{Kept}
use Rattle.ocpi_types.specs.declared.tariffs.Kept.TheVariants as kept

abbrev pub tariffs_of : Kept → List Tariff
tariffs_of (kept.One tariff) = tariff ∷ []
tariffs_of (kept.Any tariffs) = tariffs
