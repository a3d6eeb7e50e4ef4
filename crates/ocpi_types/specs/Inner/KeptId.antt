-- How an id is kept that may be missing.
use Rattle.std.specs.Prelude.{ℕ, List, Option, None, Some}
use Rattle.ocpi_types.specs.declared.optional_id.Kept.{Kept}
use Rattle.ocpi_types.specs.declared.optional_id.Kept.TheVariants as kept

abbrev pub id_of : Kept → Option (List ℕ)
id_of kept.Missing = None
id_of (kept.Short id) = Some id
id_of (kept.Long id) = Some id
