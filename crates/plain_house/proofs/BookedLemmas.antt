-- The first CDR that is sought, event by event.
use Rattle.std.proofs.Common.{}
use Rattle.std.proofs.lemmas.List.Concat.{flat_map-append}
use Rattle.std.proofs.lemmas.List.Folds.{find-append}

pub ruleset first_booked = (flat_map-append, find-append)
