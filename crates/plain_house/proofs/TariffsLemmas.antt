-- The first version that is sought, event by event.
use Rattle.std.proofs.lemmas.List.Folds.{find-append}

pub ruleset first_version = find-append
