use Rattle.house_core.proofs.ClaimLemmas.{claimed_once}
use Rattle.house_core.proofs.laws.events_are_claimed_once.Goals as goal

pub returns : goal.returns
returns c = λ config commands steps one another point call other is_config admitted.
    claimed_once config commands c.house_laws.ensures is_config c.empty_lists_are_legal.ensures admitted steps one another point call other
