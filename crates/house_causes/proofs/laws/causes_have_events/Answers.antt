use Rattle.house_causes.proofs.CauseLemmas.{has_its_event}
use Rattle.house_causes.proofs.laws.causes_have_events.Goals as goal

pub returns : goal.returns
returns c =
    has_its_event c.posts_are_checked.ensures c.cdrs_without_difference_are_same.ensures c.tariffs_without_difference_are_same.ensures
