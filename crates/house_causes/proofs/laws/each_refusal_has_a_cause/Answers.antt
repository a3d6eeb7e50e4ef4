use Rattle.house_causes.proofs.CauseLemmas.{each_has}
use Rattle.house_causes.proofs.laws.each_refusal_has_a_cause.Goals as goal

pub returns : goal.returns
returns c =
    each_has c.posts_are_checked.ensures c.cdrs_without_difference_are_same.ensures c.tariffs_without_difference_are_same.ensures
