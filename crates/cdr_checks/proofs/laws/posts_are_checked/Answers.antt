use Rattle.cdr_checks.proofs.PostLemmas.{posts_are_checked}
use Rattle.cdr_checks.proofs.laws.posts_are_checked.Goals as goal

pub returns : goal.returns
returns c = posts_are_checked
