use Rattle.kept_batches.proofs.HeadLemmas.{heads_collide}
use Rattle.kept_batches.proofs.laws.heads_collide.Goals as goal

pub returns : goal.returns
returns c = heads_collide
