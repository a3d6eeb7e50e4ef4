use Rattle.kept_batches.proofs.looking.look_on.Goals as goal

pub returns-then-is_same : goal.returns-then-is_same
returns-then-is_same c = c.look_after_shut.ensures c.args.head.now
