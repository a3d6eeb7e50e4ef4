use Rattle.std.proofs.Common.{rules}
use Rattle.clear_cli.proofs.RecordLemmas.{counted_lists, same_length}
use Rattle.clear_cli.proofs.differences.difference_count.Goals as goal

pub count_in-requires-after_bounds : goal.count_in-requires-after_bounds
count_in-requires-after_bounds g c κs within =
    let same = same_length (λ list. list.items) c.args.config.now c.args.events.now c.in_ok-lists.lists.items c.args.config.now.operators c.in_ok-lists.ensures in search rules

pub returns : goal.returns
returns g c = let counted = counted_lists c.args.config.now c.args.events.now 0 c.args.config.now.operators in search rules
