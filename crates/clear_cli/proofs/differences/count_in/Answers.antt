use Rattle.std.proofs.Common.{rules, arith}
use Rattle.std.proofs.lemmas.Grind.{common_steps}
use Rattle.clear_cli.proofs.RecordLemmas.{one_list_more}
use Rattle.clear_cli.proofs.differences.count_in.Goals as goal

pub loop-number-preserved : goal.loop-number-preserved
loop-number-preserved g c =
    let more = one_list_more (λ list. list.items) c.args.operators.now c.args.lists.now c.loop-number.number _ _ c.index-operators-number.result c.index-lists-number.result
    c.index-operators-number.is c.index-lists-number.is (search rules) (search rules) in
    record { counted = search rules; few = grind (arith, common_steps) }
