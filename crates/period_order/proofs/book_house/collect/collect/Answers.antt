use Rattle.std.proofs.Common.{◌∙◌}
use Rattle.period_order.specs.Resolved.{entries_of_books}
use Rattle.period_order.proofs.CollectingLemmas.{at_first, one_collected}
use Rattle.period_order.proofs.book_house.collect.collect.Goals as goal

pub loop-operator-preserved : goal.loop-operator-preserved
loop-operator-preserved g c =
    let config = c.args.config.now in
    let period = c.args.period in
    let found = g.T.ObligationTable.obligations c.loop-operator.table in
    let operator = c.in-Some.operator.now in
    let book = c.in-Some-split_first.book.now in
    let later = c.in-Some-split_first.later.now in
    let before = at_first config period found _ operator _ _ book later _ c.in-Some.ensures.cases.0 c.in-Some-split_first.ensures.cases.0 c.loop-operator.invariant.collecting in
    record {
      scope = c.period_sums.ensures.scope ∙ c.loop-operator.invariant.scope;
      collecting = one_collected config period found operator c.in-Some.others.now book.entries (entries_of_books later) _ before _ c.period_sums.ensures.obligations
          (c.sums_are_no_larger.ensures config operator.party period book.entries c.has_distinct_parts.ensures.currencies c.has_distinct_parts.ensures.providers);
    }
