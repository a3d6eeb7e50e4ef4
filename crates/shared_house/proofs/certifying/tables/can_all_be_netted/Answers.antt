use Rattle.std.proofs.Common.{rules}
use Rattle.shared_house.specs.Inner.Tables.{CanBeNetted}
use Rattle.shared_house.proofs.TableLemmas.{all_of, one_more}
use Rattle.shared_house.proofs.certifying.tables.can_all_be_netted.Goals as goal

pub loop-list-preserved : goal.loop-list-preserved
loop-list-preserved c =
    one_more (λ list. CanBeNetted c.args.config.now list.items) c.args.owed.now c.loop-list.list-index c.list-item.result c.loop-list-test.true c.list-item.is c.loop-list.invariant (search rules)

pub returns : goal.returns
returns c = λ _. all_of (λ list. CanBeNetted c.args.config.now list.items) c.args.owed.now c.loop-list.list-index c.loop-list-test.false c.loop-list.invariant
