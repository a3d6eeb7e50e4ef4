use Rattle.period_order.proofs.EachLemmas.{each_kept}
use Rattle.period_order.proofs.ReachedLemmas.{house_kept, house_reached, house_unchanged}
use Rattle.period_order.proofs.book_house.perform.reach.Goals as goal

pub returns-clause-kept : goal.returns-clause-kept
returns-clause-kept c =
    house_kept c.args.config.now c.args.base.now c.args.books.now.items c.keep.new.books.items c.args.accounts.now.items c.keep.new.accounts.items c.args.order.now c.keep.new.order c.args.command c.orders_are_resolved.ensures c.requires.kept c.keep.result c.keep.ensures.kept c.keep.ensures.err

pub returns-clause-ok : goal.returns-clause-ok
returns-clause-ok c =
    house_reached c.args.config.now c.args.base.now c.args.books.now.items c.keep.new.books.items c.args.accounts.now.items c.keep.new.accounts.items c.args.order.now c.keep.new.order c.args.command c.orders_are_resolved.ensures c.requires.kept c.keep.result c.keep.ensures.ok c.keep.ensures.kept

pub returns-clause-err : goal.returns-clause-err
returns-clause-err c =
    house_unchanged c.args.config.now c.args.base.now c.args.books.now.items c.keep.new.books.items c.args.accounts.now.items c.keep.new.accounts.items c.args.order.now c.keep.new.order c.args.command c.orders_are_resolved.ensures c.requires.kept c.keep.result c.keep.ensures.err

pub keep-requires-clause-each : goal.keep-requires-clause-each
keep-requires-clause-each c =
    each_kept c.args.base.now c.args.books.now.items c.args.accounts.now.items c.args.order.now _ c.requires.kept
