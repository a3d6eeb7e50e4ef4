use Rattle.std.proofs.Common.{List, Vec, Global, map, sym, subst}
use Rattle.netting_positions.specs.declared.obligation.Obligation.{Obligation}
use Rattle.shared_house.specs.Inner.Tables.{AreOwed, HasRightTable}
use Rattle.shared_house.proofs.TableLemmas.{all_of, one_more}
use Rattle.shared_house.proofs.certifying.tables.are_tables_right.Goals as goal

pub loop-turn-preserved : goal.loop-turn-preserved
loop-turn-preserved c =
    one_more (λ turn. HasRightTable c.args.config.now c.args.events.now turn.call.now) c.args.turns.now c.loop-turn.turn-index c.turn-item.result c.loop-turn-test.true c.turn-item.is c.loop-turn.invariant
    (c.in_ok-has_right_table.ensures c.if-not-branch.false c.args.events.now
    (subst (λ (l : List (Vec Obligation Global)). AreOwed (map (λ list. list.items) l) c.args.events.now) (sym c.as_slice-in-loop-turn.ensures.value) c.in_ok-owed.ensures))

pub returns : goal.returns
returns c = λ _. all_of (λ turn. HasRightTable c.args.config.now c.args.events.now turn.call.now) c.args.turns.now c.loop-turn.turn-index c.loop-turn-test.false c.loop-turn.invariant
