use Rattle.std.proofs.Common.{sym, subst}
use Rattle.house_core.specs.Inner.Ready.{ArePartsReady}
use Rattle.house_core.proofs.parts.Parts.take.Goals as goal
use Rattle.house_core.proofs.parts.Parts.take.Goals.{in-Begin, in-TakeBook, in-TakeAccount, in-Order+in_ok-order-in-Order, in-PutAccount, in-PutBook, in-Collect}

pub returns-clause-ready : goal.returns-clause-ready
returns-clause-ready c =
    elim c.match-step.branch [
      | in-Begin w ↦ subst ArePartsReady (sym w.self-is) w.begin.ensures.ready
      | in-TakeBook w ↦ subst ArePartsReady (sym w.self-is) w.take_book.ensures.ready
      | in-TakeAccount w ↦ subst ArePartsReady (sym w.self-is) w.take_account.ensures.ready
      | in-Order+in_ok-order-in-Order w ↦ subst ArePartsReady (sym w.self-is) w.order.ensures.ready
      | in-PutAccount w ↦ subst ArePartsReady (sym w.self-is) w.put_account.ensures.ready
      | in-PutBook w ↦ subst ArePartsReady (sym w.self-is) w.put_book.ensures.ready
      | in-Collect w ↦ subst ArePartsReady (sym w.self-is) w.collect.ensures.ready
    ]
