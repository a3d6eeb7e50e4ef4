use Rattle.std.proofs.Common.{◌≡◌, ◌∙◌, ◌+◌, ◌<◌, ℕ, List, true, false, ap, sym, subst, arith, eqb-true, length, map, take}
use Rattle.ocpi_types.specs.declared.config.Config.{Config}
use Rattle.cdr_checks.specs.Admission.{IsAdmitted}
use Rattle.plain_house.specs.House.{events_after}
use Rattle.period_order.specs.EntryBooks.{Keep}
use Rattle.shared_house.specs.declared.certifying.turn.Turn.{Turn}
use Rattle.shared_house.specs.Inner.Tables.{HasRightTable}
use Rattle.shared_house.specs.Inner.Turns.{AreFit, IsNext, added_at, plain_turn}
use Rattle.shared_house.proofs.ReplayLemmas.{counted, plain_at, turn_fit, within_plain}
use Rattle.shared_house.proofs.certifying.stretches.are_fit.Goals as goal
use Rattle.shared_house.proofs.certifying.stretches.are_fit.Goals.{then-adds_event, else-adds_event}

pub loop-number-preserved : goal.loop-number-preserved
loop-number-preserved c =
    let xs : List Turn = c.args.turns.now in
    let turn : Turn = c.index-turns-number.result in
    let config : Config = c.args.entry_books.now.config in
    let events = c.args.events.now in
    let count : ℕ = c.loop-number.count in
    let number : ℕ = c.loop-number.number in
    let within : number < length xs = omega (arith, c.loop-number-test.true, c.requires.within.1) in
    let more : c.if-adds_event.count ≡ count + added_at (plain_turn turn) =
    elim c.if-adds_event.branch [
      | then-adds_event w ↦ counted count c.if-adds_event.count (plain_turn turn) true (sym w.if-adds_event.true ∙ c.adds_event.ensures) w.count-is
      | else-adds_event w ↦ counted count c.if-adds_event.count (plain_turn turn) false (sym w.if-adds_event.false ∙ c.adds_event.ensures) (omega (arith, w.count-is))
    ] in
    let admitted : IsAdmitted config turn.call.now.command = subst (λ (x : Turn). IsAdmitted config x.call.now.command) (sym c.index-turns-number.is) (c.requires.admitted number turn within) in
    record {
      config = c.takes_turn.ensures.config ∙ c.loop-number.invariant.config;
      fit = λ right begins.
          let now = c.loop-number.invariant.fit right begins in
          let right_here : HasRightTable config events turn.call.now = subst (λ (x : Turn). HasRightTable config events x.call.now) (sym c.index-turns-number.is) (right number turn within) in
          let next : IsNext config events count (plain_turn turn) (events_after config (take count events) turn.call.now.command) =
          subst (λ (own : Config). IsNext own events count (plain_turn turn) (events_after own (take count events) turn.call.now.command)) c.loop-number.invariant.config
          (c.in_ok-takes_turn.ensures.next c.if-not-branch.false
          (subst (λ (own : Config). HasRightTable own events turn.call.now) (sym c.loop-number.invariant.config) right_here) now.1) in
          let done =
          turn_fit config events (map plain_turn xs) number (plain_turn turn) (within_plain xs number within) (plain_at xs number turn within c.index-turns-number.is)
          c.replies_tell_events.ensures c.commands_keep_lists_legal.ensures admitted count _ now.0 next in
          let kept : Keep c.takes_turn.new.entry_books (events_after config (take count events) turn.call.now.command) =
          subst (λ (own : Config). Keep c.takes_turn.new.entry_books (events_after own (take count events) turn.call.now.command)) c.loop-number.invariant.config
          (c.in_ok-takes_turn.ensures.kept c.if-not-branch.false now.1) in (
            subst (AreFit config events (take (number + 1) (map plain_turn xs))) (sym more) done.fit,
            subst (Keep c.takes_turn.new.entry_books) (done.now_is ∙ ap (λ n. take n events) (sym more)) kept,
          );
    }

pub returns : goal.returns
returns c = λ yes right begins.
    let turns = map plain_turn c.args.turns.now in
    let at_end : c.loop-number.number ≡ c.args.stretch.end = omega (arith, c.loop-number-test.false, c.loop-number.auto.number-end c.requires.within.0) in
    subst (λ n. AreFit c.args.entry_books.now.config c.args.events.now (take n turns) c.args.stretch.until) at_end
    (subst (AreFit c.args.entry_books.now.config c.args.events.now (take c.loop-number.number turns)) (eqb-true c.loop-number.count c.args.stretch.until yes) (c.loop-number.invariant.fit right begins).0)
