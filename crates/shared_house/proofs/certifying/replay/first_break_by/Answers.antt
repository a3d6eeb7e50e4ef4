use Rattle.std.proofs.Common.{◌≡◌, ◌+◌, ℕ, List, true, false, IfNone, IfSome, ap, refl, sym, ◌∙◌, subst, map, take, arith}
use Rattle.ocpi_types.specs.declared.config.Config.{Config}
use Rattle.cdr_checks.specs.Admission.{IsAdmitted}
use Rattle.shared_house.specs.declared.certifying.turn.Turn.{Turn}
use Rattle.shared_house.specs.Inner.Turns.{AreFit, IsNext, PlainTurn, Tears, added_at, plain_turn}
use Rattle.shared_house.proofs.FitLemmas.{none_fit}
use Rattle.shared_house.proofs.ReplayLemmas.{all_done, all_plain, counted, none_left, plain_at, turn_breaks, turn_fit, within_plain}
use Rattle.shared_house.proofs.certifying.replay.first_break_by.Goals as goal
use Rattle.shared_house.proofs.certifying.replay.first_break_by.Goals.{then-adds_event, else-adds_event}

pub loop-turn-init : goal.loop-turn-init
loop-turn-init c = record {
  config = refl;
  events = c.requires.empty;
  fit = none_fit c.args.house.now.config c.args.events.now (c.empty_lists_are_legal.ensures c.args.house.now.config);
}

pub take_turn-requires-clause-admitted : goal.take_turn-requires-clause-admitted
take_turn-requires-clause-admitted c =
    let turn : Turn = c.turn-item.result in
    subst (λ (config : Config). IsAdmitted config turn.call.now.command) (sym c.loop-turn.invariant.config)
    (subst (λ (x : Turn). IsAdmitted c.args.house.now.config x.call.now.command) (sym c.turn-item.is) (c.requires.admitted c.loop-turn.turn-index turn c.loop-turn-test.true))

pub loop-turn-preserved : goal.loop-turn-preserved
loop-turn-preserved c =
    let xs : List Turn = c.args.turns.now in
    let turn : Turn = c.turn-item.result in
    let config = c.args.house.now.config in
    let events = c.args.events.now in
    let count : ℕ = c.loop-turn.count in
    let admitted : IsAdmitted config turn.call.now.command =
    subst (λ (x : Turn). IsAdmitted config x.call.now.command) (sym c.turn-item.is) (c.requires.admitted c.loop-turn.turn-index turn c.loop-turn-test.true) in
    let said : IfNone c.in_ok-number.field-0 (IsNext c.loop-turn.house.config events count (plain_turn turn) c.take_turn.new.house.events) = c.in_ok-number.ensures.next in
    let next : IsNext c.loop-turn.house.config events count (plain_turn turn) c.take_turn.new.house.events = rw c.in_default.is at said in
    let done = turn_fit config events (map plain_turn xs) c.loop-turn.turn-index (plain_turn turn) (within_plain xs c.loop-turn.turn-index c.loop-turn-test.true)
    (plain_at xs c.loop-turn.turn-index turn c.loop-turn-test.true c.turn-item.is) c.replies_tell_events.ensures c.commands_keep_lists_legal.ensures admitted count c.take_turn.new.house.events
    c.loop-turn.invariant.fit (subst (λ (config : Config). IsNext config events count (plain_turn turn) c.take_turn.new.house.events) c.loop-turn.invariant.config next) in
    let more : c.if-adds_event.count ≡ count + added_at (plain_turn turn) =
    elim c.if-adds_event.branch [
      | then-adds_event w ↦ counted count c.if-adds_event.count (plain_turn turn) true (sym w.if-adds_event.true ∙ c.adds_event.ensures) w.count-is
      | else-adds_event w ↦ counted count c.if-adds_event.count (plain_turn turn) false (sym w.if-adds_event.false ∙ c.adds_event.ensures) (omega (arith, w.count-is))
    ] in
    record {
      config = c.take_turn.ensures.config ∙ c.loop-turn.invariant.config;
      events = done.now_is ∙ ap (λ n. take n events) (sym more);
      fit = subst (AreFit config events (take (c.loop-turn.turn-index + 1) (map plain_turn xs))) (sym more) done.fit;
    }

pub returns-in-Some-clause-torn : goal.returns-in-Some-clause-torn
returns-in-Some-clause-torn c = λ passes are.
    let xs : List Turn = c.args.turns.now in
    let turn : Turn = c.turn-item.result in
    let torn : IfSome c.in_ok-number.field-0 (Tears c.args.house.now.config c.args.events.now c.loop-turn.count (plain_turn turn)) =
    subst (λ (config : Config). IfSome c.in_ok-number.field-0 (Tears config c.args.events.now c.loop-turn.count (plain_turn turn))) c.loop-turn.invariant.config c.in_ok-number.ensures.torn in
    turn_breaks c.args.house.now.config c.args.events.now passes (map plain_turn xs) are c.loop-turn.turn-index (plain_turn turn) (within_plain xs c.loop-turn.turn-index c.loop-turn-test.true)
    (plain_at xs c.loop-turn.turn-index turn c.loop-turn-test.true c.turn-item.is) c.loop-turn.count c.in-Some.number c.loop-turn.invariant.fit
    (rw c.in-Some.is at torn)

pub returns-then-count-events-clause-torn : goal.returns-then-count-events-clause-torn
returns-then-count-events-clause-torn c = λ passes are.
    let xs : List Turn = c.args.turns.now in
    none_left c.args.house.now.config c.args.events.now passes (map plain_turn xs) are c.loop-turn.count
    (subst (λ (l : List PlainTurn). AreFit c.args.house.now.config c.args.events.now l c.loop-turn.count) (all_plain xs c.loop-turn.turn-index c.loop-turn-test.false) c.loop-turn.invariant.fit)
    c.if-count-events.true

pub returns-clause-history : goal.returns-clause-history
returns-clause-history c = λ passes are.
    let xs : List Turn = c.args.turns.now in
    all_done c.args.house.now.config c.args.events.now passes (map plain_turn xs) are c.loop-turn.count
    (subst (λ (l : List PlainTurn). AreFit c.args.house.now.config c.args.events.now l c.loop-turn.count) (all_plain xs c.loop-turn.turn-index c.loop-turn-test.false) c.loop-turn.invariant.fit)
    c.if-count-events.false
