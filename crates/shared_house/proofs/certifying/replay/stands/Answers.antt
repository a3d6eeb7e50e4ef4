use Rattle.std.proofs.Common.{◌≡◌, ◌↔◌, ◌-◌, ℕ, List, Some, true, false, refl, sym, ap, ◌∙◌, subst, length, slice_get}
use Rattle.plain_house.specs.Laws.{adds_event}
use Rattle.plain_house.specs.declared.event.Event.{Event}
use Rattle.plain_house.specs.House.{reply_of}
use Rattle.shared_house.specs.History.{events_before}
use Rattle.shared_house.proofs.StandLemmas.{answered, stands_adding, stands_silent}
use Rattle.shared_house.proofs.certifying.replay.stands.Goals as goal

pub returns-then-not-adds_event-clause-stands : goal.returns-then-not-adds_event-clause-stands
returns-then-not-adds_event-clause-stands c =
    let config = c.args.house.now.config in
    let events = c.args.events.now in
    let call = c.args.call.now in
    let told = answered config events c.args.house.now.events c.do_command-reply.new.self.events call c.in_ok-command.command c.do_command-reply.result c.requires.before c.in_ok-command.ensures c.do_command-reply.ensures.does (sym c.if-is_out_of_memory.ensures) in
    let same : call.reply ≡ reply_of config (events_before events call) call.command = sym (c.if-not-is_same.ensures.0 refl) ∙ told.0 in
    let none : adds_event (reply_of config (events_before events call) call.command) ≡ false = ap adds_event (sym told.0) ∙ sym c.if-not-adds_event.ensures in
    ((λ _. stands_silent c.replies_tell_events.ensures config events call c.requires.within same none), (λ _. refl))

pub returns-clause-stands : goal.returns-clause-stands
returns-clause-stands c =
    let config = c.args.house.now.config in
    let events = c.args.events.now in
    let call = c.args.call.now in
    let now : List Event = c.do_command-reply.new.self.events in
    let told = answered config events c.args.house.now.events now call c.in_ok-command.command c.do_command-reply.result c.requires.before c.in_ok-command.ensures c.do_command-reply.ensures.does (sym c.if-is_out_of_memory.ensures) in
    let same : call.reply ≡ reply_of config (events_before events call) call.command = sym (c.if-not-is_same.ensures.0 refl) ∙ told.0 in
    let some : adds_event (reply_of config (events_before events call) call.command) ≡ true = ap adds_event (sym told.0) ∙ sym c.if-not-adds_event.ensures in
    stands_adding c.replies_tell_events.ensures config events call c.requires.within same some now told.1 c.is_last_at.result
    (subst (λ (n : ℕ). (last : Event) → slice_get now (length now - 1) ≡ Some last → (c.is_last_at.result ≡ true) ↔ (slice_get events n ≡ Some last)) c.point.ensures c.is_last_at.ensures)
