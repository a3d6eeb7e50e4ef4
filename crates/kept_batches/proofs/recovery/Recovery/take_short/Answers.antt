use Rattle.std.proofs.Common.{ℕ, List, length, take, ◌∙◌, ap, sym}
use Rattle.std.proofs.lemmas.Grind.{merely}
use Rattle.kept_batches.proofs.Moves.{to_whole, to_unbegun, if_false}
use Rattle.kept_batches.proofs.recovery.Recovery.take_short.Goals as goal

pub invariant_of-self-clause-mark_fits : goal.invariant_of-self-clause-mark_fits
invariant_of-self-clause-mark_fits g c = merely tt

pub invariant_of-self-clause-state : goal.invariant_of-self-clause-state
invariant_of-self-clause-state g c now =
    to_whole c.args.self.now.end (g.D.Disk.seen c.args.self.now.disk) c.args.self.now.window.items c.args.self.now.begin c.args.self.now.next c.args.self.now.stop c.args.self.now.head c.args.self.now.lent
    c.requires.start.2 c.requires.start.0 c.requires.start.1 (c.requires.window now) (c.args.self.now.state now)
    (ap (λ (l : List ℕ). take 4 l) (sym c.deref.ensures.value ∙ c.is_shut.ensures.0 c.if-is_shut.true)) (ap length (sym c.deref.ensures.value ∙ c.is_shut.ensures.0 c.if-is_shut.true))

pub invariant_of-self-2-clause-mark_fits : goal.invariant_of-self-2-clause-mark_fits
invariant_of-self-2-clause-mark_fits g c = merely tt

pub invariant_of-self-2-clause-state : goal.invariant_of-self-2-clause-state
invariant_of-self-2-clause-state g c now =
    to_unbegun c.args.self.now.end (g.D.Disk.seen c.args.self.now.disk) c.args.self.now.window.items c.args.self.now.begin c.args.self.now.next c.args.self.now.stop c.args.self.now.head c.args.self.now.lent
    c.requires.start.2 c.requires.start.0 c.requires.start.1 (c.requires.window now) (c.args.self.now.state now)
    c.requires.short.0 c.requires.short.1 (if_false c.is_shut.result (λ e. c.is_shut.ensures.1 (c.deref.ensures.value ∙ e)) c.if-is_shut.false)
