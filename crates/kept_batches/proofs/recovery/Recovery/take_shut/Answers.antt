use Rattle.std.proofs.Common.{length, drop, sym, ap, arith}
use Rattle.std.proofs.lemmas.List.{length-take}
use Rattle.std.proofs.lemmas.Grind.{merely}
use Rattle.kept_batches.proofs.Readings.{all_in_window}
use Rattle.kept_batches.proofs.Moves.{to_whole, to_torn}
use Rattle.kept_batches.proofs.recovery.Recovery.take_shut.Goals as goal

pub invariant_of-self-clause-mark_fits : goal.invariant_of-self-clause-mark_fits
invariant_of-self-clause-mark_fits g c = merely tt

pub invariant_of-self-clause-state : goal.invariant_of-self-clause-state
invariant_of-self-clause-state g c now =
    to_whole c.args.self.now.end (g.D.Disk.seen c.args.self.now.disk) c.args.self.now.window.items c.args.self.now.begin c.args.self.now.next c.args.self.now.stop c.args.self.now.head c.args.self.now.lent
    c.requires.start.2 c.requires.start.0 c.requires.start.1 (c.requires.window now) (c.args.self.now.state now)
    c.requires.shut.shut (omega (arith, c.len.ensures, c.if-len-eq4.true))

pub invariant_of-self-2-clause-mark_fits : goal.invariant_of-self-2-clause-mark_fits
invariant_of-self-2-clause-mark_fits g c =
    let low = c.args.self.now.fits in
    let start = c.requires.start.1 in
    merely (omega (arith, low, start, c.len.ensures, c.if-len-eq4.false, ap length c.requires.shut.shut, length-take 4 c.args.self.now.window.items))

pub invariant_of-self-2-clause-state : goal.invariant_of-self-2-clause-state
invariant_of-self-2-clause-state g c now =
    to_torn c.args.self.now.end (g.D.Disk.seen c.args.self.now.disk) c.args.self.now.window.items c.args.self.now.begin c.args.self.now.next c.args.self.now.stop c.args.self.now.head c.args.self.now.lent
    c.requires.start.2 c.requires.start.0 c.requires.start.1 (c.requires.window now) (c.args.self.now.state now)
    c.requires.shut.shut (omega (arith, c.len.ensures, c.if-len-eq4.false, ap length c.requires.shut.shut, length-take 4 c.args.self.now.window.items)) c.requires.shut.few

pub invariant_of-self-2-clause-shown : goal.invariant_of-self-2-clause-shown
invariant_of-self-2-clause-shown g c now _ =
    sym (all_in_window 16_777_300 (drop c.args.self.now.begin (g.D.Disk.seen c.args.self.now.disk)) c.args.self.now.window.items (c.requires.window now) (omega (arith, c.requires.shut.few)))
