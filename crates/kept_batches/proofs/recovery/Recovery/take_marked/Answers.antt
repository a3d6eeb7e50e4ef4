use Rattle.std.proofs.Common.{arith}
use Rattle.kept_batches.proofs.Lending.{lines_fit}
use Rattle.kept_batches.proofs.Moves.{taken_state, taken_pending}
use Rattle.kept_batches.proofs.recovery.Recovery.take_marked.Goals as goal

pub invariant_of-self-clause-within : goal.invariant_of-self-clause-within
invariant_of-self-clause-within g c = (omega arith, lines_fit c.args.self.now.window.items c.args.self.now.stop c.args.found.size c.requires.batch.lines)

pub invariant_of-self-clause-few : goal.invariant_of-self-clause-few
invariant_of-self-clause-few g c = let same = c.requires.lent in let few = c.args.self.now.few in omega (arith, same, few)

pub invariant_of-self-clause-pending : goal.invariant_of-self-clause-pending
invariant_of-self-clause-pending g c = taken_pending c.args.self.now.window.items c.args.self.now.stop c.args.found.size c.args.self.now.head c.args.found.head c.requires.batch

pub invariant_of-self-clause-state : goal.invariant_of-self-clause-state
invariant_of-self-clause-state g c now =
    taken_state c.args.self.now.end (g.D.Disk.seen c.args.self.now.disk) c.args.self.now.window.items c.args.self.now.begin c.args.self.now.next c.args.self.now.stop c.args.self.now.head c.args.self.now.lent c.args.found.size c.args.found.head
    c.requires.end c.requires.lent c.args.self.now.within.1 (c.args.self.now.window_is now) c.requires.batch (c.args.self.now.state now)
