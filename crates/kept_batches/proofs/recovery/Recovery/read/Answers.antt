use Rattle.std.proofs.Common.{◌+◌, refl}
use Rattle.kept_batches.proofs.Windows.{window_read}
use Rattle.kept_batches.proofs.Moves.{moved_state}
use Rattle.kept_batches.proofs.recovery.Recovery.read.Goals as goal

pub invariant_of-self-clause-window_is : goal.invariant_of-self-clause-window_is
invariant_of-self-clause-window_is g c now =
    window_read c.read_window.result (g.D.Disk.seen c.args.self.now.disk) (g.D.Disk.seen c.read_window.new.disk) (c.args.self.now.begin + c.args.self.now.stop) c.args.most c.read_window.new.window.items c.read_window.ensures.ok c.read_window.ensures.err c.read_window.ensures.reads.seen now

pub invariant_of-self-clause-state : goal.invariant_of-self-clause-state
invariant_of-self-clause-state g c now =
    moved_state c.args.self.now.end c.args.self.now.end (g.D.Disk.seen c.args.self.now.disk) (g.D.Disk.seen c.read_window.new.disk) c.args.self.now.begin c.args.self.now.next c.args.self.now.stop c.args.self.now.head c.args.self.now.lent c.args.self.now.window.items c.read_window.new.window.items
    c.requires.lent refl c.read_window.ensures.reads.seen (c.args.self.now.state (c.read_window.ensures.reads.clean now))
