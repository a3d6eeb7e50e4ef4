use Rattle.std.proofs.Common.{◌+◌, Some, ◌∙◌, ap}
use Rattle.kept_batches.specs.declared.end.End.TheVariants.{Torn}
use Rattle.kept_batches.proofs.Ends.{ended}
use Rattle.kept_batches.proofs.Torns.{is_other, not_torn, torn_at}
use Rattle.kept_batches.proofs.recovery.Recovery.torn_end.Goals as goal

pub returns-in-Torn-clause-some : goal.returns-in-Torn-clause-some
returns-in-Torn-clause-some g c now =
    let s = c.skip.new.self in
    let is = c.in_ok-skip.ensures.end.0 ∙ ap Some c.in-Torn.is in
    torn_at (g.D.Disk.seen s.disk) (g.D.Disk.seen c.args.self.now.disk) s.window.items s.begin s.stop s.head s.lent c.skip.ensures.reads.seen (s.shown now is)
    (ended Torn s.end (g.D.Disk.seen s.disk) s.begin s.next s.stop s.head s.lent s.window.items is c.in_ok-skip.ensures.end.1 (s.state now))

pub returns-in-Whole-clause-none : goal.returns-in-Whole-clause-none
returns-in-Whole-clause-none g c _ now =
    let s = c.skip.new.self in
    not_torn c.in_ok-skip.field-0 (is_other c.in_ok-skip.field-0 c.in-Whole.is) (g.D.Disk.seen s.disk) (g.D.Disk.seen c.args.self.now.disk) (s.begin + s.stop) s.head s.lent c.skip.ensures.reads.seen
    (ended c.in_ok-skip.field-0 s.end (g.D.Disk.seen s.disk) s.begin s.next s.stop s.head s.lent s.window.items c.in_ok-skip.ensures.end.0 c.in_ok-skip.ensures.end.1 (s.state now))
