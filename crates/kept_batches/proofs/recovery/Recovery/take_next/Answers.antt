use Rattle.std.proofs.Common.{◌≡◌, ◌≤◌, ◌<◌, Some, length, ◌∙◌, ap, arith}
use Rattle.kept_batches.proofs.Moves.{at_start, if_false}
use Rattle.kept_batches.proofs.Truncated.{damage_of, spent_of, same_place}
use Rattle.kept_batches.proofs.recovery.Recovery.take_next.Given as given
use Rattle.kept_batches.proofs.recovery.Recovery.take_next.Goals as goal

-- at the beginning of the file, the window has more than a mark
long : (g : given.Over) (c : goal.In-Damaged g) → c.args.self.now.begin ≡ 0 → 4 < length c.deref.result.now
long g c start =
    let no_less : length c.args.self.now.window.items ≤ 4 → ⊥ =
    λ few. if_false c.is_short.result (λ both. c.is_short.ensures.1 both) c.if-is_short.false (start, omega (arith, few, c.len.ensures)) in
    omega (arith, no_less, ap length c.deref.ensures.value)

pub returns-in-Damaged-clause-damaged : goal.returns-in-Damaged-clause-damaged
returns-in-Damaged-clause-damaged g c at is now =
    let s = c.args.self.now in
    let file = g.D.Disk.seen s.disk in
    damage_of file s.begin s.head s.lent (at_start s.end file s.begin s.next s.stop s.head s.lent s.window.items c.requires.start.2 c.requires.start.0 c.requires.start.1 (s.state now)) c.deref.result.now (c.deref.ensures.value ∙ c.requires.window now) (long g c) c.in-Damaged.ensures
    ∙ ap Some (same_place s.begin at is)

pub returns-in-Damaged-clause-spent : goal.returns-in-Damaged-clause-spent
returns-in-Damaged-clause-spent g c at is now =
    let s = c.args.self.now in
    let file = g.D.Disk.seen s.disk in
    spent_of file s.begin s.head s.lent (at_start s.end file s.begin s.next s.stop s.head s.lent s.window.items c.requires.start.2 c.requires.start.0 c.requires.start.1 (s.state now)) c.deref.result.now (c.deref.ensures.value ∙ c.requires.window now) (long g c) c.in-Damaged.ensures
