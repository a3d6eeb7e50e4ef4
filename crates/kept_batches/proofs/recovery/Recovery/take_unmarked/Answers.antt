use Rattle.std.proofs.Common.{ℕ, List, take, arith, ap, sym, ◌∙◌}
use Rattle.kept_batches.proofs.Lending.{lines_fit}
use Rattle.kept_batches.proofs.Moves.{unmarked_taken, unmarked_pending, if_true, if_false}
use Rattle.kept_batches.proofs.recovery.Recovery.take_unmarked.Goals as goal

pub invariant_of-self-clause-within : goal.invariant_of-self-clause-within
invariant_of-self-clause-within g c = (omega arith, lines_fit c.args.self.now.window.items 0 c.args.found.size c.requires.batch.lines)

pub invariant_of-self-clause-pending : goal.invariant_of-self-clause-pending
invariant_of-self-clause-pending g c = unmarked_pending c.args.self.now.window.items c.args.found.size c.args.self.now.head c.args.found.head c.requires.batch

pub invariant_of-self-clause-state : goal.invariant_of-self-clause-state
invariant_of-self-clause-state g c now =
    let half = ap (λ (l : List ℕ). take 2 l) c.deref.ensures.value in
    unmarked_taken c.args.self.now.end (g.D.Disk.seen c.args.self.now.disk) c.args.self.now.window.items c.args.self.now.begin c.args.self.now.next c.args.self.now.stop c.args.self.now.head c.args.self.now.lent c.args.found.size c.args.found.head
    c.begins_shut.result c.requires.start.2 c.requires.start.0 c.requires.start.1 (c.requires.window now) c.requires.batch
    (if_true c.begins_shut.result (λ t. sym half ∙ c.begins_shut.ensures.0 t)) (if_false c.begins_shut.result (λ e. c.begins_shut.ensures.1 (half ∙ e))) (c.args.self.now.state now)
