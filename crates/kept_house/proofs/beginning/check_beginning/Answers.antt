use Rattle.std.proofs.Common.{◌+◌, ◌≤◌, inl, ℕ, List, length, sym, subst, rules}
use Rattle.std.specs.Prelude.{IsNone}
use Rattle.kept_batches.specs.Batch.{text_of}
use Rattle.kept_batches.specs.Recovery.{disk_of, torn_of}
use Rattle.kept_house.proofs.BeginningLemmas.{ends_within}
use Rattle.kept_house.proofs.beginning.check_beginning.Goals as goal
use Rattle.kept_house.proofs.beginning.check_beginning.Goals.{else-is_some-via-then-is_some+else-not-may_be_left, else-is_some-via-else-is_some}

pub returns-in-Some-2-clause-within : goal.returns-in-Some-2-clause-within
returns-in-Some-2-clause-within g c clean =
    let most : ℕ = 79 + length (text_of c.args.batch.now) in
    elim c.else-is_some.branch [
      | else-is_some-via-then-is_some+else-not-may_be_left w ↦
          let few = subst (λ (l : List ℕ). length l ≤ most) w.torn.ensures (w.may_be_left.ensures.0 w.if-not-may_be_left.false) in
          ends_within most (g.D.Disk.seen (disk_of c.args.recovery.now)) (torn_of c.torn_end.new.self) c.in_ok-torn.torn (sym w.if-is_some.ensures) c.in_ok-torn.ensures.some clean few
      | else-is_some-via-else-is_some w ↦
          let none : IsNone c.in_ok-torn.torn = search rules in
          inl (c.in_ok-torn.ensures.none none clean)
    ]
