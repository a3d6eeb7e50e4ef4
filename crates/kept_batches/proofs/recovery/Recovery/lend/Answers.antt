use Rattle.std.proofs.Common.{◌-◌, ℕ, List, take, drop, refl, subst, arith}
use Rattle.kept_batches.specs.Inner.Lines.{BeginsLine, BeginsNoLine}
use Rattle.kept_batches.proofs.Lending.{line_fits, lent_is, marked_rest, has_line}
use Rattle.kept_batches.proofs.Moves.{lent_state}
use Rattle.kept_batches.proofs.recovery.Recovery.lend.Goals as goal

pub returns-in_default-clause-line : goal.returns-in_default-clause-line
returns-in_default-clause-line g c = absurd (has_line c.args.self.now.window.items c.args.self.now.next c.args.self.now.stop c.args.self.now.pending c.requires c.args.self.now.within.1 (subst (λ (l : List ℕ). BeginsNoLine (take (c.args.self.now.stop - c.args.self.now.next) (drop c.args.self.now.next l))) c.deref.ensures.value (c.in_default.ensures.none refl)))

pub returns-in_default-clause-count : goal.returns-in_default-clause-count
returns-in_default-clause-count g c = absurd (has_line c.args.self.now.window.items c.args.self.now.next c.args.self.now.stop c.args.self.now.pending c.requires c.args.self.now.within.1 (subst (λ (l : List ℕ). BeginsNoLine (take (c.args.self.now.stop - c.args.self.now.next) (drop c.args.self.now.next l))) c.deref.ensures.value (c.in_default.ensures.none refl)))

pub returns-in_default-clause-progress : goal.returns-in_default-clause-progress
returns-in_default-clause-progress g c = absurd (has_line c.args.self.now.window.items c.args.self.now.next c.args.self.now.stop c.args.self.now.pending c.requires c.args.self.now.within.1 (subst (λ (l : List ℕ). BeginsNoLine (take (c.args.self.now.stop - c.args.self.now.next) (drop c.args.self.now.next l))) c.deref.ensures.value (c.in_default.ensures.none refl)))

pub invariant_of-self-clause-within : goal.invariant_of-self-clause-within
invariant_of-self-clause-within g c =
    let b = subst (λ (l : List ℕ). BeginsLine (take (c.args.self.now.stop - c.args.self.now.next) (drop c.args.self.now.next l)) c.in-Some.count) c.deref.ensures.value c.in-Some.ensures.some in
    let fits = line_fits c.args.self.now.window.items c.args.self.now.next c.args.self.now.stop c.in-Some.count b in
    (omega (arith, fits), c.args.self.now.within.1)

pub invariant_of-self-clause-line_is : goal.invariant_of-self-clause-line_is
invariant_of-self-clause-line_is g c =
    let b = subst (λ (l : List ℕ). BeginsLine (take (c.args.self.now.stop - c.args.self.now.next) (drop c.args.self.now.next l)) c.in-Some.count) c.deref.ensures.value c.in-Some.ensures.some in
    let fits = line_fits c.args.self.now.window.items c.args.self.now.next c.args.self.now.stop c.in-Some.count b in
    let low = c.args.self.now.within.1 in
    (omega arith, omega (arith, fits, low))

pub invariant_of-self-clause-few : goal.invariant_of-self-clause-few
invariant_of-self-clause-few g c = let few = c.args.self.now.few in omega (arith, few)

pub invariant_of-self-clause-pending : goal.invariant_of-self-clause-pending
invariant_of-self-clause-pending g c =
    let b = subst (λ (l : List ℕ). BeginsLine (take (c.args.self.now.stop - c.args.self.now.next) (drop c.args.self.now.next l)) c.in-Some.count) c.deref.ensures.value c.in-Some.ensures.some in
    marked_rest c.args.self.now.window.items c.args.self.now.next c.args.self.now.stop c.in-Some.count b c.args.self.now.pending

pub invariant_of-self-clause-state : goal.invariant_of-self-clause-state
invariant_of-self-clause-state g c now =
    let b = subst (λ (l : List ℕ). BeginsLine (take (c.args.self.now.stop - c.args.self.now.next) (drop c.args.self.now.next l)) c.in-Some.count) c.deref.ensures.value c.in-Some.ensures.some in
    lent_state c.args.self.now.end (g.D.Disk.seen c.args.self.now.disk) c.args.self.now.window.items _ c.args.self.now.next c.args.self.now.stop c.args.self.now.head c.args.self.now.lent c.in-Some.count b (c.args.self.now.state now)

pub returns-clause-line : goal.returns-clause-line
returns-clause-line g c =
    let b = subst (λ (l : List ℕ). BeginsLine (take (c.args.self.now.stop - c.args.self.now.next) (drop c.args.self.now.next l)) c.in-Some.count) c.deref.ensures.value c.in-Some.ensures.some in
    lent_is c.args.self.now.window.items c.args.self.now.next c.args.self.now.stop c.in-Some.count b

pub returns-clause-progress : goal.returns-clause-progress
returns-clause-progress g c =
    let b = subst (λ (l : List ℕ). BeginsLine (take (c.args.self.now.stop - c.args.self.now.next) (drop c.args.self.now.next l)) c.in-Some.count) c.deref.ensures.value c.in-Some.ensures.some in
    let fits = line_fits c.args.self.now.window.items c.args.self.now.next c.args.self.now.stop c.in-Some.count b in
    let low = c.args.self.now.within.1 in
    let whole = c.args.self.now.fits in
    (omega arith, omega (arith, fits, low, whole))
