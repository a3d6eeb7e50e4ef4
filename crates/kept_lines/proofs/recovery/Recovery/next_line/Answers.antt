use Rattle.std.proofs.Common.{◌≡◌, ℕ, ◌+◌, ◌-◌, ◌<◌, List, length, take, drop, sym, ◌∙◌, ap, subst, arith, rules, length-drop}
use Rattle.std.specs.Prelude.{slice_index, IsErrOf}
use Rattle.kept_lines.specs.declared.error.KeepError.TheVariants.{Damaged}
use Rattle.std.proofs.lemmas.List.{take_rest}
use Rattle.kept_lines.specs.File.{kept_in, BeginsTooLong, MayEnd}
use Rattle.kept_lines.specs.Inner.Window.{BeginsNoLine, BeginsLine}
use Rattle.kept_lines.specs.Reading.{IsFrontOf}
use Rattle.kept_lines.specs.Recovery.{shown, unread}
use Rattle.kept_lines.proofs.Reading.{next_is, is_too_long, place_is, over, nothing_left}
use Rattle.kept_lines.proofs.recovery.Recovery.next_line.Goals as goal

pub returns-then-begins_too_long-clause-too_long : goal.returns-then-begins_too_long-clause-too_long
returns-then-begins_too_long-clause-too_long g c e now =
    let same : unread c.args.self.now ≡ unread c.find.new.self = ap (λ (n : ℕ). drop n (g.D.Disk.seen c.args.self.now.disk)) (sym c.find.ensures.place) ∙ ap (λ (f : List ℕ). drop (c.find.new.self.begin + c.find.new.self.next) f) (sym c.find.ensures.reads.seen) in
    let front : IsFrontOf c.args.self.now.limit (unread c.find.new.self) (drop c.find.new.self.next c.find.new.self.window.items) = search rules in
    let none : BeginsNoLine (drop c.find.new.self.next c.find.new.self.window.items) = search rules in
    let text : take (length c.deref.result.now - c.find.new.self.next) (drop c.find.new.self.next c.deref.result.now) ≡ drop c.find.new.self.next c.find.new.self.window.items = take_rest c.deref.result.now c.find.new.self.next ∙ ap (λ (l : List ℕ). drop c.find.new.self.next l) c.deref.ensures.value in
    let tested = subst (λ (l : List ℕ). (slice_index l 0 ≡ 43) × (c.find.new.self.limit + 1 < length l)) text (c.begins_too_long.ensures.0 c.if-begins_too_long.true) in
    let long = subst (λ (n : ℕ). (slice_index (drop c.find.new.self.next c.find.new.self.window.items) 0 ≡ 43) × (n + 1 < length (drop c.find.new.self.next c.find.new.self.window.items))) c.find.ensures.limit tested in
    subst (BeginsTooLong c.args.self.now.limit) (sym same) (over c.args.self.now.limit (unread c.find.new.self) (drop c.find.new.self.next c.find.new.self.window.items) front none long)

pub returns-in_default-clause-end : goal.returns-in_default-clause-end
returns-in_default-clause-end g c is now =
    let same : unread c.args.self.now ≡ unread c.find.new.self = ap (λ (n : ℕ). drop n (g.D.Disk.seen c.args.self.now.disk)) (sym c.find.ensures.place) ∙ ap (λ (f : List ℕ). drop (c.find.new.self.begin + c.find.new.self.next) f) (sym c.find.ensures.reads.seen) in
    let then = c.check_end.ensures.reads.clean now in
    let front : IsFrontOf c.args.self.now.limit (unread c.find.new.self) (drop c.find.new.self.next c.find.new.self.window.items) = search rules in
    let none : BeginsNoLine (drop c.find.new.self.next c.find.new.self.window.items) = search rules in
    let text : take (length c.deref.result.now - c.find.new.self.next) (drop c.find.new.self.next c.deref.result.now) ≡ drop c.find.new.self.next c.find.new.self.window.items = take_rest c.deref.result.now c.find.new.self.next ∙ ap (λ (l : List ℕ). drop c.find.new.self.next l) c.deref.ensures.value in
    let short : (slice_index (drop c.find.new.self.next c.find.new.self.window.items) 0 ≡ 43) × (c.args.self.now.limit + 1 < length (drop c.find.new.self.next c.find.new.self.window.items)) → ⊥ =
    λ long. let yes = c.begins_too_long.ensures.1 (subst (λ (l : List ℕ). (slice_index l 0 ≡ 43) × (c.find.new.self.limit + 1 < length l)) (sym text) (subst (λ (n : ℕ). (slice_index (drop c.find.new.self.next c.find.new.self.window.items) 0 ≡ 43) × (n + 1 < length (drop c.find.new.self.next c.find.new.self.window.items))) (sym c.find.ensures.limit) long)) in let no = c.if-begins_too_long.false in absurd (cc (yes, no)) in
    record {
      none = ap kept_in same ∙ nothing_left c.args.self.now.limit (unread c.find.new.self) (drop c.find.new.self.next c.find.new.self.window.items) front none short;
      intact = subst MayEnd (sym same) (c.in_ok-check_end.ensures.intact now);
      place = c.check_end.ensures.place ∙ c.find.ensures.place;
      front = subst (λ (l : List ℕ). IsFrontOf c.args.self.now.limit l (shown c.check_end.new.self)) (sym same) (subst (IsFrontOf c.args.self.now.limit (unread c.find.new.self)) (sym c.check_end.ensures.shown) front);
    }

pub returns-in_err-check_end-clause-damaged : goal.returns-in_err-check_end-clause-damaged
returns-in_err-check_end-clause-damaged g c at e now =
    let same : unread c.args.self.now ≡ unread c.find.new.self = ap (λ (n : ℕ). drop n (g.D.Disk.seen c.args.self.now.disk)) (sym c.find.ensures.place) ∙ ap (λ (f : List ℕ). drop (c.find.new.self.begin + c.find.new.self.next) f) (sym c.find.ensures.reads.seen) in
    let then = c.check_end.ensures.reads.clean now in
    let front : IsFrontOf c.args.self.now.limit (unread c.find.new.self) (drop c.find.new.self.next c.find.new.self.window.items) = search rules in
    let none : BeginsNoLine (drop c.find.new.self.next c.find.new.self.window.items) = search rules in
    let text : take (length c.deref.result.now - c.find.new.self.next) (drop c.find.new.self.next c.deref.result.now) ≡ drop c.find.new.self.next c.find.new.self.window.items = take_rest c.deref.result.now c.find.new.self.next ∙ ap (λ (l : List ℕ). drop c.find.new.self.next l) c.deref.ensures.value in
    let short : (slice_index (drop c.find.new.self.next c.find.new.self.window.items) 0 ≡ 43) × (c.args.self.now.limit + 1 < length (drop c.find.new.self.next c.find.new.self.window.items)) → ⊥ =
    λ long. let yes = c.begins_too_long.ensures.1 (subst (λ (l : List ℕ). (slice_index l 0 ≡ 43) × (c.find.new.self.limit + 1 < length l)) (sym text) (subst (λ (n : ℕ). (slice_index (drop c.find.new.self.next c.find.new.self.window.items) 0 ≡ 43) × (n + 1 < length (drop c.find.new.self.next c.find.new.self.window.items))) (sym c.find.ensures.limit) long)) in let no = c.if-begins_too_long.false in absurd (cc (yes, no)) in
    let is : IsErrOf c.check_end.result (Damaged at) = search rules in
    let damage = c.check_end.ensures.damaged at is now in (
      damage.0 ∙ c.find.ensures.place,
      ap kept_in same ∙ nothing_left c.args.self.now.limit (unread c.find.new.self) (drop c.find.new.self.next c.find.new.self.window.items) front none short,
      λ may. damage.1 (subst MayEnd same may),
    )

pub returns-then-count-self-clause-too_long : goal.returns-then-count-self-clause-too_long
returns-then-count-self-clause-too_long g c e now =
    let same : unread c.args.self.now ≡ unread c.find.new.self = ap (λ (n : ℕ). drop n (g.D.Disk.seen c.args.self.now.disk)) (sym c.find.ensures.place) ∙ ap (λ (f : List ℕ). drop (c.find.new.self.begin + c.find.new.self.next) f) (sym c.find.ensures.reads.seen) in
    let line : BeginsLine (drop c.find.new.self.next c.find.new.self.window.items) c.in-Some.count = search rules in
    let limit = c.find.ensures.limit in
    let long = c.if-count-self.true in
    subst (BeginsTooLong c.args.self.now.limit) (sym same)
    (is_too_long (g.D.Disk.seen c.find.new.self.disk) c.find.new.self.window.items c.find.new.self.begin c.find.new.self.next (c.find.new.self.window_is now) c.find.new.self.within c.in-Some.count line c.args.self.now.limit (omega (arith, limit, long)))

pub invariant_of-self : goal.invariant_of-self
invariant_of-self g c =
    let line : BeginsLine (drop c.find.new.self.next c.find.new.self.window.items) c.in-Some.count = search rules in
    record {
      usable = c.find.new.self.usable;
      durable = c.find.new.self.durable;
      window_is = c.find.new.self.window_is;
      place = λ now. place_is (g.D.Disk.seen c.find.new.self.disk) c.find.new.self.window.items c.find.new.self.begin c.find.new.self.next (c.find.new.self.window_is now) c.find.new.self.within c.in-Some.count line (c.find.new.self.place now);
      within = let low = line.within in omega (arith, low, length-drop c.find.new.self.next c.find.new.self.window.items);
      line_is = (omega arith, (let low = line.within in omega (arith, low, length-drop c.find.new.self.next c.find.new.self.window.items)));
      fits = c.find.new.self.fits;
      bounded = c.find.new.self.bounded;
    }

pub returns-clause-line : goal.returns-clause-line
returns-clause-line g c is now =
    let same : unread c.args.self.now ≡ unread c.find.new.self = ap (λ (n : ℕ). drop n (g.D.Disk.seen c.args.self.now.disk)) (sym c.find.ensures.place) ∙ ap (λ (f : List ℕ). drop (c.find.new.self.begin + c.find.new.self.next) f) (sym c.find.ensures.reads.seen) in
    let line : BeginsLine (drop c.find.new.self.next c.find.new.self.window.items) c.in-Some.count = search rules in
    ap kept_in same
    ∙ next_is (g.D.Disk.seen c.find.new.self.disk) c.find.new.self.window.items c.find.new.self.begin c.find.new.self.next (c.find.new.self.window_is now) c.find.new.self.within c.in-Some.count line
