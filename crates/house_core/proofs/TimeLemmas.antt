-- Calls that do not overlap keep their order.
use Rattle.std.proofs.Common.{◌≡◌, ◌≢◌, ◌≤◌, ℕ, List, [], ◌∷◌, Bool, true, false, if◌then◌else◌, refl, sym, ap, subst, ◌∙◌, length, Option, None, Some, is_none, option_map, option_to_list, slice_get, slice_set, length-append, arith, ⊎_elim}
use Rattle.std.specs.Option.{option_and_then}
use Rattle.std.proofs.lemmas.Bool.{cases_eq}
use Rattle.std.proofs.lemmas.Option.{none-some, same_Some}
use Rattle.ocpi_types.specs.declared.config.Config.{Config}
use Rattle.ocpi_types.specs.declared.config.Operator.{Operator}
use Rattle.cdr_checks.specs.declared.request.Command.{Command}
use Rattle.plain_house.specs.declared.entry.BookEntry.{BookEntry}
use Rattle.plain_house.specs.Replies.{stamped}
use Rattle.house_core.specs.declared.running_call.RunningCall.{RunningCall}
use Rattle.house_core.specs.declared.running_call.ReplyDue.{ReplyDue}
use Rattle.house_core.specs.declared.finished.Done.TheVariants as done
use Rattle.house_core.specs.declared.stage.Carried.{Carried}
use Rattle.house_core.specs.declared.stage.Stage.{Stage}
use Rattle.house_core.specs.declared.stage.Stage.TheVariants as stage
use Rattle.house_core.specs.Locks.{Lock, held, lock_at}
use Rattle.house_core.proofs.Wholes.{get-set_other, get-set_same}
use Rattle.house_core.specs.declared.finished.Finished.{Finished}
use Rattle.house_core.specs.declared.step.Step.{Step}
use Rattle.std.specs.List.{AllByRecursion}
use Rattle.house_core.specs.OneHouse.{IsWaiting, KeepTime, after, finished}
use Rattle.house_core.proofs.Folds.{each-append}
use Rattle.house_core.specs.Steps.{Change, abandon, change_by, changed, collect_at, collected, end, ended, ended_by, finishes, known_to, of_account, of_book, of_call, order, put_account, put_book, step, take_account, take_book}
use Rattle.house_core.specs.declared.step.Action.{Action}
use Rattle.house_core.specs.declared.step.Action.TheVariants as action
use Rattle.house_core.specs.Calls.{begun, for_account, for_book, held_account, held_book, ordered, ready, reply_due, reply_due_at, waiting, wanted_account, wanted_book}
use Rattle.house_core.specs.World.{PlainWorld}

-- the order never shrinks
changed_longer : (world : PlainWorld) (number : ℕ) (o : Option Change) → length world.order ≤ length (changed world number o).order
changed_longer world number None = omega arith
changed_longer world number (Some change) = omega (arith, length-append world.order (option_to_list change.entry))

pub step_longer : (world : PlainWorld) (one : Step) → length world.order ≤ length (step world one).order
step_longer world one = changed_longer world one.call _

pub after_longer : (world : PlainWorld) (steps : List Step) → length world.order ≤ length (after world steps).order
after_longer world [] = omega arith
after_longer world (one ∷ later) =
    let here : length world.order ≤ length (step world one).order = step_longer world one in
    let rest : length (step world one).order ≤ length (after (step world one) later).order = after_longer (step world one) later in
    omega (arith, here, rest)

-- ---- when a call has begun

-- where the call has begun, this is so of its begin
abbrev pub BeganAs : (ℕ → Type 0) → RunningCall → Type 0
BeganAs P call = waiting call.stage ≡ None → P call.begin

-- so many events were there
abbrev pub Late : ℕ → RunningCall → Type 0
Late n call = BeganAs (λ begin. n ≤ begin) call

-- what is so of what is made of what is given
pub made : {X : Type 0} (f : X → Change) (o : Option X) (change : Change) (P : Change → Type 0) → ((x : X) → o ≡ Some x → P (f x)) → option_map f o ≡ Some change → P change
made f None change P all h = absurd (none-some change h)
made f (Some x) change P all h = subst P (same_Some (f x) change h) (all x refl)

pub made_then : {X : Type 0} (f : X → Option Change) (o : Option X) (change : Change) (P : Change → Type 0) → ((x : X) → o ≡ Some x → f x ≡ Some change → P change) → option_and_then f o ≡ Some change → P change
made_then f None change P all h = absurd (none-some change h)
made_then f (Some x) change P all h = all x refl h

pub where_free : (free : Bool) (given change : Change) (P : Change → Type 0) → P given → (if free then Some given else None) ≡ Some change → P change
where_free true given change P holds h = subst P (same_Some given change h) holds
where_free false given change P holds h = absurd (none-some change h)

pub only_if : {X : Type 0} (b : Bool) (o : Option X) (x : X) → (if b then o else None) ≡ Some x → o ≡ Some x
only_if true o x h = h
only_if false o x h = absurd (none-some x h)

made_end : {X : Type 0} {number point : ℕ} (P : ℕ → Type 0) (f : X → Finished) (o : Option X) (g : Finished)
    → ((x : X) → o ≡ Some x → ((f x).call ≡ number) × P (f x).begin × ((f x).end ≡ point))
    → option_map f o ≡ Some g → (g.call ≡ number) × P g.begin × (g.end ≡ point)
made_end P f None g all h = absurd (none-some g h)
made_end {number = number} {point = point} P f (Some x) g all h =
    subst (λ (y : Finished). (y.call ≡ number) × P y.begin × (y.end ≡ point)) (same_Some (f x) g h) (all x refl)

begun_waits : (s : Stage) (own : Command) → begun s ≡ Some own → waiting s ≡ None
begun_waits (stage.Waiting c) own h = absurd (none-some own h)
begun_waits (stage.Begun c) own h = refl
begun_waits (stage.Ordered c) own h = refl
begun_waits (stage.Netting c) own h = refl
begun_waits (stage.Stating c) own h = refl
begun_waits stage.Ended own h = refl

ordered_waits : (s : Stage) (c : Carried) → ordered s ≡ Some c → waiting s ≡ None
ordered_waits (stage.Waiting c) own h = absurd (none-some own h)
ordered_waits (stage.Begun c) own h = refl
ordered_waits (stage.Ordered c) own h = refl
ordered_waits (stage.Netting c) own h = refl
ordered_waits (stage.Stating c) own h = refl
ordered_waits stage.Ended own h = refl

told_waits : (has_lock : Bool) (s : Stage) (t : ReplyDue) → reply_due_at has_lock s ≡ Some t → waiting s ≡ None
told_waits b (stage.Waiting c) own h = absurd (none-some own h)
told_waits b (stage.Begun c) own h = refl
told_waits b (stage.Ordered c) own h = refl
told_waits b (stage.Netting c) own h = refl
told_waits b (stage.Stating c) own h = refl
told_waits b stage.Ended own h = refl

collected_waits : (config : Config) (n : ℕ) (operator : Operator) (entries : List BookEntry) (s next : Stage) → collected config n operator entries s ≡ Some next → waiting s ≡ None
collected_waits config n operator entries (stage.Waiting c) next h = absurd (none-some next h)
collected_waits config n operator entries (stage.Begun c) next h = refl
collected_waits config n operator entries (stage.Ordered c) next h = refl
collected_waits config n operator entries (stage.Netting c) next h = refl
collected_waits config n operator entries (stage.Stating c) next h = refl
collected_waits config n operator entries stage.Ended next h = refl

module _ (P : ℕ → Type 0) (world : PlainWorld) (number : ℕ) (call : RunningCall) (began : BeganAs P call) where
  abbrev AsChanged : Change → Type 0
  AsChanged change = BeganAs P change.call

  change_began : (a : Action) → (a ≡ action.Begin → (own : Command) → waiting call.stage ≡ Some own → P (length world.order))
      → (change : Change) → change_by world number call a ≡ Some change → AsChanged change
  change_began action.Begin here change h =
      made (λ (own : Command). of_call (record call { begin = length world.order; stage = stage.Begun own })) (waiting call.stage) change AsChanged (λ own e. λ w. here refl own e) h
  change_began action.TakeBook here change h =
      made_then (take_book number call) (lock_at world.books (wanted_book call)) change AsChanged
      (λ lock e g. where_free (is_none lock.holder) (of_book (record call { has_book = true }) (held number lock)) change AsChanged began g) h
  change_began action.TakeAccount here change h =
      made_then (take_account number call) (lock_at world.accounts (wanted_account call)) change AsChanged
      (λ lock e g. where_free (is_none lock.holder) (of_account (record call { has_account = true }) (held number lock)) change AsChanged began g) h
  change_began action.Order here change h =
      made (order world.config (known_to world call) call) (ready call) change AsChanged
      (λ own e. λ w. began (begun_waits call.stage own (only_if _ (begun call.stage) own e))) h
  change_began action.PutAccount here change h =
      made_then (λ (c : Carried). option_map (put_account call c) (lock_at world.accounts call.account)) (for_account call) change AsChanged
      (λ c e g. made (put_account call c) (lock_at world.accounts call.account) change AsChanged (λ lock e. began) g) h
  change_began action.PutBook here change h =
      made_then (λ (c : Carried). option_map (put_book call c) (lock_at world.books call.book)) (for_book call) change AsChanged
      (λ c e g. made (put_book call c) (lock_at world.books call.book) change AsChanged (λ lock f. λ w. began (ordered_waits call.stage c (only_if _ (ordered call.stage) c e))) g) h
  change_began (action.Collect operator) here change h = by (slice_get world.config.operators operator) (slice_get world.books operator) h
    where
      free : (b : Bool) (party : Operator) (entries : List BookEntry)
          → (if b then option_map (λ (s : Stage). of_call (record call { stage = s })) (collected world.config operator party entries call.stage) else None) ≡ Some change → AsChanged change
      free true party entries g =
          made (λ (s : Stage). of_call (record call { stage = s })) (collected world.config operator party entries call.stage) change AsChanged
          (λ s e. λ w. began (collected_waits world.config operator party entries call.stage s e)) g
      free false party entries g = absurd (none-some change g)

      by : (party : Option Operator) (lock : Option (Lock BookEntry)) → collect_at world.config operator call party lock ≡ Some change → AsChanged change
      by None lock g = absurd (none-some change g)
      by (Some party) None g = absurd (none-some change g)
      by (Some party) (Some lock) g = free (is_none lock.holder) party lock.entries g
  change_began action.Abandon here change h =
      made (λ (own : Command). abandon call (lock_at world.books (held_book call)) (lock_at world.accounts (held_account call))) (begun call.stage) change AsChanged
      (λ own e. λ w. began (begun_waits call.stage own e)) h
  change_began action.End here change h =
      made (λ (t : ReplyDue). end call) (reply_due call) change AsChanged (λ t e. λ w. began (told_waits _ call.stage t e)) h

-- the call of that number, if it is there
abbrev pub BeganAt : (ℕ → Type 0) → ℕ → PlainWorld → Type 0
BeganAt P c world = (call : RunningCall) → slice_get world.calls c ≡ Some call → BeganAs P call

abbrev pub LateAt : ℕ → ℕ → PlainWorld → Type 0
LateAt n c world = BeganAt (λ begin. n ≤ begin) c world

-- a step leaves it so, if it is so of the number of events where the step begins the call
pub step_began : (P : ℕ → Type 0) (c : ℕ) (world : PlainWorld) (one : Step)
    → (c ≡ one.call → one.action ≡ action.Begin → (call : RunningCall) → slice_get world.calls one.call ≡ Some call → (own : Command) → waiting call.stage ≡ Some own → P (length world.order))
    → BeganAt P c world → BeganAt P c (step world one)
step_began P c world one here began = by (slice_get world.calls one.call) refl
  where
    put : (call : RunningCall) → slice_get world.calls one.call ≡ Some call → (o : Option Change) → change_by world one.call call one.action ≡ o → BeganAt P c (changed world one.call o)
    put call is None e other there = began other there
    put call is (Some change) e other there = ⊎_elim
        (λ (same : c ≡ one.call).
        subst (BeganAs P) (same_Some change.call other (sym (get-set_same world.calls one.call change.call call is) ∙ ap (slice_get (slice_set world.calls one.call change.call)) (sym same) ∙ there))
        (change_began P world one.call call (began call (ap (slice_get world.calls) same ∙ is)) one.action (λ begins own w. here same begins call is own w) change e))
        (λ (apart : c ≢ one.call). began other (sym (get-set_other world.calls one.call c change.call apart) ∙ there))
        (cases_eq c one.call)

    by : (o : Option RunningCall) → slice_get world.calls one.call ≡ o → BeganAt P c (changed world one.call (option_and_then (λ (call : RunningCall). change_by world one.call call one.action) o))
    by None e other there = began other there
    by (Some call) e other there = put call e (change_by world one.call call one.action) refl other there

step_late : (n c : ℕ) (world : PlainWorld) (one : Step) → n ≤ length world.order → LateAt n c world → LateAt n c (step world one)
step_late n c world one within late = step_began (λ begin. n ≤ begin) c world one (λ same begins call is own w. within) late

-- ---- calls that end

ended_began : (P : ℕ → Type 0) (world : PlainWorld) (number : ℕ) (call : RunningCall) → BeganAs P call → (a : Action) (f : Finished) → ended_by world number call a ≡ Some f
    → (f.call ≡ number) × P f.begin × (f.end ≡ length world.order)
ended_began P world number call began action.Begin f h = absurd (none-some f h)
ended_began P world number call began action.TakeBook f h = absurd (none-some f h)
ended_began P world number call began action.TakeAccount f h = absurd (none-some f h)
ended_began P world number call began action.Order f h = absurd (none-some f h)
ended_began P world number call began action.PutAccount f h = absurd (none-some f h)
ended_began P world number call began action.PutBook f h = absurd (none-some f h)
ended_began P world number call began (action.Collect operator) f h = absurd (none-some f h)
ended_began P world number call began action.Abandon f h =
    made_end P (λ (own : Command). ended world number call done.Abandoned) (begun call.stage) f (λ own e. (refl, began (begun_waits call.stage own e), refl)) h
ended_began P world number call began action.End f h =
    made_end P (λ (t : ReplyDue). ended world number call (done.Answered t.point (stamped t.point t.reply))) (reply_due call) f (λ t e. (refl, began (told_waits _ call.stage t e), refl)) h

-- the call that a step ends has its begin, and the number of events as its end
pub finishes_began : (P : ℕ → Type 0) (world : PlainWorld) (one : Step) (f : Finished) → finishes world one ≡ Some f → (BeganAt P f.call world → P f.begin) × (f.end ≡ length world.order)
finishes_began P world one f h = by (slice_get world.calls one.call) refl h
  where
    by : (o : Option RunningCall) → slice_get world.calls one.call ≡ o → option_and_then (λ (call : RunningCall). ended_by world one.call call one.action) o ≡ Some f
        → (BeganAt P f.call world → P f.begin) × (f.end ≡ length world.order)
    by None e g = absurd (none-some f g)
    by (Some call) e g =
        let of_step = ended_began (λ begin. Unit {0}) world one.call call (λ w. tt) one.action f g in (
          (λ began. (ended_began P world one.call call (began call (ap (slice_get world.calls) of_step.0 ∙ e)) one.action f g).1),
          of_step.2,
        )

module _ (n : ℕ) (Meant : ℕ → Type 0) where
  one_late : (world : PlainWorld) → ((c : ℕ) → Meant c → LateAt n c world) → (one : Step) (o : Option Finished) → finishes world one ≡ o → AllByRecursion (λ f. Meant f.call → n ≤ f.begin) (option_to_list o)
  one_late world late one None e = tt
  one_late world late one (Some f) e = ((λ meant. (finishes_began (λ begin. n ≤ begin) world one f e).0 (late f.call meant)), tt)

  all_late : (world : PlainWorld) (steps : List Step) → n ≤ length world.order → ((c : ℕ) → Meant c → LateAt n c world) → AllByRecursion (λ f. Meant f.call → n ≤ f.begin) (finished world steps)
  all_late world [] within late = tt
  all_late world (one ∷ later) within late =
      let longer : length world.order ≤ length (step world one).order = step_longer world one in
      each-append (λ (f : Finished). Meant f.call → n ≤ f.begin) (option_to_list (finishes world one)) (finished (step world one) later)
      (one_late world late one (finishes world one) refl)
      (all_late (step world one) later (omega (arith, within, longer)) (λ c meant. step_late n c world one within (late c meant)))

-- what has ended did so at no more events than there are then
all_ended : (world : PlainWorld) (steps : List Step) → AllByRecursion (λ f. f.end ≤ length (after world steps).order) (finished world steps)
all_ended world [] = tt
all_ended world (one ∷ later) =
    each-append (λ (f : Finished). f.end ≤ length (after (step world one) later).order) (option_to_list (finishes world one)) (finished (step world one) later)
    (first (finishes world one) refl) (all_ended (step world one) later)
  where
    first : (o : Option Finished) → finishes world one ≡ o → AllByRecursion (λ f. f.end ≤ length (after (step world one) later).order) (option_to_list o)
    first None e = tt
    first (Some f) e =
        let at : f.end ≡ length world.order = (finishes_began (λ begin. Unit {0}) world one f e).1 in
        let here : length world.order ≤ length (step world one).order = step_longer world one in
        let rest : length (step world one).order ≤ length (after (step world one) later).order = after_longer (step world one) later in
        (omega (arith, at, here, rest), tt)

pub each_then : {X : Type 0} (P Q : X → Type 0) (xs : List X) → ((x : X) → P x → Q x) → AllByRecursion P xs → AllByRecursion Q xs
each_then P Q [] all h = tt
each_then P Q (x ∷ xs) all h = (all x h.0, each_then P Q xs all h.1)

not_begun : (n : ℕ) (o : Option RunningCall) (call : RunningCall) → IsWaiting o → o ≡ Some call → Late n call
not_begun n None call w e none = absurd (none-some call e)
not_begun n (Some other) call w e none = absurd (none-some w.0 (sym none ∙ ap (λ (c : RunningCall). waiting c.stage) (sym (same_Some other call e)) ∙ w.1))

-- where one call has ended before another begins, its end is not behind the other's begin
pub keeps_time : (world : PlainWorld) (steps : List Step) → KeepTime world steps
keeps_time world steps earlier later split =
    let middle : PlainWorld = after world earlier in
    let n : ℕ = length middle.order in
    let Meant : ℕ → Type 0 = λ c. IsWaiting (slice_get middle.calls c) in
    let begins : AllByRecursion (λ f. Meant f.call → n ≤ f.begin) (finished middle later) =
    all_late n Meant middle later (omega arith) (λ c meant call there. not_begun n (slice_get middle.calls c) call meant there) in
    each_then (λ (one : Finished). one.end ≤ n) (λ (one : Finished). AllByRecursion (λ another. Meant another.call → one.end ≤ another.begin) (finished middle later)) (finished world earlier)
    (λ one ended. each_then (λ (another : Finished). Meant another.call → n ≤ another.begin) (λ (another : Finished). Meant another.call → one.end ≤ another.begin) (finished middle later)
    (λ another late meant. let begun_late : n ≤ another.begin = late meant in omega (arith, ended, begun_late)) begins)
    (all_ended world earlier)
