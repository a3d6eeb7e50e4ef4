-- How far a call is, as a number that no step makes smaller.
use Rattle.std.proofs.Common.{◌≡◌, ◌≢◌, ◌≤◌, ◌<◌, ℕ, List, [], ◌∷◌, Bool, true, false, if◌then◌else◌, refl, sym, ap, ◌∙◌, length, Option, None, Some, is_none, option_map, option_to_list, slice_get, slice_set, arith, ⊎_elim}
use Rattle.std.specs.List.{AllByRecursion}
use Rattle.std.specs.Option.{option_and_then, option_map_or}
use Rattle.std.proofs.lemmas.Bool.{cases_eq}
use Rattle.std.proofs.lemmas.Option.{none-some, same_Some}
use Rattle.ocpi_types.specs.declared.config.Config.{Config}
use Rattle.ocpi_types.specs.declared.config.Operator.{Operator}
use Rattle.cdr_checks.specs.declared.request.Command.{Command}
use Rattle.plain_house.specs.declared.entry.BookEntry.{BookEntry}
use Rattle.plain_house.specs.House.{verdict}
use Rattle.plain_house.specs.Known.{Known}
use Rattle.plain_house.specs.Replies.{stamped}
use Rattle.period_order.specs.declared.decided.Outcome.{Outcome}
use Rattle.period_order.specs.declared.decided.Outcome.TheVariants as outcome
use Rattle.period_order.specs.Decided.{outcome_of}
use Rattle.house_core.specs.declared.running_call.RunningCall.{RunningCall}
use Rattle.house_core.specs.declared.running_call.ReplyDue.{ReplyDue}
use Rattle.house_core.specs.declared.finished.Done.TheVariants as done
use Rattle.house_core.specs.declared.finished.Finished.{Finished}
use Rattle.house_core.specs.declared.stage.Carried.{Carried}
use Rattle.house_core.specs.declared.stage.Stage.{Stage}
use Rattle.house_core.specs.declared.stage.Stage.TheVariants as stage
use Rattle.house_core.specs.declared.step.Action.{Action}
use Rattle.house_core.specs.declared.step.Action.TheVariants as action
use Rattle.house_core.specs.declared.step.Step.{Step}
use Rattle.house_core.specs.Calls.{begun, for_account, for_book, held_account, held_book, ordered, ready, reply_due, reply_due_at, waiting, wanted_account, wanted_book}
use Rattle.house_core.specs.Locks.{Lock, held, lock_at}
use Rattle.house_core.specs.OneHouse.{Ordered, finished, in_order, ordered_at}
use Rattle.house_core.specs.Steps.{Change, abandon, change_by, changed, collect_at, collected, end, ended, ended_by, finishes, known_to, of_account, of_book, of_call, order, orders, put_account, put_book, stage_after, step, take_account, take_book}
use Rattle.house_core.specs.World.{PlainWorld}
use Rattle.house_core.proofs.EventLemmas.{orders_is}
use Rattle.house_core.proofs.Folds.{each-append}
use Rattle.house_core.proofs.PutLemmas.{begun_wants_account, begun_wants_book, met, some_there}
use Rattle.house_core.proofs.TimeLemmas.{made, made_then, only_if, where_free}
use Rattle.house_core.proofs.Wholes.{get-set_other, get-set_same}

pub no_less : 1 < 1 → ⊥
no_less h = omega (arith, h)

abbrev pub rank : Stage → ℕ
rank (stage.Waiting command) = 0
rank (stage.Begun command) = 1
rank (stage.Ordered carried) = 2
rank (stage.Netting netting) = 2
rank (stage.Stating stating) = 2
rank stage.Ended = 3

pub waiting_rank : (s : Stage) (own : Command) → waiting s ≡ Some own → rank s ≡ 0
waiting_rank (stage.Waiting c) own h = refl
waiting_rank (stage.Begun c) own h = absurd (none-some own h)
waiting_rank (stage.Ordered c) own h = absurd (none-some own h)
waiting_rank (stage.Netting c) own h = absurd (none-some own h)
waiting_rank (stage.Stating c) own h = absurd (none-some own h)
waiting_rank stage.Ended own h = absurd (none-some own h)

pub begun_rank : (s : Stage) (own : Command) → begun s ≡ Some own → rank s ≡ 1
begun_rank (stage.Waiting c) own h = absurd (none-some own h)
begun_rank (stage.Begun c) own h = refl
begun_rank (stage.Ordered c) own h = absurd (none-some own h)
begun_rank (stage.Netting c) own h = absurd (none-some own h)
begun_rank (stage.Stating c) own h = absurd (none-some own h)
begun_rank stage.Ended own h = absurd (none-some own h)

ordered_rank : (s : Stage) (c : Carried) → ordered s ≡ Some c → rank s ≡ 2
ordered_rank (stage.Waiting c) own h = absurd (none-some own h)
ordered_rank (stage.Begun c) own h = absurd (none-some own h)
ordered_rank (stage.Ordered c) own h = refl
ordered_rank (stage.Netting c) own h = absurd (none-some own h)
ordered_rank (stage.Stating c) own h = absurd (none-some own h)
ordered_rank stage.Ended own h = absurd (none-some own h)

due_rank : (has_lock : Bool) (s : Stage) (due : ReplyDue) → reply_due_at has_lock s ≡ Some due → rank s ≡ 2
due_rank b (stage.Waiting c) due h = absurd (none-some due h)
due_rank b (stage.Begun c) due h = absurd (none-some due h)
due_rank b (stage.Ordered c) due h = refl
due_rank b (stage.Netting c) due h = refl
due_rank b (stage.Stating c) due h = refl
due_rank b stage.Ended due h = absurd (none-some due h)

after_rank : (config : Config) (known : Known) (o : Outcome) → rank (stage_after config known o) ≡ 2
after_rank config known (outcome.Replied reply event) = refl
after_rank config known (outcome.Closed period) = refl
after_rank config known (outcome.Stated ask) = refl

most_rank : (s : Stage) → rank s ≤ 3
most_rank (stage.Waiting c) = omega arith
most_rank (stage.Begun c) = omega arith
most_rank (stage.Ordered c) = omega arith
most_rank (stage.Netting c) = omega arith
most_rank (stage.Stating c) = omega arith
most_rank stage.Ended = omega arith

pub only_when : {X : Type 0} (b : Bool) (x y : X) → (if b then Some x else None) ≡ Some y → x ≡ y
only_when true x y h = same_Some x y h
only_when false x y h = absurd (none-some y h)

collected_rank : (config : Config) (n : ℕ) (operator : Operator) (entries : List BookEntry) (s next : Stage) → collected config n operator entries s ≡ Some next → (rank s ≡ 2) × (rank next ≡ 2)
collected_rank config n operator entries (stage.Waiting c) next h = absurd (none-some next h)
collected_rank config n operator entries (stage.Begun c) next h = absurd (none-some next h)
collected_rank config n operator entries (stage.Ordered c) next h = absurd (none-some next h)
collected_rank config n operator entries (stage.Netting c) next h = (refl, sym (ap rank (only_when _ _ next h)))
collected_rank config n operator entries (stage.Stating c) next h = (refl, sym (ap rank (only_when _ _ next h)))
collected_rank config n operator entries stage.Ended next h = absurd (none-some next h)

-- where a step changes a call, the call is no less far, and has begun
abbrev pub Further : RunningCall → RunningCall → Type 0
Further call now = (rank call.stage ≤ rank now.stage) × (1 ≤ rank now.stage)

module _ (world : PlainWorld) (number : ℕ) (call : RunningCall) where
  abbrev FurtherBy : Change → Type 0
  FurtherBy change = Further call change.call

  same_rank : (n : ℕ) → rank call.stage ≡ n → 1 ≤ n → Further call call
  same_rank n is some = (omega arith, omega (arith, is, some))

  pub change_further : (a : Action) (change : Change) → change_by world number call a ≡ Some change → FurtherBy change
  change_further action.Begin change h =
      made (λ (own : Command). of_call (record call { begin = length world.order; stage = stage.Begun own })) (waiting call.stage) change FurtherBy
      (λ own e. let zero_is : rank call.stage ≡ 0 = waiting_rank call.stage own e in (omega (arith, zero_is), omega arith)) h
  change_further action.TakeBook change h =
      by (wanted_book call) refl h
    where
      by : (o : Option ℕ) → wanted_book call ≡ o → option_and_then (take_book number call) (lock_at world.books o) ≡ Some change → FurtherBy change
      by None e g = absurd (none-some change g)
      by (Some at) e g =
          let one = some_there (begun call.stage) (begun_wants_book call at e) in
          made_then (take_book number call) (slice_get world.books at) change FurtherBy
          (λ lock e g. where_free (is_none lock.holder) (of_book (record call { has_book = true }) (held number lock)) change FurtherBy (same_rank 1 (begun_rank call.stage one.0 one.1) (omega arith)) g) g
  change_further action.TakeAccount change h =
      by (wanted_account call) refl h
    where
      by : (o : Option ℕ) → wanted_account call ≡ o → option_and_then (take_account number call) (lock_at world.accounts o) ≡ Some change → FurtherBy change
      by None e g = absurd (none-some change g)
      by (Some at) e g =
          let one = some_there (begun call.stage) (begun_wants_account call at e) in
          made_then (take_account number call) (slice_get world.accounts at) change FurtherBy
          (λ lock e g. where_free (is_none lock.holder) (of_account (record call { has_account = true }) (held number lock)) change FurtherBy (same_rank 1 (begun_rank call.stage one.0 one.1) (omega arith)) g) g
  change_further action.Order change h =
      made (order world.config (known_to world call) call) (ready call) change FurtherBy
      (λ own e.
      let one : rank call.stage ≡ 1 = begun_rank call.stage own (only_if _ (begun call.stage) own e) in
      let two : rank (order world.config (known_to world call) call own).call.stage ≡ 2 = after_rank world.config (known_to world call) (outcome_of own (verdict world.config (known_to world call) own)) in
      (omega (arith, one, two), omega (arith, two))) h
  change_further action.PutAccount change h =
      made_then (λ (c : Carried). option_map (put_account call c) (lock_at world.accounts call.account)) (for_account call) change FurtherBy
      (λ c e g. made (put_account call c) (lock_at world.accounts call.account) change FurtherBy
      (λ lock f. same_rank 2 (ordered_rank call.stage c (only_if _ (ordered call.stage) c e)) (omega arith)) g) h
  change_further action.PutBook change h =
      made_then (λ (c : Carried). option_map (put_book call c) (lock_at world.books call.book)) (for_book call) change FurtherBy
      (λ c e g. made (put_book call c) (lock_at world.books call.book) change FurtherBy
      (λ lock f. let two : rank call.stage ≡ 2 = ordered_rank call.stage c (only_if _ (ordered call.stage) c e) in (omega (arith, two), omega arith)) g) h
  change_further (action.Collect operator) change h = by (slice_get world.config.operators operator) (slice_get world.books operator) h
    where
      free : (b : Bool) (party : Operator) (entries : List BookEntry)
          → (if b then option_map (λ (s : Stage). of_call (record call { stage = s })) (collected world.config operator party entries call.stage) else None) ≡ Some change → FurtherBy change
      free true party entries g =
          made (λ (s : Stage). of_call (record call { stage = s })) (collected world.config operator party entries call.stage) change FurtherBy
          (λ s e. let both = collected_rank world.config operator party entries call.stage s e in let was = both.0 in let is = both.1 in (omega (arith, was, is), omega (arith, is))) g
      free false party entries g = absurd (none-some change g)

      by : (party : Option Operator) (lock : Option (Lock BookEntry)) → collect_at world.config operator call party lock ≡ Some change → FurtherBy change
      by None lock g = absurd (none-some change g)
      by (Some party) None g = absurd (none-some change g)
      by (Some party) (Some lock) g = free (is_none lock.holder) party lock.entries g
  change_further action.Abandon change h =
      made (λ (own : Command). abandon call (lock_at world.books (held_book call)) (lock_at world.accounts (held_account call))) (begun call.stage) change FurtherBy
      (λ own e. (most_rank call.stage, omega arith)) h
  change_further action.End change h =
      made (λ (t : ReplyDue). end call) (reply_due call) change FurtherBy (λ t e. (most_rank call.stage, omega arith)) h

-- of a call that is not there, as if it had ended
abbrev pub rank_at : PlainWorld → ℕ → ℕ
rank_at world number = option_map_or (λ (call : RunningCall). rank call.stage) (slice_get world.calls number) 3

pub rank_is : (world : PlainWorld) (number : ℕ) (call : RunningCall) → slice_get world.calls number ≡ Some call → rank_at world number ≡ rank call.stage
rank_is world number call is = ap (λ (o : Option RunningCall). option_map_or (λ (c : RunningCall). rank c.stage) o 3) is

-- the call of a step is changed, and no other
rank_set : (world : PlainWorld) (number : ℕ) (call now : RunningCall) → slice_get world.calls number ≡ Some call
    → option_map_or (λ (c : RunningCall). rank c.stage) (slice_get (slice_set world.calls number now) number) 3 ≡ rank now.stage
rank_set world number call now is = ap (λ (o : Option RunningCall). option_map_or (λ (c : RunningCall). rank c.stage) o 3) (get-set_same world.calls number now call is)

pub step_rank : (world : PlainWorld) (one : Step) (n : ℕ) → rank_at world n ≤ rank_at (step world one) n
step_rank world one n = by (slice_get world.calls one.call) refl
  where
    put : (call : RunningCall) → slice_get world.calls one.call ≡ Some call → (o : Option Change) → change_by world one.call call one.action ≡ o → rank_at world n ≤ rank_at (changed world one.call o) n
    put call is None e = omega arith
    put call is (Some change) e = ⊎_elim
        (λ (same : n ≡ one.call).
        let further = (change_further world one.call call one.action change e).0 in
        let was : rank_at world n ≡ rank call.stage = ap (rank_at world) same ∙ rank_is world one.call call is in
        let now : rank_at (changed world one.call (Some change)) n ≡ rank change.call.stage =
        ap (rank_at (changed world one.call (Some change))) same ∙ rank_set world one.call call change.call is in
        omega (arith, further, was, now))
        (λ (apart : n ≢ one.call).
        let same : rank_at (changed world one.call (Some change)) n ≡ rank_at world n =
        ap (λ (o : Option RunningCall). option_map_or (λ (c : RunningCall). rank c.stage) o 3) (get-set_other world.calls one.call n change.call apart) in
        omega (arith, same))
        (cases_eq n one.call)

    by : (o : Option RunningCall) → slice_get world.calls one.call ≡ o → rank_at world n ≤ rank_at (changed world one.call (option_and_then (λ (call : RunningCall). change_by world one.call call one.action) o)) n
    by None e = omega arith
    by (Some call) e = put call e (change_by world one.call call one.action) refl

-- ---- places

-- a call that is given its place has begun, and goes on
pub order_rank : (world : PlainWorld) (one : Step) (own : Command) → orders world one ≡ Some own → (rank_at world one.call ≡ 1) × (2 ≤ rank_at (step world one) one.call)
order_rank world one own h =
    let it = orders_is (slice_get world.calls one.call) one.action own h in
    let call : RunningCall = it.0 in
    let begins : rank call.stage ≡ 1 = begun_rank call.stage own (met _ (begun call.stage) own it.3).1 in
    let change : Change = order world.config (known_to world call) call own in
    let two : rank change.call.stage ≡ 2 = after_rank world.config (known_to world call) (outcome_of own (verdict world.config (known_to world call) own)) in
    let stepped : step world one ≡ changed world one.call (Some change) =
    ap (λ (o : Option RunningCall). changed world one.call (option_and_then (λ (c : RunningCall). change_by world one.call c one.action) o)) it.1
    ∙ ap (λ (a : Action). changed world one.call (change_by world one.call call a)) it.2
    ∙ ap (λ (o : Option Command). changed world one.call (option_map (order world.config (known_to world call) call) o)) it.3 in
    let now : rank_at (step world one) one.call ≡ 2 = ap (λ (w : PlainWorld). rank_at w one.call) stepped ∙ rank_set world one.call call change.call it.1 ∙ two in
    (rank_is world one.call call it.1 ∙ begins, omega (arith, now))

-- a call that is as far is given no place later
pub ordered_later : (n : ℕ) (world : PlainWorld) (steps : List Step) → 2 ≤ rank_at world n → AllByRecursion (λ (o : Ordered). o.call ≢ n) (in_order world steps)
ordered_later n world [] far = tt
ordered_later n world (one ∷ later) far =
    let further = step_rank world one n in
    each-append (λ (o : Ordered). o.call ≢ n) (option_to_list (ordered_at world one)) (in_order (step world one) later)
    (here (orders world one) refl) (ordered_later n (step world one) later (omega (arith, far, further)))
  where
    here : (o : Option Command) → orders world one ≡ o → AllByRecursion (λ (o : Ordered). o.call ≢ n) (option_to_list (option_map {U = Ordered} (λ (own : Command). record { call = one.call; command = own }) o))
    here None e = tt
    here (Some own) e = (
      (λ (same : one.call ≡ n). let is = (order_rank world one own e).0 in let was : rank_at world n ≡ rank_at world one.call = ap (rank_at world) (sym same) in no_less (omega (arith, is, was, far))),
      tt,
    )

-- ---- ends

ended_is : (world : PlainWorld) (number : ℕ) (call : RunningCall) (a : Action) (f : Finished) → ended_by world number call a ≡ Some f
    → (f.call ≡ number) × (rank call.stage ≤ 2) × ((change : Change) × (change_by world number call a ≡ Some change) × (rank change.call.stage ≡ 3))
ended_is world number call action.Begin f h = absurd (none-some f h)
ended_is world number call action.TakeBook f h = absurd (none-some f h)
ended_is world number call action.TakeAccount f h = absurd (none-some f h)
ended_is world number call action.Order f h = absurd (none-some f h)
ended_is world number call action.PutAccount f h = absurd (none-some f h)
ended_is world number call action.PutBook f h = absurd (none-some f h)
ended_is world number call (action.Collect operator) f h = absurd (none-some f h)
ended_is world number call action.Abandon f h = by (begun call.stage) refl h
  where
    by : (o : Option Command) → begun call.stage ≡ o → option_map (λ (own : Command). ended world number call done.Abandoned) o ≡ Some f
        → (f.call ≡ number) × (rank call.stage ≤ 2) × ((change : Change) × (change_by world number call action.Abandon ≡ Some change) × (rank change.call.stage ≡ 3))
    by None e g = absurd (none-some f g)
    by (Some own) e g =
        let one : rank call.stage ≡ 1 = begun_rank call.stage own e in
        let change : Change = abandon call (lock_at world.books (held_book call)) (lock_at world.accounts (held_account call)) in (
          ap (λ (x : Finished). x.call) (sym (same_Some (ended world number call done.Abandoned) f g)),
          omega (arith, one),
          (change, ap (option_map (λ (own : Command). change)) e, refl),
        )
ended_is world number call action.End f h = by (reply_due call) refl h
  where
    by : (o : Option ReplyDue) → reply_due call ≡ o → option_map (λ (t : ReplyDue). ended world number call (done.Answered t.point (stamped t.point t.reply))) o ≡ Some f
        → (f.call ≡ number) × (rank call.stage ≤ 2) × ((change : Change) × (change_by world number call action.End ≡ Some change) × (rank change.call.stage ≡ 3))
    by None e g = absurd (none-some f g)
    by (Some due) e g =
        let two : rank call.stage ≡ 2 = due_rank _ call.stage due e in (
          ap (λ (x : Finished). x.call) (sym (same_Some (ended world number call (done.Answered due.point (stamped due.point due.reply))) f g)),
          omega (arith, two),
          (end call, ap (option_map (λ (t : ReplyDue). end call)) e, refl),
        )

-- a call that ends had not ended before, and has then
pub end_rank : (world : PlainWorld) (one : Step) (f : Finished) → finishes world one ≡ Some f → (f.call ≡ one.call) × (rank_at world f.call ≤ 2) × (3 ≤ rank_at (step world one) f.call)
end_rank world one f h = by (slice_get world.calls one.call) refl h
  where
    by : (o : Option RunningCall) → slice_get world.calls one.call ≡ o → option_and_then (λ (call : RunningCall). ended_by world one.call call one.action) o ≡ Some f
        → (f.call ≡ one.call) × (rank_at world f.call ≤ 2) × (3 ≤ rank_at (changed world one.call (option_and_then (λ (call : RunningCall). change_by world one.call call one.action) o)) f.call)
    by None e g = absurd (none-some f g)
    by (Some call) e g =
        let it = ended_is world one.call call one.action f g in
        let change : Change = it.2.0 in
        let was : rank_at world f.call ≡ rank call.stage = ap (rank_at world) it.0 ∙ rank_is world one.call call e in
        let most = it.1 in
        let now : rank_at (changed world one.call (change_by world one.call call one.action)) f.call ≡ 3 =
        ap (rank_at (changed world one.call (change_by world one.call call one.action))) it.0
        ∙ ap (λ (o : Option Change). rank_at (changed world one.call o) one.call) it.2.1 ∙ rank_set world one.call call change.call e ∙ it.2.2 in
        (it.0, omega (arith, was, most), omega (arith, now))

-- a call that has ended does not end again
pub ended_later : (n : ℕ) (world : PlainWorld) (steps : List Step) → 3 ≤ rank_at world n → AllByRecursion (λ (f : Finished). f.call ≢ n) (finished world steps)
ended_later n world [] far = tt
ended_later n world (one ∷ later) far =
    let further = step_rank world one n in
    each-append (λ (f : Finished). f.call ≢ n) (option_to_list (finishes world one)) (finished (step world one) later)
    (here (finishes world one) refl) (ended_later n (step world one) later (omega (arith, far, further)))
  where
    here : (o : Option Finished) → finishes world one ≡ o → AllByRecursion (λ (f : Finished). f.call ≢ n) (option_to_list o)
    here None e = tt
    here (Some f) e = (
      (λ (same : f.call ≡ n). let is = (end_rank world one f e).1 in let was : rank_at world n ≡ rank_at world f.call = ap (rank_at world) (sym same) in no_less (omega (arith, is, was, far))),
      tt,
    )
